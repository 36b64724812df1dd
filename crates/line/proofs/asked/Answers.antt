-- `line::asked` meets its contract: the parts that the code takes are those of the form.
use native.Mathlib.Omega.{arith}
use Rattle.line.proofs.Parts.{no_sides, asks}
use Rattle.line.proofs.asked.Goals as goal

pub returns-in_err-letters : goal.returns-in_err-letters
returns-in_err-letters c = rw (no_sides _ c.in_err-letters.ensures.whole.1) c.from_residual.ensures

pub returns : goal.returns
returns c =
    let outer = c.in_ok-letters.ensures.parts in
    let inner = c.in_ok-nx.ensures.parts in
    asks _ (omega arith) outer.0 outer.1 inner.0 inner.1 c.in_ok-x_min.ensures c.in_ok-side.ensures c.in_ok-side-2.ensures
