-- `runs::steady::is_checked` meets its contract, whether `every` is 0 or not.
use native.Mathlib.Omega.{arith}
use borrow.Author.Tests.{eq-eqb, ne_eqb}
use Rattle.runs.proofs.steady.is_checked.Goals as goal
use Rattle.runs.proofs.steady.is_checked.Goals.{then-every-eq0, else-every-eq0}

pub nonzero_rem-result : goal.nonzero_rem-result
nonzero_rem-result c =
    elim c.if-every-eq0.branch [ then-every-eq0 w ↦ omega arith | else-every-eq0 w ↦ omega arith ]

pub returns : goal.returns
returns c =
    elim c.if-every-eq0.branch [
      | then-every-eq0 w ↦ rw (w.every-is, eq-eqb _ 0 w.if-every-eq0.true)
      | else-every-eq0 w ↦ rw (w.every-is, ne_eqb _ 0 w.if-every-eq0.false)
    ]
