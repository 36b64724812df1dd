-- `TrtRates::relaxed` meets its contract: the nine entries are the nine calls'.
use borrow.Author.Rules.{rules}
use Rattle.lattice.proofs.Results.{nine_by}
use Rattle.cell.specs.Cell.{trt_relaxed_at, trt_relaxed}
use Rattle.cell.proofs.trt.TrtRates.relaxed.Goals as goal

pub returns : goal.returns
unfolding trt_relaxed
returns c = let a = c.args in nine_by (trt_relaxed_at a.self a.f a.feq) c.nine.ensures (λ i x h. search rules)
