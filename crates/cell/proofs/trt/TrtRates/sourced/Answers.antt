-- `TrtRates::sourced` meets its contract: the nine entries are the nine calls'.
use borrow.Author.Rules.{rules}
use Rattle.lattice.proofs.Results.{nine_by}
use Rattle.cell.specs.Cell.{trt_sourced_at, trt_sourced}
use Rattle.cell.proofs.trt.TrtRates.sourced.Goals as goal

pub returns : goal.returns
unfolding trt_sourced
returns c = let a = c.args in nine_by (trt_sourced_at a.self a.kept a.src) c.nine.ensures (λ i x h. search rules)
