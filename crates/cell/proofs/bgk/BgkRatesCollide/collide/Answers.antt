-- `BgkRates::collide` meets its contract: the nine entries are the nine calls'.
use borrow.Author.Rules.{rules}
use Rattle.lattice.proofs.Results.{nine_by}
use Rattle.cell.specs.Cell.{bgk_at, bgk}
use Rattle.cell.proofs.bgk.BgkRatesCollide.collide.Goals as goal

pub returns : goal.returns
unfolding bgk
returns c = let a = c.args in nine_by (bgk_at a.self a.f a.feq a.src) c.nine.ensures (λ i x h. search rules)
