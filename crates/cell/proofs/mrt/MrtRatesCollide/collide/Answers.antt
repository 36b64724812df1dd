-- `MrtRates::collide` meets its contract: the nine entries are the nine calls', at M and its norms.
use borrow.Author.Rules.{rules}
use Rattle.lattice.proofs.Results.{nine_by}
use Rattle.cell.specs.Cell.{back_at, mrt}
use Rattle.cell.proofs.mrt.MrtRatesCollide.collide.Goals as goal

pub returns : goal.returns
unfolding mrt
returns c =
    rw (← c.basis-m.ensures, ← c.norms-norms.ensures, ← c.relaxed_moments-post_m.ensures) (nine_by (back_at c.basis-m.result c.norms-norms.result c.relaxed_moments-post_m.result) c.nine.ensures (λ i x h. search rules))
