-- `cell::macroscopic::momentum` meets its contract: it is the sum over the nine components that the calls give.
use mathlib.Core.Path.{◌≡◌}
use mathlib.Core.List.{List}
use lib.Ieee.{Float}
use borrow.Author.Rules.{rules}
use Rattle.number.specs.Nine.{nine, sum_to}
use Rattle.lattice.specs.declared.Axis.{Axis}
use Rattle.lattice.specs.declared.Axis.TheVariants.{X, Y}
use Rattle.lattice.specs.Lattice.{e}
use Rattle.lattice.proofs.Results.{nine_by}
use Rattle.cell.specs.Cell.{sum_of_products, momentum_x, momentum_y, momentum}
use Rattle.cell.proofs.macroscopic.momentum.Goals as goal

summed : (f : List Float) (a : Axis) {l : List Float} {r : Float} → r ≡ sum_of_products f l → l ≡ nine (λ i. e i a) → r ≡ momentum f a
unfolding sum_of_products momentum_x momentum_y sum_to
summed f X p q = rw q at p
summed f Y p q = rw q at p

pub returns : goal.returns
returns c =
    let a = c.args in
    summed a.f a.axis c.sum_of_products.ensures (nine_by (λ i. e i a.axis) c.nine.ensures (λ i x h. search rules))
