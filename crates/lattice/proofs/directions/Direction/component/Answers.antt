-- `lattice::Direction::component` meets its contract: the table is the definition's, and the machine reads the integer back from its bits.
use mir.ValLaws.{to_z-of_z}
use mir.Syntax.{w32}
use Rattle.lattice.specs.declared.Axis.TheVariants.{X, Y}
use Rattle.lattice.specs.Lattice.{directions}
use Rattle.lattice.proofs.Tables.{component_fits}
use Rattle.lattice.proofs.directions.Direction.component.Goals as goal

pub returns-in-X : goal.returns-in-X
unfolding directions
returns-in-X c = rw c.in-X.is (to_z-of_z w32 _ (component_fits X _ c.args.self.inside))

pub returns-in-Y : goal.returns-in-Y
unfolding directions
returns-in-Y c = rw c.in-Y.is (to_z-of_z w32 _ (component_fits Y _ c.args.self.inside))
