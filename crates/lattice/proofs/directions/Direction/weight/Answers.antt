-- `lattice::Direction::weight` meets its contract: the table has the patterns of the definition's quotients.
use mathlib.Core.Path.{refl}
use lib.Ieee.{of_bits, div}
use Rattle.lattice.specs.Lattice.{weights}
use Rattle.lattice.proofs.directions.Direction.weight.Goals as goal

pub returns : goal.returns
unfolding weights of_bits div
returns c = refl
