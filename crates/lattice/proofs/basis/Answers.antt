-- `lattice::basis` meets its contract: the table's f64 are the whole numbers.
use mathlib.Core.Path.{refl}
use lib.Ieee.{of_bits, of_int, neg}
use Rattle.lattice.specs.Lattice.{basis, basis_floats}
use Rattle.lattice.proofs.basis.Goals as goal

pub returns : goal.returns
unfolding basis basis_floats of_bits of_int neg
returns c = refl
