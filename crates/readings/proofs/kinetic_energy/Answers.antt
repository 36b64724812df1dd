-- `readings::kinetic_energy` meets its contract: a refused reading has its number.
use Rattle.readings.proofs.Answered.{not_read}
use Rattle.readings.proofs.kinetic_energy.Goals as goal

pub returns-in_err-check_kinetic_energy : goal.returns-in_err-check_kinetic_energy
returns-in_err-check_kinetic_energy c = not_read _ _ _ c.from_residual.ensures.1 c.in_err-check_kinetic_energy.ensures
