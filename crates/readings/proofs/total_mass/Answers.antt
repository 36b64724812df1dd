-- `readings::total_mass` meets its contract: a refused reading has its number.
use Rattle.readings.proofs.Answered.{not_read}
use Rattle.readings.proofs.total_mass.Goals as goal

pub returns-in_err-check_total_mass : goal.returns-in_err-check_total_mass
returns-in_err-check_total_mass c = not_read _ _ _ c.from_residual.ensures.1 c.in_err-check_total_mass.ensures
