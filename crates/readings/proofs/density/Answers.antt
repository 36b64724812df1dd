-- `readings::density` meets its contract: a refused reading has its number.
use Rattle.readings.proofs.Answered.{not_read}
use Rattle.readings.proofs.density.Goals as goal

pub returns-in_err-check_density : goal.returns-in_err-check_density
returns-in_err-check_density c = not_read _ _ _ c.from_residual.ensures.1 c.in_err-check_density.ensures
