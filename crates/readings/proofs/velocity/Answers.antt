-- `readings::velocity` meets its contract: a refused reading has its number.
use Rattle.readings.proofs.Answered.{velocity_not_read}
use Rattle.readings.proofs.velocity.Goals as goal

pub returns-in_err-check_velocity : goal.returns-in_err-check_velocity
returns-in_err-check_velocity c = velocity_not_read _ _ _ _ c.from_residual.ensures.1 c.in_err-check_velocity.ensures
