-- `readings::velocity_field` meets its contract: a refused call leaves the buffer as it was.
use Rattle.readings.proofs.Answered.{not_written}
use Rattle.readings.proofs.velocity_field.Goals as goal

pub returns-in_err-check_velocity_field : goal.returns-in_err-check_velocity_field
returns-in_err-check_velocity_field c = not_written _ _ _ _ c.from_residual.ensures.1 c.in_err-check_velocity_field.ensures
