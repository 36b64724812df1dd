-- `readings::initialize` meets its contract: a refused call leaves the buffer as it was.
use Rattle.readings.proofs.Answered.{not_written}
use Rattle.readings.proofs.initialize.Goals as goal

pub returns-in_err-check_initialize : goal.returns-in_err-check_initialize
returns-in_err-check_initialize c = not_written _ _ _ _ c.from_residual.ensures.1 c.in_err-check_initialize.ensures
