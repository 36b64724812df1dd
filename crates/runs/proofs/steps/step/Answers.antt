-- `runs::steps::step` meets its contract: a refused call leaves both buffers as they were.
use Rattle.runs.proofs.Stepwise.{kept_by, ran}
use Rattle.runs.proofs.steps.step.Goals as goal

pub returns-in_err-check_step : goal.returns-in_err-check_step
returns-in_err-check_step c = kept_by _ 1 _ _ _ _ c.from_residual.ensures.1 c.in_err-check_step.ensures

pub returns : goal.returns
returns c = ran _ 1 _ _ c.in_ok-check_step.ensures c.advance_by.ensures
