-- `runs::steps::run` meets its contract: a refused call leaves both buffers as they were.
use Rattle.runs.proofs.Stepwise.{kept_by, ran}
use Rattle.runs.proofs.steps.run.Goals as goal

pub returns-in_err-check_run : goal.returns-in_err-check_run
returns-in_err-check_run c = kept_by _ c.args.steps _ _ _ _ c.from_residual.ensures.1 c.in_err-check_run.ensures

pub returns : goal.returns
returns c = ran _ c.args.steps _ _ c.in_ok-check_run.ensures c.advance_by.ensures
