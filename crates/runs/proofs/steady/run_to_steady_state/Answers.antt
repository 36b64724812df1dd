-- `runs::steady::run_to_steady_state` meets its contract: a refused call leaves the three buffers as they were.
use Rattle.runs.proofs.Settling.{is_ended}
use Rattle.runs.proofs.steady.run_to_steady_state.Goals as goal

pub returns-in_err-check_run_to_steady_state : goal.returns-in_err-check_run_to_steady_state
returns-in_err-check_run_to_steady_state c =
    let a = c.args in
    is_ended a.s a.tolerance a.max_steps a.check_every a.f.now a.post.now a.u.now _ _ c.from_residual.ensures.1 c.in_err-check_run_to_steady_state.ensures
