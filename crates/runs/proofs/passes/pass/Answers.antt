-- `runs::passes::pass` meets its contract: after the loop every cell is collided.
use native.Mathlib.Omega.{arith}
use Rattle.runs.proofs.Cellwise.{pass_done}
use Rattle.runs.proofs.passes.pass.Goals as goal

pub returns : goal.returns
returns g c = pass_done c.loop-c.invariant (omega arith) (omega arith)
