-- `readings::velocity_cells` meets its contract: both components of one cell more are written.
use native.Mathlib.Omega.{arith}
use Rattle.readings.proofs.Fills.{velocity_more}
use Rattle.readings.proofs.velocity_cells.Goals as goal

pub loop-c-preserved : goal.loop-c-preserved
loop-c-preserved c =
    velocity_more _ _ _ _ _ (omega arith) c.read_velocity-m.ensures c.pattern.ensures c.pattern-in-loop-c.ensures c.loop-c.invariant
