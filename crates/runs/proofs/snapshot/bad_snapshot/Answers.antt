-- `runs::snapshot::bad_snapshot` meets its contract. The loop's invariant: whether a cell below c is bad.
use Rattle.runs.proofs.Snapshots.{judged_none, judged_more}
use Rattle.runs.proofs.snapshot.bad_snapshot.Goals as goal

pub loop-c-init : goal.loop-c-init
loop-c-init c = judged_none

pub loop-c-preserved : goal.loop-c-preserved
loop-c-preserved c = judged_more c.loop-c.invariant c.loop-c-test.true c.bad_cell-bad.ensures
