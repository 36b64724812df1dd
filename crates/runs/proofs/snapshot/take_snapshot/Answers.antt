-- `runs::snapshot::take_snapshot` meets its contract. The loop's invariant: the cells below c are taken.
use Rattle.runs.proofs.Snapshots.{taken_none, taken_more, taken_all, residual_is}
use Rattle.runs.proofs.snapshot.take_snapshot.Goals as goal

pub loop-c-init : goal.loop-c-init
loop-c-init c = taken_none _ _ _

pub loop-c-preserved : goal.loop-c-preserved
loop-c-preserved c =
    taken_more _ _ _ c.take_cell-max.ensures c.loop-c.invariant c.loop-c-test.true c.read_velocity-m.ensures c.requires.u_size

pub returns : goal.returns
returns c = record {
  taken = taken_all _ _ _ c.loop-c.invariant c.loop-c-test.false c.requires.u_size;
  residual = residual_is _ _ _ c.loop-c.invariant c.loop-c-test.false c.ratio.ensures;
}
