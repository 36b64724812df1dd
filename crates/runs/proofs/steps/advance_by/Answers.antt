-- `runs::steps::advance_by` meets its contract. The loop's invariant: the steps are under way.
use Rattle.runs.proofs.Stepwise.{first_told, going_none, going_more}
use Rattle.runs.proofs.steps.advance_by.Goals as goal

pub loop-init : goal.loop-init
loop-init c = going_none c.requires (first_told c.joined.ensures c.clear-finite.ensures)

pub loop-preserved : goal.loop-preserved
loop-preserved c = going_more c.loop-test.true c.loop.invariant c.advance-finite.ensures.stepped c.advance-finite.ensures.told
