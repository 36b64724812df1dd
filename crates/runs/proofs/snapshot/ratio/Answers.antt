-- `runs::snapshot::ratio` meets its contract, on either side of its test.
use Rattle.runs.proofs.snapshot.ratio.Goals as goal

pub returns-then-max : goal.returns-then-max
returns-then-max c = rw c.if-max.true

pub returns-else-max : goal.returns-else-max
returns-else-max c = rw c.if-max.false
