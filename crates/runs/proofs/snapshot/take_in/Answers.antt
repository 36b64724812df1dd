-- `runs::snapshot::take_in` meets its contract: each maximum is the larger of what it was and a magnitude.
use Rattle.runs.proofs.snapshot.take_in.Goals as goal

pub returns : goal.returns
returns c =
    rw (c.larger-2.ensures, c.magnitude-2.ensures, c.larger.ensures, c.magnitude.ensures)
