-- `tally::shift` meets its contract: the second store finds its number as it was before the first.
use Rattle.tally.proofs.Planes.{shifted}
use Rattle.tally.proofs.shift.Goals as goal

pub returns : goal.returns
returns c = shifted _ _ _ _ _ _ c.moved_by.ensures c.moved_by-2.ensures
