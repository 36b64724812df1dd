-- `words::part` meets its contract.
use Rattle.std.proofs.Common.{rules}
use Rattle.words.proofs.Words.{part_got}
use Rattle.words.proofs.part.Goals as goal

pub returns : goal.returns
returns c = part_got _ _ _ _ c.get.result c.get.ensures.lookup (search rules)
