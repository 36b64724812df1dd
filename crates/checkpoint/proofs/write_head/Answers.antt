-- `checkpoint::write_head` meets its contract: the parts stand one behind the other.
use Rattle.checkpoint.proofs.Files.{head_put}
use Rattle.checkpoint.proofs.write_head.Goals as goal

pub returns : goal.returns
returns c =
    head_put _ _ _ _ _ _ _ _ _ _ c.requires.1 c.from.ensures c.put_number.ensures c.put_number-2.ensures
    c.put_number-3.ensures c.put_number-4.ensures c.put_number-5.ensures
