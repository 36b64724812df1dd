-- `checkpoint::write_file` meets its contract: the entries stand behind the head.
use Rattle.checkpoint.proofs.Files.{file_put}
use Rattle.checkpoint.proofs.write_file.Goals as goal

pub returns : goal.returns
returns c = file_put _ _ _ _ _ _ _ c.requires.1 c.requires.2 c.write_head.ensures c.write_words.ensures
