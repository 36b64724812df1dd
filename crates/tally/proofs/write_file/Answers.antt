-- `tally::write_file` meets its contract: the parts of the file stand one behind the other.
use Rattle.std.proofs.Common.{arith}
use Rattle.tally.proofs.Files.{file_put}
use Rattle.tally.proofs.write_file.Goals as goal

pub returns : goal.returns
returns c = file_put _ _ _ _ _ (omega arith) c.requires c.put_number.ensures c.put_number-2.ensures c.write_words.ensures
