-- `checkpoint::read_entries` meets its contract.
use Rattle.std.proofs.Common.{◌∙◌, length, arith}
use Rattle.words.proofs.Words.{numbers_in_part}
use Rattle.checkpoint.proofs.read_entries.Goals as goal

pub returns : goal.returns
returns c =
    let a = c.args in c.read_words.ensures ∙ numbers_in_part a.file.now 13 (length a.file.now) 8 (length a.f.now) 0 (omega arith)
