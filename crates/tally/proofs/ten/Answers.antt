-- `tally::ten` meets its contract: the numbers of a file of that length, and else the zeros that t was made of.
use Rattle.std.proofs.Common.{◌∙◌, sym, length, arith}
use Rattle.words.proofs.Words.{numbers_in_part}
use Rattle.tally.proofs.Files.{ten_of_lem, ten_of_other}
use Rattle.tally.proofs.ten.Goals as goal

pub returns-then-file-eq-TALLY_FILE : goal.returns-then-file-eq-TALLY_FILE
returns-then-file-eq-TALLY_FILE c =
    let file = c.args.file.now in
    c.read_words.ensures ∙ numbers_in_part file 5 (length file) 8 10 0 (omega arith) ∙ sym (ten_of_lem file c.if-file-eq-TALLY_FILE.true)

pub returns-else-file-eq-TALLY_FILE : goal.returns-else-file-eq-TALLY_FILE
returns-else-file-eq-TALLY_FILE c = sym (ten_of_other c.args.file.now c.if-file-eq-TALLY_FILE.false)
