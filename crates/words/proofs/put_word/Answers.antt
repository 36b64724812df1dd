-- `words::put_word` meets its contract: one number more is written.
use Rattle.words.proofs.Words.{write_more}
use Rattle.words.proofs.put_word.Goals as goal

pub returns : goal.returns
returns c =
    let a = c.args in
    write_more a.f.now a.bytes.now _ a.k _ c.requires.0 c.requires.1 c.requires.2 c.put_number.ensures
