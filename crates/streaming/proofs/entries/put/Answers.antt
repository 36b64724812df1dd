-- `entries::put` meets its contract: the three stores, one after the other.
use Rattle.streaming.proofs.Lines.{put_three}
use Rattle.streaming.proofs.entries.put.Goals as goal

pub returns : goal.returns
returns c =
    let a = c.args in
    put_three a.f.now a.n a.c a.p a.v c.requires.0 c.requires.1 c.set_entry.ensures.stored c.set_entry-2.ensures.stored c.set_entry-3.ensures.stored
