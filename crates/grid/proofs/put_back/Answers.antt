-- `grid::put_back` meets its contract: the nine stores, one after the other, are `put_nine`'s.
use Rattle.grid.proofs.Writes.{put_nine}
use Rattle.grid.proofs.put_back.Goals as goal

pub returns : goal.returns
returns c =
    put_nine _ _ _ _ c.requires
    c.set_f.ensures.stored
    c.set_f-2.ensures.stored
    c.set_f-3.ensures.stored
    c.set_f-4.ensures.stored
    c.set_f-5.ensures.stored
    c.set_f-6.ensures.stored
    c.set_f-7.ensures.stored
    c.set_f-8.ensures.stored
    c.set_f-9.ensures.stored
