-- `grid::gathered` meets its contract: each of the nine entries is read where it stands.
use Rattle.grid.proofs.Fields.{entry_at, gathered_nine}
use Rattle.grid.proofs.gathered.Goals as goal

pub returns : goal.returns
returns g c =
    let a = c.args in
    let reads = c.requires.reads in
    gathered_nine a.f.now a.n a.c
    (entry_at _ _ _ 0 c.place.ensures.entry (reads _ _ c.read.ensures))
    (entry_at _ _ _ 1 c.place-2.ensures.entry (reads _ _ c.read-2.ensures))
    (entry_at _ _ _ 2 c.place-3.ensures.entry (reads _ _ c.read-3.ensures))
    (entry_at _ _ _ 3 c.place-4.ensures.entry (reads _ _ c.read-4.ensures))
    (entry_at _ _ _ 4 c.place-5.ensures.entry (reads _ _ c.read-5.ensures))
    (entry_at _ _ _ 5 c.place-6.ensures.entry (reads _ _ c.read-6.ensures))
    (entry_at _ _ _ 6 c.place-7.ensures.entry (reads _ _ c.read-7.ensures))
    (entry_at _ _ _ 7 c.place-8.ensures.entry (reads _ _ c.read-8.ensures))
    (entry_at _ _ _ 8 c.place-9.ensures.entry (reads _ _ c.read-9.ensures))
