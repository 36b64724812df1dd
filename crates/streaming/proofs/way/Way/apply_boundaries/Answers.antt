-- `Way::apply_boundaries` meets its contract: each face from the field before it, in the order of the rules.
use Rattle.streaming.specs.Turned.{seen}
use Rattle.streaming.proofs.Carried.{four_faces}
use Rattle.streaming.proofs.way.Way.apply_boundaries.Goals as goal

pub returns : goal.returns
returns c =
    let a = c.args in
    let s = a.self.s in
    four_faces a.self.back s (seen a.self.back s.nx s.ny a.post.now) a.f.now _ _ _ _ c.face.ensures c.face-2.ensures c.face-3.ensures c.face-4.ensures
