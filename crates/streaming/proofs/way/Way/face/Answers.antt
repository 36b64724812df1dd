-- `Way::face` meets its contract. The loop's invariant: the first k cells of the line hold what they take.
use mathlib.Core.Path.{sym, ap, ◌∙◌, subst}
use Prim.Native.Nat.{◌*◌}
use native.Mathlib.Omega.{arith}
use Rattle.streaming.specs.Three.{Apart}
use Rattle.streaming.specs.Lines.{incoming_of}
use Rattle.streaming.specs.Faces.{names}
use Rattle.streaming.proofs.Directions.{sound, apart_facing}
use Rattle.streaming.proofs.Lines.{holds_spot, along_none, along_more}
use Rattle.streaming.proofs.Faces.{still, not_yet, written_whole}
use Rattle.streaming.proofs.way.Way.face.Goals as goal

pub returns-then-is_periodic : goal.returns-then-is_periodic
returns-then-is_periodic c =
    let a = c.args in
    still a.self.back a.axis a.side _ _ _ _ a.f.now (rw c.face.ensures at (sym c.is_periodic.ensures ∙ c.if-is_periodic.true))

pub loop-k-init : goal.loop-k-init
loop-k-init c = along_none c.of-e.result.line _ _ _

pub put-requires : goal.put-requires
put-requires c =
    let e = c.of-e.result in (
      rw c.cell-c.ensures.0 (holds_spot e.line _ c.loop-k.k c.loop-k-test.true (c.loop-k.invariant.size ∙ c.requires.written ∙ sym (ap (λ n. 9 * n) c.of-e.ensures.cells))),
      subst Apart (sym e.into_is) (apart_facing e.back (incoming_of (names e.axis e.side)) (sound e.axis e.side)),
    )

pub loop-k-preserved : goal.loop-k-preserved
loop-k-preserved c =
    let e = c.of-e.result in
    along_more e.line _ _ _ c.loop-k-test.true c.loop-k.invariant (rw c.cell-c.ensures.0 at c.put.ensures)
    (rw c.cell-c.ensures.0 at c.taken.ensures ∙ not_yet e.axis e.side e.kind e.back e.line c.args.post.now c.loop-k.k c.loop-k-test.true c.loop-k.invariant)

pub returns : goal.returns
returns c =
    let a = c.args in
    written_whole a.self.s a.axis a.side a.self.back c.of-e.result a.post.now a.f.now _ c.of-e.ensures (omega arith) c.loop-k.invariant
