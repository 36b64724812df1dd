use Rattle.streaming.specs.Three.{indices}
use Rattle.streaming.specs.Lines.{spot, taken_at}
use Rattle.streaming.specs.Read.{stretch}
use Rattle.streaming.proofs.Lines.{WrittenTo}
use Rattle.streaming.proofs.way.Way.face.Given as goal

abbrev pub invariant-loop-k : goal.invariant-loop-k
invariant-loop-k l =
    let e = l.e in
    let f = l.initial.f in
    WrittenTo e.line f (indices e.into) (λ j. taken_at e.axis e.side e.kind e.back e.line.cells l.post f (spot (stretch e.line) j)) l.f l.k
