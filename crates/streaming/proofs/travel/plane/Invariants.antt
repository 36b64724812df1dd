use Prim.Native.Nat.{◌*◌}
use Rattle.streaming.specs.Rows.{turned_plane}
use Rattle.streaming.proofs.Rows.{Copied}
use Rattle.streaming.proofs.travel.plane.Given as goal

abbrev pub invariant-loop-y : goal.invariant-loop-y
invariant-loop-y l = Copied l.initial.dst l.dst l.base (l.y * l.t.nx) (turned_plane l.t l.base l.src) l.bits
