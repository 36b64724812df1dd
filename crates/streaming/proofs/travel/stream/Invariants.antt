use Prim.Native.Nat.{◌*◌}
use Rattle.streaming.proofs.Rows.{Copied, flow}
use Rattle.streaming.proofs.travel.stream.Given as goal

abbrev pub invariant-loop-j : goal.invariant-loop-j
invariant-loop-j l = Copied l.initial.dst l.dst 0 (l.j * (l.nx * l.ny)) (flow l.back l.nx l.ny l.src) l.bits
