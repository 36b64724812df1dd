use Prim.Native.Nat.{◌*◌}
use Rattle.runs.proofs.Snapshots.{Judging}
use Rattle.runs.proofs.snapshot.bad_snapshot.Given as goal

abbrev pub invariant-loop-c : goal.invariant-loop-c
invariant-loop-c l = Judging l.s l.f (l.s.nx * l.s.ny) l.bad l.c
