use Prim.Native.Nat.{◌*◌}
use Rattle.runs.proofs.Snapshots.{Taking}
use Rattle.runs.proofs.snapshot.take_snapshot.Given as goal

abbrev pub invariant-loop-c : goal.invariant-loop-c
invariant-loop-c l = Taking l.s l.f l.initial.u l.u (l.s.nx * l.s.ny) l.max l.c
