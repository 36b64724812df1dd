use Prim.Native.Nat.{◌*◌}
use Rattle.grid.specs.Writes.{Wrote}
use Rattle.readings.specs.Readings.{velocity_entry}
use Rattle.readings.proofs.velocity_cells.Given as goal

abbrev pub invariant-loop-c : goal.invariant-loop-c
invariant-loop-c l = Wrote l.initial.u l.u 0 (2 * l.c) (velocity_entry l.s l.f)
