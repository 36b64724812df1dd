use Rattle.grid.specs.Writes.{Cells}
use Rattle.readings.specs.Readings.{initial_entry}
use Rattle.readings.proofs.initialize_cells.Given as goal

abbrev pub invariant-loop-c : goal.invariant-loop-c
invariant-loop-c l = Cells l.initial.f l.f l.n l.c (initial_entry l.table)
