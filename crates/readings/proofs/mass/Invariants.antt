use Rattle.std.proofs.Common.{◌≡◌}
use Rattle.number.specs.Nine.{sum_to}
use Rattle.readings.specs.Readings.{density_at}
use Rattle.readings.proofs.mass.Given as goal

-- the cells below c are summed
abbrev pub invariant-loop-c : goal.invariant-loop-c
invariant-loop-c l = l.sum ≡ sum_to (density_at l.fn.s l.f) l.c
