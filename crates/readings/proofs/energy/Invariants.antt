use Rattle.std.proofs.Common.{◌≡◌}
use Rattle.number.specs.Nine.{sum_to}
use Rattle.readings.specs.Readings.{velocity_at, cell_energy}
use Rattle.readings.proofs.energy.Given as goal

-- the cells below c are summed
abbrev pub invariant-loop-c : goal.invariant-loop-c
invariant-loop-c l = l.ke ≡ sum_to (λ c. cell_energy (velocity_at l.s l.f c)) l.c
