use Rattle.runs.specs.Steps.{state}
use Rattle.runs.proofs.Settling.{Underway}
use Rattle.runs.proofs.steady.steady_steps.Given as goal

abbrev pub invariant-loop-taken : goal.invariant-loop-taken
invariant-loop-taken l =
    Underway l.s l.checks (state l.initial.f l.initial.post) l.initial.u l.f l.post l.u l.residual l.finite l.taken
