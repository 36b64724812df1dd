use Rattle.runs.specs.Steps.{state}
use Rattle.runs.proofs.Stepwise.{Going}
use Rattle.runs.proofs.steps.advance_by.Given as goal

abbrev pub invariant-loop : goal.invariant-loop
invariant-loop l = Going l.s l.steps (state l.initial.f l.initial.post) l.f l.post l.finite l.counter
