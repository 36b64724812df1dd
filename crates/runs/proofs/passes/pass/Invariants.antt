use Rattle.runs.proofs.Cellwise.{Passing}
use Rattle.runs.proofs.passes.pass.Given as goal

abbrev pub invariant-loop-c : goal.invariant-loop-c
invariant-loop-c g l = Passing (g.K.Collide.rule l.rates) l.force.x l.force.y l.floor l.n l.f l.initial.post l.post l.c
