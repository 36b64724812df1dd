use Rattle.line.proofs.Sides.{Said}
use Rattle.line.proofs.side.Given as goal

abbrev pub invariant-loop-b : goal.invariant-loop-b
invariant-loop-b l = Said l.digits l.n l.b-index
