use Rattle.tally.proofs.Planes.{Planes}
use Rattle.tally.proofs.fresh.Given as goal

-- the first i planes' numbers stand in t
abbrev pub invariant-loop-i : goal.invariant-loop-i
invariant-loop-i l = Planes l.n l.f l.t l.i
