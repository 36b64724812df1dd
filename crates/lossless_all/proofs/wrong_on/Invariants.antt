use Rattle.std.proofs.Common.{◌≤◌}
use Rattle.lossless_all.proofs.wrong_on.Given as goal

-- no more are wrong than were asked
abbrev pub invariant-loop-q : goal.invariant-loop-q
invariant-loop-q l = l.wrong ≤ l.q
