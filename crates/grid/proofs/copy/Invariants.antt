use Rattle.std.proofs.Common.{◌≡◌, length, take, get_or}
use Rattle.number.specs.Joined.{joined_to}
use Rattle.grid.proofs.copy.Given as goal

abbrev pub invariant-loop-k : goal.invariant-loop-k
invariant-loop-k l = record {
  size : length l.dst ≡ length l.src;
  copied : take l.k l.dst ≡ take l.k l.src;
  joined : l.bits ≡ joined_to (λ j. get_or l.src j 0) l.k;
}
