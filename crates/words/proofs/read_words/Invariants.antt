use Rattle.std.proofs.Common.{◌≡◌, take}
use Rattle.words.specs.Words.{numbers_at}
use Rattle.words.proofs.read_words.Given as goal

-- the first k numbers are read
abbrev pub invariant-loop-k : goal.invariant-loop-k
invariant-loop-k l = take l.k l.f ≡ numbers_at 8 l.k l.bytes 0
