use Rattle.std.proofs.Common.{◌≡◌, ◌*◌, take}
use Rattle.words.specs.Words.{bigs}
use Rattle.words.proofs.write_words.Given as goal

-- the bytes of the first k pairs are written
abbrev pub invariant-loop-k : goal.invariant-loop-k
invariant-loop-k l = take (8 * (2 * l.k)) l.bytes ≡ bigs 8 (take (2 * l.k) l.f)
