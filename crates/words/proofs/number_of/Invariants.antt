use Rattle.words.proofs.Words.{Spelled}
use Rattle.words.proofs.number_of.Given as goal

abbrev pub invariant-loop-byte : goal.invariant-loop-byte
invariant-loop-byte l = Spelled l.bytes 0 l.number l.byte-index
