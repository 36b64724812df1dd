-- `words::write_words` meets its contract. The loop's invariant: the first k pairs are written.
use Rattle.std.proofs.Common.{refl}
use Rattle.words.specs.Words.{bigs}
use Rattle.words.proofs.write_words.Goals as goal

pub loop-k-init : goal.loop-k-init
unfolding bigs
loop-k-init c = refl
