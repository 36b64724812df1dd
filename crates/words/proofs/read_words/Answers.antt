-- `words::read_words` meets its contract. The loop's invariant: the first k numbers are read.
use Rattle.std.proofs.Common.{◌≡◌, ◌∙◌, refl, sym, ap, ℕ, length, arith, take_all}
use Rattle.words.specs.Words.{numbers_at}
use Rattle.words.proofs.Words.{read_more}
use Rattle.words.proofs.read_words.Goals as goal

pub loop-k-init : goal.loop-k-init
unfolding numbers_at
loop-k-init c = refl

pub loop-k-preserved : goal.loop-k-preserved
loop-k-preserved c =
    let l = c.loop-k in read_more _ _ l.k _ (omega arith) (omega arith) l.invariant c.number_of.ensures

pub returns : goal.returns
returns c =
    let l = c.loop-k in
    let all : l.k ≡ length c.args.f.now = omega arith in
    sym (take_all l.k l.f (omega arith)) ∙ l.invariant ∙ ap (λ (k : ℕ). numbers_at 8 k c.args.bytes.now 0) all
