-- `words::number_of` meets its contract. The loop's invariant: the number that the first bytes spell.
use Rattle.std.proofs.Common.{◌∙◌, ◌<◌, arith, zero-add, ap, sym, get_or, ℕ}
use Rattle.words.proofs.Words.{spelled_none, spelled_more, fits_more}
use Rattle.words.proofs.number_of.Goals as goal

pub loop-byte-init : goal.loop-byte-init
loop-byte-init c = spelled_none _ _

pub overflow_mul-number : goal.overflow_mul-number
overflow_mul-number c =
    let l = c.loop-byte in omega (arith, fits_more l.byte-index l.number 0 (omega arith) l.invariant.small (omega arith))

pub overflow_add-number : goal.overflow_add-number
overflow_add-number c =
    let l = c.loop-byte in
    let small : c.from.result < 256 = omega (arith, c.from.ensures, c.type_inv.bytes l.byte-index) in
    omega (arith, fits_more l.byte-index l.number c.from.result (omega arith) l.invariant.small small)

pub loop-byte-preserved : goal.loop-byte-preserved
loop-byte-preserved c =
    let l = c.loop-byte in
    let small : c.from.result < 256 = omega (arith, c.from.ensures, c.type_inv.bytes l.byte-index) in
    spelled_more _ _ _ _ _ l.invariant (c.from.ensures ∙ ap (λ (j : ℕ). get_or c.args.bytes.now j 0) (sym (zero-add l.byte-index))) small
