-- A buffer's joined bits are clear exactly where every entry is finite.
use Rattle.std.proofs.Common.{◌≡◌, ap, refl, sym, ◌∙◌, ◌≤◌, zero, suc, take, take_all, add-one, arith}
use mathlib.Core.Bool.{true}
use mathlib.Core.List.{List}
use mathlib.Core.Logic.{⊎_elim}
use Prim.Native.Nat.{ℕ}
use lib.ListN.{length, get_or, get_or-eq_default}
use Rattle.std.specs.List.{fold}
use Rattle.std.specs.Int.Bits.{bit_or}
use Rattle.std.proofs.lemmas.List.Sums.{fold_more}
use Rattle.number.specs.Joined.{finite_of, raised_of, joined_to, clear_of}
use Rattle.number.proofs.Joined.{joined_finite, finite_joined}
use Rattle.grid.specs.Finite.{AllFinite, joined_buffer}
use Rattle.grid.proofs.Radix.{lt_or_ge}

-- the entries folded from the left
joined_first : (b : List ℕ) (n : ℕ) → n ≤ length b → fold (λ r x. bit_or r (raised_of x)) 0 (take n b) ≡ joined_to (λ k. get_or b k 0) n
unfolding joined_to
joined_first b zero h = refl
joined_first b (suc n) h =
    rw (← add-one n, fold_more (λ r x. bit_or r (raised_of x)) 0 b n 0 (omega arith), joined_first b n (omega arith)) refl

pub joined_folded : (b : List ℕ) → fold (λ r x. bit_or r (raised_of x)) 0 b ≡ joined_buffer b
joined_folded b = ap (fold (λ r x. bit_or r (raised_of x)) 0) (sym (take_all (length b) b (omega arith))) ∙ joined_first b (length b) (omega arith)

-- past its end a buffer reads as 0, which is finite
pub all_finite : (b : List ℕ) → clear_of (joined_buffer b) ≡ true → AllFinite b
all_finite b h =
    record {
      entry =
          λ k.
          ⊎_elim
          (λ inside. joined_finite (λ j. get_or b j 0) (length b) h k inside)
          (λ past. ap finite_of (get_or-eq_default b 0 past))
          (lt_or_ge k (length b));
    }

pub finite_clear : (b : List ℕ) → AllFinite b → clear_of (joined_buffer b) ≡ true
finite_clear b f = finite_joined (λ j. get_or b j 0) (length b) (λ k h. f.entry k)
