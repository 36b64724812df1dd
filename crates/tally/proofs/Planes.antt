-- What the loop over the planes keeps, and where a written entry stands, so that nothing wraps on the way.
use mathlib.Core.Path.{◌≡◌, refl, ap, ◌∙◌}
use mathlib.Core.List.{List}
use Prim.Native.Nat.{ℕ, ◌+◌, ◌*◌, ◌≤◌, ◌<◌}
use native.Mathlib.Nat.{mul-le-mul_right}
use native.Mathlib.Omega.{arith}
use borrow.Author.Count.{below_none, below_more}
use lib.ListN.{length, get_or, set, length-set}
use lib.Seq.{get_or-set_same, get_or-set_other}
use Rattle.sums.specs.Sums.{sum, wrapped, moved_by}
use Rattle.sums.proofs.Sums.{sum_cong}
use Rattle.settings.specs.Tests.{plane_in}
use Rattle.tally.specs.Tally.{plane, tally_of, moved}
use Rattle.tally.proofs.Tallies.{nine_wrap, is_tally}

-- ---- the planes, one after the other

-- t holds the numbers of the first i planes of f
pub record Planes (n : ℕ) (f t : List ℕ) (i : ℕ) : Type 0 where
  pub size : length t ≡ 10
  pub low : i ≤ 9
  pub done : (k : ℕ) → k < i → plane_in t k ≡ plane n f k

module _ (n : ℕ) (f : List ℕ) where
  pub planes_none : (t : List ℕ) → length t ≡ 10 → Planes n f t 0
  planes_none t size = record { size = size; low = omega arith; done = below_none _ }

  pub planes_more : (t : List ℕ) (i s : ℕ) → i < 9 → Planes n f t i → s ≡ plane n f i → Planes n f (set t (i + 1) s) (i + 1)
  planes_more t i s h p e = record {
    size = length-set t (i + 1) s ∙ p.size;
    low = omega arith;
    done = below_more (λ k. plane_in (set t (i + 1) s) k ≡ plane n f k) i
        (λ k l. get_or-set_other t (i + 1) (k + 1) s 0 (λ d. omega arith) ∙ p.done k l)
        (get_or-set_same t (i + 1) s 0 (omega (arith, p.size)) ∙ e);
  }

  -- and their sum is the first number
  pub planes_all : (t : List ℕ) (i s : ℕ) → 9 ≤ i → Planes n f t i → s ≡ wrapped (sum 9 (λ k. get_or t (k + 1) 0)) → set t 0 s ≡ tally_of n f
  planes_all t i s h p e =
      is_tally n f (set t 0 s) (length-set t 0 s ∙ p.size)
      (get_or-set_same t 0 s 0 (omega (arith, p.size))
      ∙ e
      ∙ ap wrapped (sum_cong 9 (plane_in t) (plane n f) (λ k l. p.done k (omega arith)))
      ∙ nine_wrap n f)
      (λ k l. get_or-set_other t 0 (k + 1) s 0 (λ d. omega arith) ∙ p.done k (omega arith))

-- plane i is one of nine stretches of n
pub stretch_in : (n i : ℕ) → i < 9 → i * n + n ≤ 9 * n
stretch_in n i h = omega (arith, mul-le-mul_right n h)

-- ---- one changed entry

-- the two stores of `shift`: the second finds its number as it was
pub shifted : (i old new first second : ℕ) (t : List ℕ) → first ≡ moved_by old new (get_or t 0 0)
    → second ≡ moved_by old new (get_or (set t 0 first) (i + 1) 0) → set (set t 0 first) (i + 1) second ≡ moved i old new t
unfolding moved
shifted i old new first second t e is =
    rw (is, get_or-set_other t 0 (i + 1) first 0 (λ p. omega arith), e) refl
