-- Digits passed one by one: whether all are digits, and what number they say, which stays small.
use mathlib.Core.Path.{◌≡◌, refl, sym, ◌∙◌}
use mathlib.Core.Bool.{Bool, true, false, ◌&&◌}
use mathlib.Core.List.{List}
use Prim.Native.Nat.{ℕ, zero, suc, ◌+◌, ◌*◌, ◌-◌, ◌^◌, ◌≤◌, ◌<◌}
use native.Mathlib.Nat.{le_refl, pow-suc, pow-le-pow_right, mul-le-mul_right}
use native.Mathlib.Numerals.{add-one}
use native.Mathlib.Omega.{arith}
use lib.Dec.{leb}
use lib.ListN.{length, get_or, drop, drop_of_length-le}
use lib.Seq.{drop-cons}
use borrow.Author.Tests.{leb-true}
use Rattle.line.specs.Line.{is_digit, are_digits, most_digits, is_side, number_after, decimal_of}

-- both sides of a test that holds
pub both : (a b : Bool) → a && b ≡ true → (a ≡ true) × (b ≡ true)
both true b e = (refl, e)
both false true e = (e, refl)
both false false e = (e, e)

pub digit_bounds : (b : ℕ) → is_digit b ≡ true → (48 ≤ b) × (b ≤ 57)
digit_bounds b e =
    let q = both (leb 48 b) (leb b 57) e in
    (leb-true 48 b q.0, leb-true b 57 q.1)

pub record Side (s : List ℕ) : Type 0 where
  pub some : 1 ≤ length s
  pub few : length s ≤ most_digits
  pub digits : are_digits s ≡ true

pub side_told : (s : List ℕ) → is_side s ≡ true → Side s
unfolding is_side
side_told s e =
    let q = both (leb 1 (length s) && leb (length s) most_digits) (are_digits s) e in
    let p = both (leb 1 (length s)) (leb (length s) most_digits) q.0 in
    record { some = leb-true 1 (length s) p.0; few = leb-true (length s) most_digits p.1; digits = q.1 }

-- ---- digits passed one by one: k of them say n, and whether all are digits is left to the others

pub record Said (s : List ℕ) (n k : ℕ) : Type 0 where
  pub same : decimal_of s ≡ number_after n (drop k s)
  pub small : n < 10 ^ k
  pub digits : are_digits s ≡ are_digits (drop k s)

pub said_none : (s : List ℕ) → Said s 0 0
said_none s = record { same = refl; small = omega arith; digits = refl }

module _ (s : List ℕ) (n k : ℕ) (p : Said s n k) where
  pub said_small : k ≤ most_digits → n < 10 ^ most_digits
  said_small l =
      let ten : 0 < 10 = omega arith in omega (arith, p.small, pow-le-pow_right {n = 10} ten l)

  pub said_more : (d : ℕ) → k < length s → is_digit (get_or s k 0) ≡ true → d ≡ get_or s k 0 - 48 → Said s (n * 10 + d) (k + 1)
  unfolding number_after are_digits
  said_more d h e is = rw is (record {
    same = p.same ∙ rw (drop-cons s k 0 h, add-one);
    small = rw (add-one k, pow-suc 10 k) (omega (arith, mul-le-mul_right 10 p.small, digit_bounds (get_or s k 0) e));
    digits = p.digits ∙ rw (drop-cons s k 0 h, e, add-one);
  })

  pub no_digit : k < length s → is_digit (get_or s k 0) ≡ false → are_digits s ≡ false
  unfolding are_digits
  no_digit h e = p.digits ∙ rw (drop-cons s k 0 h, e)

  pub said_all : length s ≤ k → (n ≡ decimal_of s) × (are_digits s ≡ true)
  unfolding number_after are_digits
  said_all h = let e = drop_of_length-le s h in (sym (p.same ∙ rw e), p.digits ∙ rw e)

-- what the loop over a side's digits cites
pub ruleset side_steps = (said_none, said_more, said_small, no_digit, said_all)

-- ---- the number of a side

digit_at : (s : List ℕ) (n k : ℕ) → Said s n k → k < length s → are_digits s ≡ true → is_digit (get_or s k 0) ≡ true
unfolding are_digits
digit_at s n k p h e =
    let left : are_digits (drop k s) ≡ true = sym p.digits ∙ e in
    (both (is_digit (get_or s k 0)) (are_digits (drop (suc k) s)) (rw (drop-cons s k 0 h) at left)).0

side_said : (s : List ℕ) → are_digits s ≡ true → (k : ℕ) → k ≤ length s → (n : ℕ) × Said s n k
side_said s e zero h = (0, said_none s)
side_said s e (suc k) h =
    let p = side_said s e k (omega arith) in
    (p.0 * 10 + (get_or s k 0 - 48), rw add-one at (said_more s p.0 k p.1 _ (omega arith) (digit_at s p.0 k p.1 (omega arith) e) refl))

pub side_small : (s : List ℕ) → is_side s ≡ true → decimal_of s < 10 ^ most_digits
side_small s e =
    let side = side_told s e in
    let p = side_said s side.digits (length s) (le_refl (length s)) in
    rw (← (said_all s p.0 (length s) p.1 (le_refl (length s))).0) (said_small s p.0 (length s) p.1 side.few)
