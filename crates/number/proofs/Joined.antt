-- Patterns of finite numbers: none is a NaN's, and many of them, raised and joined, have the top bit clear exactly where each is finite.
use mathlib.Core.Path.{◌≡◌, refl, sym, ap, ap₂, ◌∙◌}
use mathlib.Core.Bool.{Bool, true, false, not, ◌&&◌}
use Prim.Native.Nat.{ℕ, zero, suc, ◌+◌, ◌<◌, max}
use native.Mathlib.Nat.{add-zero, add-suc}
use native.Mathlib.Numerals.{add-one}
use native.Mathlib.Omega.{arith}
use borrow.Author.Count.{below_none, below_more}
use borrow.Author.Tests.{ltb-true, ltb-false, lt-ltb, le-ltb}
use lib.Bits.{bit_or, or_zero_r, or_lt}
use lib.Dec.{T}
use lib.Ieee.{binary64, nan_bits}
use Rattle.number.specs.Joined.{finite_of, raised_of, joined_to, clear_of}
use Rattle.std.proofs.lemmas.Float.{not_nan_f64_bits}
use Rattle.std.proofs.lemmas.Nat.{le_or_l, le_or_r}
use Rattle.std.proofs.lemmas.Nat.Bits.{bit_at_or, same_from_bits}
use Rattle.std.specs.Int.{bit_at}

pub finite_no_nan : (b : ℕ) → finite_of b ≡ true → T (not (nan_bits binary64 b))
finite_no_nan b h = not_nan_f64_bits b (omega (arith, ltb-true))

-- ---- joining is associative, bit by bit

pub or_assoc : (a b c : ℕ) → bit_or (bit_or a b) c ≡ bit_or a (bit_or b c)
or_assoc a b c =
    same_from_bits _ _ (λ i. simp bit_at_or (max_assoc (bit_at a i) (bit_at b i) (bit_at c i)))
  where
    max_assoc : (x y z : ℕ) → max (max x y) z ≡ max x (max y z)
    max_assoc x y z = omega arith

-- ---- joined entries

pub joined_none : (g : ℕ → ℕ) → 0 ≡ joined_to g 0
unfolding joined_to
joined_none g = refl

-- one entry more, by the code `all | raised(b)`
pub joined_more : (g : ℕ → ℕ) (n r b : ℕ) → r ≡ joined_to g n → b ≡ raised_of (g n) → bit_or r b ≡ joined_to g (n + 1)
unfolding joined_to
joined_more g n r b p q = ap₂ bit_or p q ∙ sym (ap (joined_to g) (add-one n))

pub joined_to_length : (g : ℕ → ℕ) {r m n : ℕ} → r ≡ joined_to g m → m ≡ n → r ≡ joined_to g n
joined_to_length g p q = p ∙ ap (joined_to g) q

-- two stretches that meet
pub joined_then : (g : ℕ → ℕ) (m n : ℕ) → joined_to g (m + n) ≡ bit_or (joined_to g m) (joined_to (λ k. g (m + k)) n)
unfolding joined_to
joined_then g m zero = ap (joined_to g) (add-zero m) ∙ sym (or_zero_r (joined_to g m))
joined_then g m (suc n) =
    ap (joined_to g) (add-suc m n)
    ∙ ap (λ (x : ℕ). bit_or x (raised_of (g (m + n)))) (joined_then g m n)
    ∙ or_assoc (joined_to g m) (joined_to (λ k. g (m + k)) n) (raised_of (g (m + n)))

pub joined_same : (g h : ℕ → ℕ) (n : ℕ) → ((k : ℕ) → k < n → g k ≡ h k) → joined_to g n ≡ joined_to h n
unfolding joined_to
joined_same g h zero e = refl
joined_same g h (suc n) e = ap₂ (λ (x y : ℕ). bit_or x (raised_of y)) (joined_same g h n (λ k l. e k (omega arith))) (e n (omega arith))

-- ---- the top bit

pub raised_clear : (b : ℕ) → clear_of (raised_of b) ≡ finite_of b
raised_clear b = by-test (finite_of b) refl
  where
    by-test : (t : Bool) → finite_of b ≡ t → clear_of (raised_of b) ≡ t
    by-test true e = lt-ltb (raised_of b) 0x8000_0000_0000_0000 (omega (arith, ltb-true))
    by-test false e = le-ltb (raised_of b) 0x8000_0000_0000_0000 (omega (arith, ltb-false))

pub or_clear : (a b : ℕ) → clear_of (bit_or a b) ≡ (clear_of a && clear_of b)
or_clear a b = by-test (clear_of a) (clear_of b) refl refl
  where
    by-test : (s t : Bool) → clear_of a ≡ s → clear_of b ≡ t → clear_of (bit_or a b) ≡ (s && t)
    by-test true true p q =
        lt-ltb _ _ (or_lt 63 a b (ltb-true _ _ p) (ltb-true _ _ q))
    by-test true false p q =
        le-ltb (bit_or a b) 0x8000_0000_0000_0000 (omega (arith, ltb-false, le_or_r a b))
    by-test false t p q = le-ltb (bit_or a b) 0x8000_0000_0000_0000 (omega (arith, ltb-false, le_or_l a b))

-- one entry more
clear_more : (g : ℕ → ℕ) (n : ℕ) → clear_of (joined_to g (suc n)) ≡ (clear_of (joined_to g n) && finite_of (g n))
unfolding joined_to
clear_more g n = or_clear (joined_to g n) (raised_of (g n)) ∙ ap (λ (t : Bool). clear_of (joined_to g n) && t) (raised_clear (g n))

and_left : (s t : Bool) → (s && t) ≡ true → s ≡ true
and_left true t h = refl
and_left false t h = h

and_right : (s t : Bool) → (s && t) ≡ true → t ≡ true
and_right true t h = h
and_right false t h = cc

-- the joined bits are clear exactly where every entry is finite
pub joined_finite : (g : ℕ → ℕ) (n : ℕ) → clear_of (joined_to g n) ≡ true → (k : ℕ) → k < n → finite_of (g k) ≡ true
joined_finite g zero h k l = below_none (λ k. finite_of (g k) ≡ true) k l
joined_finite g (suc n) h k l =
    let both : (clear_of (joined_to g n) && finite_of (g n)) ≡ true = sym (clear_more g n) ∙ h in
    below_more (λ k. finite_of (g k) ≡ true) n
    (joined_finite g n (and_left (clear_of (joined_to g n)) (finite_of (g n)) both))
    (and_right (clear_of (joined_to g n)) (finite_of (g n)) both)
    k (omega arith)

pub finite_joined : (g : ℕ → ℕ) (n : ℕ) → ((k : ℕ) → k < n → finite_of (g k) ≡ true) → clear_of (joined_to g n) ≡ true
unfolding joined_to
finite_joined g zero e = refl
finite_joined g (suc n) e = clear_more g n ∙ ap₂ ◌&&◌ (finite_joined g n (λ k l. e k (omega arith))) (e n (omega arith))
