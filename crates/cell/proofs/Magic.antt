-- The minus rate of a magic number: 0 where the divisor 1/ω₊ - 0.5 is 0, and from 0 to 2 wherever τ is at least 0.5 and Λ above 0.
use mathlib.Core.Path.{◌≡◌, refl, sym, ap, subst}
use mathlib.Core.Bool.{Bool, true, false, not, cond}
use Prim.Native.Nat.{ℕ, zero, suc, ◌+◌, ◌-◌, ◌*◌, ◌/◌, ◌%◌, ◌^◌, ◌≤◌, ◌<◌, compare}
use native.Mathlib.Nat.{mul-pos, zero-lt-suc}
use native.Mathlib.Omega.{arith}
use lib.Dec.{T, eqb, ltb, lt→ltb, eqb-suc-zero}
use lib.IntN.{ℤ, pos}
use lib.Ieee.{Float, nan, inf, fin, binary64, prec, low, emax, up, down, size, nearest, odd, units, round, of_bits, neg, sum, add, sub, div, le}
use lib.Ieee.Fits.{up_pos, down_pos}
use lib.Ieee.Order.{round_mono}
use lib.Ieee.Positive.{positive, above, above_of_le, le→cross}
use borrow.Author.Tests.{le-ltb}
use Rattle.number.specs.Number.{c0, c½, c1, c2, infinity, ◌⊕◌, ◌⊖◌, ◌⊘◌}
use Rattle.cell.specs.Cell.{trt_omega_minus}

-- ---- a quotient of two numbers that are not negative

over_zero : (m : ℕ) (e d : ℤ) → fin false (suc m) e ⊘ fin false 0 d ≡ inf false
unfolding div
over_zero m e d = ap (λ (b : Bool). cond b nan (inf false)) (eqb-suc-zero m)

over : (m : ℕ) (e : ℤ) (n : ℕ) (d : ℤ) → fin false m e ⊘ fin false (suc n) d ≡ round binary64 false (m * up e * down d) (suc n * up d * down e)
unfolding div
over m e n d =
    ap (λ (b : Bool). cond b (cond (eqb m 0) nan (inf false)) (round binary64 false (m * up e * down d) (suc n * up d * down e)))
    (eqb-suc-zero n)

-- ---- the divisor 0

by_zero : (magic : Float) → T (positive magic) → magic ⊘ c0 ≡ infinity
unfolding of_bits
by_zero nan h = absurd h
by_zero (inf s) h = absurd h
by_zero (fin true m e) h = absurd h
by_zero (fin false zero e) h = absurd h
by_zero (fin false (suc m) e) h = over_zero m e (pos 0)

by_infinity : c1 ⊘ (infinity ⊕ c½) ≡ c0
unfolding of_bits add div
by_infinity = refl

-- it gives infinity, and so the rate 0
pub no_divisor : (omega magic : Float) → T (positive magic) → c1 ⊘ omega ⊖ c½ ≡ c0 → trt_omega_minus omega magic ≡ c0
unfolding trt_omega_minus
no_divisor omega magic h e = rw (e, by_zero magic h) by_infinity

-- ---- from 0 on, infinity included

abbrev pub FromZero : Float → Type 0
FromZero nan = ⊥
FromZero (inf s) = T (not s)
FromZero (fin s m e) = T (not s)

rounded : (a b : ℕ) → FromZero (round binary64 false a b)
unfolding round units odd
rounded a b =
    let n = a * 2 ^ low binary64 in
    let k = size (n / b) - prec binary64 in
    let u = b * 2 ^ k in
    let q = nearest (n / u) (compare (n % u * 2) u) in
    go (ltb (q * 2 ^ k) (2 ^ (low binary64 + suc (emax binary64)))) q k
  where
    go : (small : Bool) (q k : ℕ) → FromZero (cond small (odd (suc (prec binary64)) false q k (low binary64)) (inf false))
    go true zero k = tt
    go true (suc q) k = tt
    go false q k = tt

-- Λ by such a number is one
quotient : (magic x : Float) → T (positive magic) → FromZero x → FromZero (magic ⊘ x)
unfolding div
quotient nan x h z = absurd h
quotient (inf s) x h z = absurd h
quotient (fin true m e) x h z = absurd h
quotient (fin false zero e) x h z = absurd h
quotient (fin false (suc m) e) nan h z = absurd z
quotient (fin false (suc m) e) (inf true) h z = absurd z
quotient (fin false (suc m) e) (inf false) h z = tt
quotient (fin false (suc m) e) (fin true n d) h z = absurd z
quotient (fin false (suc m) e) (fin false zero d) h z = subst FromZero (sym (over_zero m e d)) tt
quotient (fin false (suc m) e) (fin false (suc n) d) h z =
    subst FromZero (sym (over (suc m) e n d)) (rounded (suc m * up e * down d) (suc n * up d * down e))

-- ---- the inverse, of what is at least 0.5, and of what is at most 2

half_is : round binary64 false 1 2 ≡ c½
unfolding of_bits round
half_is = refl

two_is : round binary64 false 2 1 ≡ c2
unfolding of_bits round
two_is = refl

some : (m : ℕ) (e : ℤ) → 0 < suc m * up e * 1
some m e = mul-pos (mul-pos (zero-lt-suc m) (up_pos e)) (zero-lt-suc 0)

-- at least 0.5 are infinity, and fractions of which twice the upper part is at least the lower
at_least_half : (P : Float → Type 0) → P (inf false) → ((m : ℕ) (e : ℤ) → 1 * 1 * down e ≤ suc m * up e * 2 → P (fin false (suc m) e)) → (x : Float) → T (le c½ x) → P x
unfolding of_bits
at_least_half P infinite finite x h = go x (above_of_le c½ x tt h) h
  where
    go : (x : Float) → T (above x) → T (le c½ x) → P x
    go nan a h = absurd a
    go (inf true) a h = absurd a
    go (inf false) a h = infinite
    go (fin true m e) a h = absurd a
    go (fin false zero e) a h = absurd a
    go (fin false (suc m) e) a h = finite m e (le→cross c½ (fin false (suc m) e) tt a h)

inverse_most : (x : Float) → T (le c½ x) → FromZero (c1 ⊘ x) × T (le (c1 ⊘ x) c2)
unfolding of_bits div le
inverse_most = at_least_half (λ x. FromZero (c1 ⊘ x) × T (le (c1 ⊘ x) c2)) (tt, tt) finite
  where
    twice : (d b : ℕ) → 1 * 1 * d ≤ b * 2 → 1 * 1 * d * 1 ≤ 2 * (b * 1)
    twice d b h = omega arith

    finite : (m : ℕ) (e : ℤ) → 1 * 1 * down e ≤ suc m * up e * 2 → FromZero (c1 ⊘ fin false (suc m) e) × T (le (c1 ⊘ fin false (suc m) e) c2)
    finite m e h =
        let top = 1 * 1 * down e in
        let bottom = suc m * up e * 1 in
        rw (over 1 (pos 0) m e) (
          rounded top bottom,
          subst (λ (z : Float). T (le (round binary64 false top bottom) z)) two_is
              (round_mono binary64 top bottom 2 1 (some m e) (zero-lt-suc 0) (twice (down e) (suc m * up e) h)),
        )

pub at_most_two : (m : ℕ) (e : ℤ) → T (le (fin false (suc m) e) c2) → suc m * up e * 1 ≤ 1 * 2 * down e
unfolding of_bits
at_most_two m e h = le→cross (fin false (suc m) e) c2 (lt→ltb 0 (suc m) (zero-lt-suc m)) tt h

inverse_least : (x : Float) → FromZero x → T (le x c2) → T (le c½ (c1 ⊘ x))
unfolding of_bits div le
inverse_least nan z h = absurd z
inverse_least (inf true) z h = absurd z
inverse_least (inf false) z h = absurd h
inverse_least (fin true m e) z h = absurd z
inverse_least (fin false zero e) z h = tt
inverse_least (fin false (suc m) e) z h =
    let top = 1 * 1 * down e in
    let bottom = suc m * up e * 1 in
    rw (over 1 (pos 0) m e)
    (subst (λ (z : Float). T (le z (round binary64 false top bottom))) half_is
    (round_mono binary64 1 2 top bottom (zero-lt-suc 1) (some m e) (half (down e) (suc m * up e) (at_most_two m e h))))
  where
    half : (d b : ℕ) → b * 1 ≤ 1 * 2 * d → 1 * (b * 1) ≤ 1 * 1 * d * 2
    half d b h = omega arith

-- ---- 0.5 less, and 0.5 more

less_half : (x : Float) → T (le c½ x) → FromZero (x ⊖ c½)
unfolding of_bits sub neg add sum
less_half = at_least_half (λ x. FromZero (x ⊖ c½)) tt finite
  where
    finite : (m : ℕ) (e : ℤ) → 1 * 1 * down e ≤ suc m * up e * 2 → FromZero (fin false (suc m) e ⊖ c½)
    finite m e h =
        rw (le-ltb (suc m * up e * 2) (1 * 1 * down e) h) (rounded (suc m * up e * 2 - 1 * 1 * down e) (down e * 2))

half_more : (x : Float) → FromZero x → T (le c½ (x ⊕ c½))
unfolding of_bits add sum le
half_more nan z = absurd z
half_more (inf true) z = absurd z
half_more (inf false) z = tt
half_more (fin true m e) z = absurd z
half_more (fin false m e) z =
    subst (λ (z : Float). T (le z (round binary64 false (m * up e * 2 + 1 * 1 * down e) (down e * 2)))) half_is
    (round_mono binary64 1 2 (m * up e * 2 + 1 * 1 * down e) (down e * 2) (zero-lt-suc 1) (mul-pos (down_pos e) (zero-lt-suc 1)) (more (m * up e) (down e)))
  where
    more : (b d : ℕ) → 1 * (d * 2) ≤ (b * 2 + 1 * 1 * d) * 2
    more b d = omega arith

-- ---- so the rate is from 0 to 2

pub in_range : (tau magic : Float) → T (le c½ tau) → T (positive magic) → let rate = trt_omega_minus (c1 ⊘ tau) magic in FromZero rate × T (le rate c2)
unfolding trt_omega_minus
in_range tau magic t p =
    let omega = c1 ⊘ tau in
    let plus = inverse_most tau t in
    let lambda = c1 ⊘ omega ⊖ c½ in
    let least = less_half (c1 ⊘ omega) (inverse_least omega plus.0 plus.1) in
    inverse_most (magic ⊘ lambda ⊕ c½) (half_more (magic ⊘ lambda) (quotient magic lambda p least))
