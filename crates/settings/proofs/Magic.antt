-- Number 3 and the minus rate of a magic number: where τ and Λ pass their tests, the rate passes its own; and without viscosity it is 0.
use mathlib.Core.Path.{◌≡◌, refl, subst}
use mathlib.Core.Bool.{true, false}
use Prim.Native.Nat.{ℕ, zero, suc, ◌+◌, ◌*◌, ◌≤◌, ◌<◌}
use native.Mathlib.Omega.{arith}
use lib.Dec.{T, ltb, lt→ltb}
use lib.IntN.{ℤ}
use lib.Ieee.{Float, nan, inf, fin, up, down, of_bits, add, sub, mul, div, lt, le}
use lib.Ieee.Fits.{down_pos}
use lib.Ieee.Positive.{positive, first_pos, cross→le}
use borrow.Author.Tests.{ltb-false, ltb-true, le-ltb, not-false}
use Rattle.number.specs.Number.{c0, c½, c1, c2, not_finite, ◌⊖◌, ◌⊘◌}
use Rattle.cell.specs.declared.Collision.TheVariants.{Trt}
use Rattle.cell.specs.Cell.{trt_omega_minus}
use Rattle.cell.proofs.Magic.{FromZero, at_most_two, in_range, no_divisor}
use Rattle.settings.specs.Tests.{tau_of, tau_bad, not_positive, rate_bad}

-- ---- what the tests tell of Λ, and of τ

first_factor : (m : ℕ) (e : ℤ) (k : ℕ) → 0 < m * up e * k → T (ltb 0 m)
first_factor m e k h = lt→ltb 0 m (first_pos m (up e) (first_pos (m * up e) k h))

above_zero : (magic : Float) → not_positive magic ≡ false → T (positive magic)
unfolding not_positive not_finite lt of_bits
above_zero nan h = subst T h tt
above_zero (inf s) h = subst T h tt
above_zero (fin true m e) h = subst T h tt
above_zero (fin false m e) h =
    first_factor m e 1 (some (0 * 1 * down e) (m * up e * 1) (ltb-true (0 * 1 * down e) (m * up e * 1) (not-false _ h)))
  where
    some : (a b : ℕ) → a < b → 0 < b
    some a b h = omega arith

half_at_least : (tau : Float) → tau_bad tau ≡ false → T (le c½ tau)
unfolding tau_bad not_finite lt of_bits
half_at_least nan h = absurd (subst T h tt)
half_at_least (inf s) h = absurd (subst T h tt)
half_at_least (fin true m e) h = absurd (none (m * up e * 2) (down e) (down_pos e) (ltb-false 0 (m * up e * 2 + 1 * 1 * down e) h))
  where
    none : (a d : ℕ) → 0 < d → a + 1 * 1 * d ≤ 0 → ⊥
    none a d p h = omega arith
half_at_least (fin false m e) h =
    let wide = ltb-false (m * up e * 2) (1 * 1 * down e) h in
    cross→le c½ (fin false m e) tt (first_factor m e 2 (some (m * up e * 2) (down e) (down_pos e) wide)) wide
  where
    some : (a d : ℕ) → 0 < d → 1 * 1 * d ≤ a → 0 < a
    some a d p h = omega arith

-- ---- the rate from 0 to 2 passes

rate_ok : (rate : Float) → FromZero rate → T (le rate c2) → rate_bad (Trt rate) ≡ false
unfolding rate_bad not_finite lt le of_bits
rate_ok nan z h = absurd z
rate_ok (inf true) z h = absurd z
rate_ok (inf false) z h = absurd h
rate_ok (fin true m e) z h = absurd z
rate_ok (fin false m e) z h =
    rw (le-ltb (m * up e * 1) (0 * 1 * down e) (least (m * up e) (down e)), le-ltb (1 * 2 * down e) (m * up e * 1) (most m h))
  where
    least : (a d : ℕ) → 0 * 1 * d ≤ a * 1
    least a d = omega arith

    most : (m : ℕ) → T (le (fin false m e) c2) → m * up e * 1 ≤ 1 * 2 * down e
    most zero h = nothing (up e) (down e)
      where
        nothing : (u d : ℕ) → 0 * u * 1 ≤ 1 * 2 * d
        nothing u d = omega arith
    most (suc m) h = at_most_two m e h

-- so the range of the rate refuses no call that the tests of τ and Λ let pass
pub rate_follows : (tau magic : Float) → tau_bad tau ≡ false → not_positive magic ≡ false → rate_bad (Trt (trt_omega_minus (c1 ⊘ tau) magic)) ≡ false
rate_follows tau magic t p =
    let r = in_range tau magic (half_at_least tau t) (above_zero magic p) in
    rate_ok (trt_omega_minus (c1 ⊘ tau) magic) r.0 r.1

-- ---- the exact case: τ 0.5, as at viscosity 0

pub viscosity_zero : tau_of c0 ≡ c½
unfolding of_bits add mul
viscosity_zero = refl

no_lambda : c1 ⊘ (c1 ⊘ c½) ⊖ c½ ≡ c0
unfolding of_bits sub div
no_lambda = refl

-- whatever Λ is accepted
pub rate_at_half : (magic : Float) → not_positive magic ≡ false → trt_omega_minus (c1 ⊘ c½) magic ≡ c0
rate_at_half magic p = no_divisor (c1 ⊘ c½) magic (above_zero magic p) no_lambda
