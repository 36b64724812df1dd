-- The NaN as code meets it: the one number that differs from itself, and what 0 by 0 gives.
use mathlib.Core.Path.{subst}
use Rattle.std.proofs.Common.{◌≡◌, refl, sym, ap, ◌∙◌, eq-eqb}
use mathlib.Core.Bool.{Bool, true, false, not, ◌&&◌}
use Prim.Native.Nat.{ℕ, ◌*◌, ◌%◌, ◌≤◌, ◌<◌}
use lib.Dec.{T}
use borrow.Author.Tests.{lt-ltb, le-ltb}
use lib.Ieee.{Float, nan, inf, fin, binary64, of_bits, to_bits, nan_bits, is_nan, ne, eq, div, up, down}
use lib.Ieee.Bits.{nan_bits_is, nan_bits_above}

pub is_nan_lem : (x : Float) → is_nan x ≡ true → x ≡ nan
unfolding is_nan
is_nan_lem nan e = refl
is_nan_lem (inf s) e = cc
is_nan_lem (fin s m k) e = cc

pub differs_is_nan : (x : Float) → ne x x ≡ is_nan x
unfolding ne eq is_nan
differs_is_nan nan = refl
differs_is_nan (inf true) = refl
differs_is_nan (inf false) = refl
differs_is_nan (fin true m e) = ap (λ (b : Bool). not (b && true)) (eq-eqb (m * up e * down e) _ refl)
differs_is_nan (fin false m e) = ap (λ (b : Bool). not (b && true)) (eq-eqb (m * up e * down e) _ refl)

pub zero_by_zero : div binary64 (of_bits binary64 0) (of_bits binary64 0) ≡ nan
unfolding div of_bits
zero_by_zero = refl

-- a pattern with its sign taken off is a NaN's where it is above the infinity's
pub pattern_is_nan : (b : ℕ) → 0x7ff0_0000_0000_0000 < b % 0x8000_0000_0000_0000 → of_bits binary64 b ≡ nan
pattern_is_nan b h = is_nan_lem (of_bits binary64 b) (sym (nan_bits_is binary64 b) ∙ nan_bits_above binary64 b ∙ lt-ltb _ _ h)

pub pattern_no_nan : (b : ℕ) → b % 0x8000_0000_0000_0000 ≤ 0x7ff0_0000_0000_0000 → T (not (nan_bits binary64 b))
pattern_no_nan b h = subst (λ (t : Bool). T (not t)) (sym (nan_bits_above binary64 b ∙ le-ltb _ _ h)) tt

-- the one pattern that every NaN is stored as
pub nan_pattern : (x : Float) → ne x x ≡ true → 0x7ff8_0000_0000_0000 ≡ to_bits binary64 x
unfolding to_bits
nan_pattern x e = sym (ap (to_bits binary64) (is_nan_lem x (sym (differs_is_nan x) ∙ e)))
