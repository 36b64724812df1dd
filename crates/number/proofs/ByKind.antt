-- The helpers of the port by the kinds of a number: only a finite number lies between the infinities, and what `abs` answers.
use Rattle.std.proofs.Common.{◌≡◌, refl}
use mathlib.Core.Bool.{true, false, not, ◌&&◌}
use lib.Ieee.{Float, nan, inf, fin, binary64, lt, of_bits}
use Rattle.std.specs.Float.{float_with_sign}
use Rattle.number.specs.Number.{not_finite, magnitude_of}

-- the two numbers are the infinities' patterns
pub not_finite_is : (x : Float) → not (lt (of_bits binary64 0xfff0_0000_0000_0000) x && lt x (of_bits binary64 0x7ff0_0000_0000_0000)) ≡ not_finite x
unfolding not_finite lt of_bits
not_finite_is nan = refl
not_finite_is (inf true) = refl
not_finite_is (inf false) = refl
not_finite_is (fin s m e) = refl

pub magnitude_is : (x : Float) → float_with_sign false x ≡ magnitude_of x
unfolding float_with_sign magnitude_of
magnitude_is nan = refl
magnitude_is (inf s) = refl
magnitude_is (fin s m e) = refl
