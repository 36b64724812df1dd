-- Numbers of 64 bits: the f64 operations, each rounded once to nearest even, and the patterns that stand for numbers in a lent buffer.
use Rattle.std.specs.Prelude.{Bool, true, false, cond, ◌||◌, ℕ, Float}
use Rattle.std.specs.Float.{nan, inf, fin, binary64}
use Rattle.std.specs.Float.Ieee.{of_bits, to_bits, is_nan, add, sub, mul, div, lt, ne}

infixl 75 ◌⊕◌ ◌⊖◌
infixl 76 ◌⊗◌ ◌⊘◌
abbrev pub ◌⊕◌ : Float → Float → Float
a ⊕ b = add binary64 a b

abbrev pub ◌⊖◌ : Float → Float → Float
a ⊖ b = sub binary64 a b

abbrev pub ◌⊗◌ : Float → Float → Float
a ⊗ b = mul binary64 a b

abbrev pub ◌⊘◌ : Float → Float → Float
a ⊘ b = div binary64 a b

-- the number that a pattern stands for, the one NaN for every NaN's pattern; and the pattern of a number, 0x7ff8_0000_0000_0000 of a NaN
abbrev pub value_of : ℕ → Float
value_of b = of_bits binary64 b

abbrev pub pattern_of : Float → ℕ
pattern_of x = to_bits binary64 x

-- ---- the constants of the source, each by the pattern of its literal

abbrev pub c0 : Float
c0 = value_of 0x0000_0000_0000_0000

abbrev pub c½ : Float
c½ = value_of 0x3fe0_0000_0000_0000

abbrev pub c1 : Float
c1 = value_of 0x3ff0_0000_0000_0000

abbrev pub c1½ : Float
c1½ = value_of 0x3ff8_0000_0000_0000

abbrev pub c1·54 : Float
c1·54 = value_of 0x3ff8_a3d7_0a3d_70a4

abbrev pub c1·64 : Float
c1·64 = value_of 0x3ffa_3d70_a3d7_0a3d

abbrev pub c2 : Float
c2 = value_of 0x4000_0000_0000_0000

abbrev pub c3 : Float
c3 = value_of 0x4008_0000_0000_0000

abbrev pub c4 : Float
c4 = value_of 0x4010_0000_0000_0000

abbrev pub c4½ : Float
c4½ = value_of 0x4012_0000_0000_0000

abbrev pub c6 : Float
c6 = value_of 0x4018_0000_0000_0000

abbrev pub c8 : Float
c8 = value_of 0x4020_0000_0000_0000

abbrev pub c9 : Float
c9 = value_of 0x4022_0000_0000_0000

abbrev pub c36 : Float
c36 = value_of 0x4042_0000_0000_0000

abbrev pub infinity : Float
infinity = value_of 0x7ff0_0000_0000_0000

-- ---- the helpers of the port

-- a NaN or an infinity
unfoldable pub not_finite : Float → Bool
not_finite nan = true
not_finite (inf s) = true
not_finite (fin s m e) = false

-- of two components, one differs from 0
abbrev pub not_both_zero : Float → Float → Bool
not_both_zero a b = ne a c0 || ne b c0

-- the sign cleared; a NaN stays a NaN
unfoldable pub magnitude_of : Float → Float
magnitude_of nan = nan
magnitude_of (inf s) = inf false
magnitude_of (fin s m e) = fin false m e

-- the larger of two; where either is a NaN, the NaN
unfoldable pub larger_of : Float → Float → Float
larger_of a b = cond (is_nan b) b (cond (lt a b) b a)
