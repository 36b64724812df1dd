-- Patterns and numbers determine each other, NaNs aside.
use mathlib.Core.Path.{◌≡◌}
use mathlib.Core.Bool.{not}
use Prim.Native.Nat.{ℕ, ◌^◌, ◌<◌}
use lib.Dec.{T}
use lib.Ieee.{Float, binary64, fits, is_nan}
use lib.Ieee.Bits.{of_bits-to_bits, to_bits-of_bits}
use Rattle.number.specs.Number.{value_of, pattern_of}

-- the pattern of the value of b is b, for every b of 64 bits that is no NaN's pattern
pub pattern_of_value : (b : ℕ) → b < 2 ^ 64 → T (not (is_nan (value_of b))) → pattern_of (value_of b) ≡ b
pattern_of_value b h n = to_bits-of_bits binary64 b h n

-- the value of the pattern of x is x, for every x that an f64 holds
pub value_of_pattern : (x : Float) → T (fits binary64 x) → value_of (pattern_of x) ≡ x
value_of_pattern x h = of_bits-to_bits binary64 x h
