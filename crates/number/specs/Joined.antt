-- The patterns of finite numbers, and one number joined from many patterns that says whether all of them are finite.
use Rattle.std.specs.Prelude.{Bool, ℕ, zero, suc, ◌+◌, ◌%◌, ltb}
use Rattle.std.specs.Int.Bits.{bit_or}

-- the pattern of a finite number: its magnitude is below infinity's
abbrev pub finite_of : ℕ → Bool
finite_of b = ltb (b % 0x8000_0000_0000_0000) 0x7ff0_0000_0000_0000

-- the sign cleared and 2^52 added: the top bit is then set exactly where the pattern is not finite
abbrev pub raised_of : ℕ → ℕ
raised_of b = b % 0x8000_0000_0000_0000 + 0x0010_0000_0000_0000

-- the raised patterns of g 0, .., g (n - 1), joined
unfoldable pub joined_to : (ℕ → ℕ) → ℕ → ℕ
joined_to g zero = 0
joined_to g (suc n) = bit_or (joined_to g n) (raised_of (g n))

-- the top bit is clear
abbrev pub clear_of : ℕ → Bool
clear_of r = ltb r 0x8000_0000_0000_0000
