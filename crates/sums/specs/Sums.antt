-- Sums of 64-bit numbers, wrapping at 64 bits: sums of whole numbers, wrapped at the end.
use Rattle.std.specs.Prelude.{ℕ, zero, suc, ◌+◌, ◌-◌, ◌%◌, ◌^◌}

-- g 0 + g 1 + .. + g (n - 1)
unfoldable pub sum : ℕ → (ℕ → ℕ) → ℕ
sum zero g = 0
sum (suc n) g = sum n g + g n

abbrev pub wrapped : ℕ → ℕ
wrapped n = n % 2 ^ 64

-- a less b, wrapping
abbrev pub less : ℕ → ℕ → ℕ
less a b = wrapped (a + (2 ^ 64 - b))

-- a number moved by the new pattern less the old, wrapping
abbrev pub moved_by : ℕ → ℕ → ℕ → ℕ
moved_by old new a = wrapped (a + less new old)
