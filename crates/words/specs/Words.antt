-- Numbers as bytes, the highest first, and the numbers that bytes spell.
use Rattle.std.specs.Prelude.{cond, List, [], ◌∷◌, ◌++◌, ℕ, zero, suc, ◌+◌, ◌*◌, ◌/◌, ◌%◌, ◌^◌, ltb, length, get_or}
use Rattle.grid.specs.Writes.{Wrote}

-- ---- the bytes of numbers

-- the byte of v that counts 256 ^ j
abbrev pub byte_of : ℕ → ℕ → ℕ
byte_of v j = v / 256 ^ j % 256

-- v in n bytes, big-endian
unfoldable pub big : ℕ → ℕ → List ℕ
big zero v = []
big (suc n) v = byte_of v n ∷ big n v

-- every number of a list in n bytes, one after the other
unfoldable pub bigs : ℕ → List ℕ → List ℕ
bigs n [] = []
bigs n (v ∷ rest) = big n v ++ bigs n rest

-- ---- the numbers of bytes

-- the number that the n bytes of b from `at` on spell
unfoldable pub number_at : ℕ → List ℕ → ℕ → ℕ
number_at zero b at = 0
number_at (suc n) b at = number_at n b at * 256 + get_or b (at + n) 0

-- the same; 0 where the bytes end before
unfoldable pub part_at : ℕ → List ℕ → ℕ → ℕ
part_at n b at = cond (ltb (length b) (at + n)) 0 (number_at n b at)

-- so many numbers of n bytes each, from `at` on
unfoldable pub numbers_at : ℕ → ℕ → List ℕ → ℕ → List ℕ
numbers_at n zero b at = []
numbers_at n (suc count) b at = number_at n b at ∷ numbers_at n count b (at + n)

-- ---- what a function that writes bytes leaves

-- e is d with the bytes of l from `at` on, and all else as it was
abbrev pub Laid : List ℕ → List ℕ → ℕ → List ℕ → Type 0
Laid d e at l = Wrote d e at (length l) (λ k. get_or l k 0)
