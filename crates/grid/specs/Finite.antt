-- Buffers whose entries are all patterns of finite numbers, and the joined bits that tell them.
use Rattle.std.specs.Prelude.{◌≡◌, true, List, ℕ, length, get_or}
use Rattle.number.specs.Joined.{finite_of, joined_to}

pub record AllFinite (b : List ℕ) : Type 0 where
  pub entry : (k : ℕ) → finite_of (get_or b k 0) ≡ true

-- the raised patterns of all entries, joined
abbrev pub joined_buffer : List ℕ → ℕ
joined_buffer b = joined_to (λ k. get_or b k 0) (length b)
