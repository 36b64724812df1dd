-- What the lossless question answers: refused with a number, lossless, or lossy, with the lowest entry that is lost by x, y and
-- direction.
use Rattle.std.specs.Prelude.{ℕ}

pub data Answer : Type 0 where
  Refused : ℕ → Answer
  Lossless : Answer
  Lossy : ℕ → ℕ → ℕ → Answer
