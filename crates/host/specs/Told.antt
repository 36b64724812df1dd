-- A number, and a small buffer with the answer, which every call writes.
use Rattle.std.specs.Prelude.{List, ℕ, replicate, Result, Ok, Err}
use Rattle.settings.specs.declared.refused.Refusal.{Refusal}
use Rattle.settings.specs.Refused.{number}
use Rattle.settings.specs.Outcome.{Written, outcome}

-- of n words: zeros where it is refused
abbrev pub told : ℕ → Result (List ℕ) Refusal → Written
told n (Ok words) = outcome 0 words
told n (Err why) = outcome (number why) (replicate n 0)
