-- What a refusal makes of an operation's outcome.
use Rattle.std.specs.Prelude.{cond, List, ℕ, eqb}

-- what is done where the number is 0, which refuses nothing, and else what a refusal leaves
unfoldable pub answer : {A : Type 0} → ℕ → A → A → A
answer number done left = cond (eqb number 0) done left

-- the number that an operation returns, and what the buffer that it writes holds afterwards
pub record Written : Type 0 where
  pub number : ℕ
  pub buffer : List ℕ

abbrev pub outcome : ℕ → List ℕ → Written
outcome number buffer = record { number = number; buffer = buffer }

-- a refused operation leaves the buffer as it was before
abbrev pub written : ℕ → List ℕ → List ℕ → Written
written number before after = answer number (outcome 0 after) (outcome number before)
