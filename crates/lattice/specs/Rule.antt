-- What a rule that is asked for each direction gives: nine numbers, in order.
use Rattle.std.specs.Prelude.{◌≡◌, List, length, Float}
use Rattle.number.specs.Nine.{at}
use Rattle.lattice.specs.declared.directions.Direction.{Direction}

-- l has nine entries, and each is a result of the rule for its direction
pub record Gives (rule : Direction → Float → Type 0) (l : List Float) : Type 0 where
  pub size : length l ≡ 9
  pub entry : (i : Direction) → rule i (at l i.index)
