-- Lists of nine, one entry a direction, and sums from the left.
use Rattle.std.specs.Prelude.{List, [], ◌∷◌, ℕ, zero, suc, get_or, Float}
use Rattle.std.specs.Float.{nan}
use Rattle.number.specs.Number.{c0, ◌⊕◌}

-- entry i of a list of numbers
abbrev pub at : List Float → ℕ → Float
at l i = get_or l i nan

-- g 0, .., g 8
abbrev pub nine : {A : Type 0} → (ℕ → A) → List A
nine g = g 0 ∷ g 1 ∷ g 2 ∷ g 3 ∷ g 4 ∷ g 5 ∷ g 6 ∷ g 7 ∷ g 8 ∷ []

-- +0.0 ⊕ g 0 ⊕ .. ⊕ g (n - 1), from the left
unfoldable pub sum_to : (ℕ → Float) → ℕ → Float
sum_to g zero = c0
sum_to g (suc n) = sum_to g n ⊕ g n
