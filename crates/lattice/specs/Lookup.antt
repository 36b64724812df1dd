-- The lookup of a direction by its two components, and the mirror.
use Rattle.std.specs.Prelude.{◌≡◌, Bool, false, cond, ◌&&◌, ℕ, zero, suc, ◌<◌, eqb, ℤ, pos, negsuc, neg_ℤ}
use Rattle.lattice.specs.declared.Axis.{Axis}
use Rattle.lattice.specs.declared.Axis.TheVariants.{X, Y}
use Rattle.lattice.specs.Lattice.{E}

abbrev pub sameℤ : ℤ → ℤ → Bool
sameℤ (pos m) (pos n) = eqb m n
sameℤ (pos m) (negsuc n) = false
sameℤ (negsuc m) (pos n) = false
sameℤ (negsuc m) (negsuc n) = eqb m n

-- row i of E is (a, b)
unfoldable pub is_row : ℕ → ℤ → ℤ → Bool
is_row i a b = sameℤ (E i X) a && sameℤ (E i Y) b

-- the first direction from i on whose row is (a, b); of the n + 1 that are left the last needs no test
unfoldable pub lookup : ℕ → ℕ → ℤ → ℤ → ℕ
lookup i zero a b = i
lookup i (suc n) a b = cond (is_row i a b) i (lookup (suc i) n a b)

-- the direction whose row of E is (a, b), where (a, b) is one
abbrev pub dir_index_of : ℤ → ℤ → ℕ
dir_index_of a b = lookup 0 8 a b

-- (a, b) is a row of E: the components of a direction
pub record Row (a b : ℤ) : Type 0 where
  pub i : ℕ
  pub small : i < 9
  pub along_x : E i X ≡ a
  pub along_y : E i Y ≡ b

-- the components of direction i, the one along an axis negated; and the direction that has them
abbrev pub mirrored : Axis → ℕ → Axis → ℤ
mirrored X i X = neg_ℤ (E i X)
mirrored X i Y = E i Y
mirrored Y i X = E i X
mirrored Y i Y = neg_ℤ (E i Y)

unfoldable pub mirror : Axis → ℕ → ℕ
mirror a i = dir_index_of (mirrored a i X) (mirrored a i Y)
