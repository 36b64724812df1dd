-- The lookup of a direction: what it finds, and that whatever is looked up, for a face or for a mirrored direction, is a row of E.
use mathlib.Core.Path.{◌≡◌, refl, ap}
use mathlib.Core.Bool.{Bool, true, false}
use mathlib.Core.List.{List, [], ◌∷◌, map}
use Prim.Native.Nat.{ℕ, ◌<◌}
use lib.Dec.{ltb}
use lib.ListN.{get_or}
use lib.IntN.{ℤ, pos, neg_ℤ, ◌+ℤ◌, ◌-ℤ◌}
use borrow.Author.Tests.{ltb-true}
use Rattle.number.specs.Nine.{nine}
use Rattle.number.proofs.Nine.{all_nine}
use Rattle.lattice.specs.declared.Axis.{Axis}
use Rattle.lattice.specs.declared.Axis.TheVariants.{X, Y}
use Rattle.lattice.specs.declared.Side.{Side}
use Rattle.lattice.specs.declared.Side.TheVariants.{Min, Max}
use Rattle.lattice.specs.Lattice.{directions, E}
use Rattle.lattice.specs.Lookup.{is_row, lookup, dir_index_of, Row, mirrored}
use Rattle.lattice.specs.Sides.{normal, tangent}

-- the lookup of a direction's components finds that direction
finds_table : nine (λ i. dir_index_of (E i X) (E i Y)) ≡ nine (λ i. i)
unfolding directions lookup is_row
finds_table = refl

pub finds : (i : ℕ) → i < 9 → dir_index_of (E i X) (E i Y) ≡ i
finds = all_nine (λ i. dir_index_of (E i X) (E i Y)) (λ i. i) finds_table

-- ---- NO LOOKUP MISSES

-- what is looked up for the face on a side of an axis, with n its inward normal and t its tangent: n, t, -t, n + t and n - t; and
-- for direction i, mirrored along the axis
pub record Lookups (a : Axis) (s : Side) (i : ℕ) : Type 0 where
  pub n : Row (normal a s X) (normal a s Y)
  pub t : Row (tangent a X) (tangent a Y)
  pub tm : Row (neg_ℤ (tangent a X)) (neg_ℤ (tangent a Y))
  pub np : Row (normal a s X +ℤ tangent a X) (normal a s Y +ℤ tangent a Y)
  pub nm : Row (normal a s X -ℤ tangent a X) (normal a s Y -ℤ tangent a Y)
  pub mirrored : Row (mirrored a i X) (mirrored a i Y)

-- the same as vectors
abbrev asked : Axis → Side → ℕ → List (Axis → ℤ)
asked a s i =
    normal a s ∷ tangent a ∷ (λ b. neg_ℤ (tangent a b)) ∷ (λ b. normal a s b +ℤ tangent a b)
    ∷ (λ b. normal a s b -ℤ tangent a b) ∷ mirrored a i ∷ []

-- what the lookup of a vector finds: whether it is a direction, and its components; and what it must find
abbrev found : (Axis → ℤ) → Bool × ℤ × ℤ
found g = let i = dir_index_of (g X) (g Y) in (ltb i 9, E i X, E i Y)

abbrev itself : (Axis → ℤ) → Bool × ℤ × ℤ
itself g = (true, g X, g Y)

-- g at the four faces
abbrev four : {A : Type 0} → (Axis → Side → A) → List A
four g = g X Min ∷ g X Max ∷ g Y Min ∷ g Y Max ∷ []

all_four : {A : Type 0} (g h : Axis → Side → A) → four g ≡ four h → (a : Axis) (s : Side) → g a s ≡ h a s
all_four {A} g h e X Min = ap (λ (l : List A). get_or l 0 (g X Min)) e
all_four {A} g h e X Max = ap (λ (l : List A). get_or l 1 (g X Min)) e
all_four {A} g h e Y Min = ap (λ (l : List A). get_or l 2 (g X Min)) e
all_four {A} g h e Y Max = ap (λ (l : List A). get_or l 3 (g X Min)) e

-- the test, over all four faces and all nine directions
found_table : four (λ a s. nine (λ i. map found (asked a s i))) ≡ four (λ a s. nine (λ i. map itself (asked a s i)))
unfolding directions lookup is_row
found_table = refl

direction : (g : Axis → ℤ) → found g ≡ itself g → Row (g X) (g Y)
direction g e = record {
  i = dir_index_of (g X) (g Y);
  small = ltb-true _ 9 (ap (λ (f : Bool × ℤ × ℤ). f.0) e);
  along_x = ap (λ (f : Bool × ℤ × ℤ). f.1) e;
  along_y = ap (λ (f : Bool × ℤ × ℤ). f.2) e;
}

pub no_miss : (a : Axis) (s : Side) (i : ℕ) → i < 9 → Lookups a s i
no_miss a s i h = record {
  n = direction (normal a s) (at 0);
  t = direction (tangent a) (at 1);
  tm = direction (λ b. neg_ℤ (tangent a b)) (at 2);
  np = direction (λ b. normal a s b +ℤ tangent a b) (at 3);
  nm = direction (λ b. normal a s b -ℤ tangent a b) (at 4);
  mirrored = direction (mirrored a i) (at 5);
}
  where
    table : map found (asked a s i) ≡ map itself (asked a s i)
    table =
        all_nine (λ i. map found (asked a s i)) (λ i. map itself (asked a s i))
        (all_four (λ a s. nine (λ i. map found (asked a s i))) (λ a s. nine (λ i. map itself (asked a s i))) found_table a s) i h

    at : (k : ℕ) → get_or (map found (asked a s i)) k (false, pos 0, pos 0) ≡ get_or (map itself (asked a s i)) k (false, pos 0, pos 0)
    at k = ap (λ (l : List (Bool × ℤ × ℤ)). get_or l k (false, pos 0, pos 0)) table
