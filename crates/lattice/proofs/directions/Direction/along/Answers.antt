-- `lattice::Direction::along` meets its contract: what it takes is a row of E, so each fact is one test of the nine rows.
use mathlib.Core.Path.{◌≡◌, refl, subst}
use mathlib.Core.Bool.{Bool, true}
use mathlib.Core.List.{List, [], ◌∷◌}
use Prim.Native.Nat.{ℕ, ◌+◌, ◌*◌, ◌/◌, ◌^◌, ◌<◌}
use native.Mathlib.Omega.{arith}
use lib.Bits.{bit_and}
use lib.Dec.{T, ltb}
use lib.IntN.{ℤ, pos, nat_abs, ◌+ℤ◌, ◌-ℤ◌}
use lib.Signed.{mag, non_neg}
use mir.Syntax.{w32}
use mir.Val.{to_z, of_z, SFits}
use borrow.Author.Tests.{ltb-true}
use Rattle.number.specs.Nine.{nine}
use Rattle.number.proofs.Nine.{all_nine}
use Rattle.lattice.specs.declared.Axis.TheVariants.{X, Y}
use Rattle.lattice.specs.Lattice.{directions, E}
use Rattle.lattice.specs.Lookup.{is_row, lookup, dir_index_of, Row}
use Rattle.lattice.proofs.Lookups.{finds}
use Rattle.lattice.proofs.directions.Direction.along.Goals as goal

-- an i32 read back from its bits; the row and the column of a component, as the code works them out
abbrev kept : ℤ → ℤ
kept z = to_z w32 (of_z w32 z)

abbrev row : ℤ → ℤ
row b = kept b +ℤ pos 1

abbrev column : ℤ → ℤ
column a = pos 1 -ℤ kept a

-- z fits an i32, and is one of 0, 1 and 2
record Placed (z : ℤ) : Type 0 where
  fits : SFits w32 z
  natural : T (non_neg (kept z))
  small : nat_abs (kept z) < 3

abbrev asked : ℤ → List Bool
asked z = ltb (mag z) (2 ^ 31) ∷ non_neg (kept z) ∷ ltb (nat_abs (kept z)) 3 ∷ []

abbrev passed : List Bool
passed = true ∷ true ∷ true ∷ []

placed : (z : ℤ) → asked z ≡ passed → Placed z
placed z e = record {
  fits = record { sfits = ltb-true (mag z) (2 ^ 31) (cc) };
  natural = subst T {x = true} {y = non_neg (kept z)} (cc) tt;
  small = ltb-true (nat_abs (kept z)) 3 (cc);
}

placed_table : nine (λ k. asked (row (E k Y)) ∷ asked (column (E k X)) ∷ []) ≡ nine (λ k. passed ∷ passed ∷ [])
unfolding directions
placed_table = refl

in_place : (a b : ℤ) → Row a b → Placed (row b) × Placed (column a)
in_place a b d =
    let r = all_nine (λ k. asked (row (E k Y)) ∷ asked (column (E k X)) ∷ []) (λ k. passed ∷ passed ∷ []) placed_table d.i d.small in
    rw (← d.along_x, ← d.along_y) (placed _ (cc), placed _ (cc))

-- what the code reads out of a table of hexadecimal digits
abbrev read : ℕ → ℤ → ℤ → ℕ
read t a b = bit_and (t / 2 ^ (4 * (3 * nat_abs (kept (row b)) + nat_abs (kept (column a))))) 15

-- a table is right where, for each row, what is read is what the search finds
abbrev Right : ℕ → Type 0
Right t = nine (λ k. read t (E k X) (E k Y)) ≡ nine (λ k. dir_index_of (E k X) (E k Y))

found : (t : ℕ) → Right t → (a b : ℤ) → Row a b → read t a b ≡ dir_index_of a b
found t e a b d =
    rw (← d.along_x, ← d.along_y)
    (all_nine (λ k. read t (E k X) (E k Y)) (λ k. dir_index_of (E k X) (E k Y)) e d.i d.small)

-- ---- the needs
pub overflow_add-row : goal.overflow_add-row
overflow_add-row c = (in_place c.args.ex c.args.ey c.requires).0.fits

pub overflow_cast-row : goal.overflow_cast-row
overflow_cast-row c = let p = (in_place c.args.ex c.args.ey c.requires).0 in (p.natural, record { fits = omega (arith, p.small) })

pub overflow_sub-column : goal.overflow_sub-column
overflow_sub-column c = (in_place c.args.ex c.args.ey c.requires).1.fits

pub overflow_cast-column : goal.overflow_cast-column
overflow_cast-column c = let p = (in_place c.args.ex c.args.ey c.requires).1 in (p.natural, record { fits = omega (arith, p.small) })

pub overflow_mul-place : goal.overflow_mul-place
overflow_mul-place c = record { fits = omega (arith, (in_place c.args.ex c.args.ey c.requires).0.small) }

pub overflow_add-place : goal.overflow_add-place
overflow_add-place c = record { fits = omega (arith, (in_place c.args.ex c.args.ey c.requires).0.small, (in_place c.args.ex c.args.ey c.requires).1.small) }

pub overflow_mul-result : goal.overflow_mul-result
overflow_mul-result c = record { fits = omega (arith, (in_place c.args.ex c.args.ey c.requires).0.small, (in_place c.args.ex c.args.ey c.requires).1.small) }

pub overflow_shr-result : goal.overflow_shr-result
overflow_shr-result c = omega (arith, (in_place c.args.ex c.args.ey c.requires).0.small, (in_place c.args.ex c.args.ey c.requires).1.small)

-- what is read out of such a table is a direction
read_small : (t : ℕ) → Right t → (a b : ℤ) → Row a b → read t a b < 9
read_small t e a b d = rw (found t e a b d, ← d.along_x, ← d.along_y, finds d.i d.small) d.small

pub invariant_of-result : goal.invariant_of-result
unfolding directions lookup is_row
invariant_of-result c = record { inside = read_small _ refl c.args.ex c.args.ey c.requires }

-- the code's table is right: antt computes it
pub returns : goal.returns
unfolding directions lookup is_row
returns c = found _ refl c.args.ex c.args.ey c.requires
