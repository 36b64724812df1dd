-- `lattice::Direction::mirrored` meets its contract: over the whole table, the i32 that are looked up are the mirrored components, which no
use mathlib.Core.Path.{◌≡◌, refl}
use mathlib.Core.Bool.{true}
use Prim.Native.Nat.{ℕ, ◌^◌, ◌<◌}
use lib.Dec.{ltb}
use lib.IntN.{ℤ, pos, ◌-ℤ◌}
use lib.Signed.{mag}
use mir.Syntax.{w32}
use mir.Val.{to_z, of_z, SFits}
use borrow.Author.Tests.{ltb-true}
use Rattle.number.specs.Nine.{nine}
use Rattle.number.proofs.Nine.{all_nine}
use Rattle.lattice.specs.declared.Axis.{Axis}
use Rattle.lattice.specs.declared.Axis.TheVariants.{X, Y}
use Rattle.lattice.specs.declared.Side.TheVariants.{Min}
use Rattle.lattice.specs.Lattice.{directions, E}
use Rattle.lattice.specs.Lookup.{dir_index_of, Row, mirrored, mirror}
use Rattle.lattice.proofs.Lookups.{no_miss}
use Rattle.lattice.proofs.directions.Direction.mirrored.Goals as goal

-- a whole number as an i32, and the negated i32
abbrev kept : ℤ → ℤ
kept z = to_z w32 (of_z w32 z)

abbrev negated : ℤ → ℤ
negated z = pos 0 -ℤ kept z

fits_table : (a : Axis) → nine (λ i. ltb (mag (negated (E i a))) (2 ^ 31)) ≡ nine (λ i. true)
unfolding directions
fits_table X = refl
fits_table Y = refl

negated_fits : (a : Axis) (i : ℕ) → i < 9 → SFits w32 (negated (E i a))
negated_fits a i h = record { sfits = ltb-true _ _ (all_nine (λ k. ltb (mag (negated (E k a))) (2 ^ 31)) (λ k. true) (fits_table a) i h) }

-- what the code looks up for direction i
abbrev looked : Axis → ℕ → Axis → ℤ
looked X i X = kept (negated (E i X))
looked X i Y = kept (E i Y)
looked Y i X = kept (E i X)
looked Y i Y = kept (negated (E i Y))

looked_table : (a b : Axis) → nine (λ i. looked a i b) ≡ nine (λ i. mirrored a i b)
unfolding directions
looked_table X X = refl
looked_table X Y = refl
looked_table Y X = refl
looked_table Y Y = refl

looked_is : (a b : Axis) (i : ℕ) → i < 9 → looked a i b ≡ mirrored a i b
looked_is a b = all_nine (λ i. looked a i b) (λ i. mirrored a i b) (looked_table a b)

allowed : (a : Axis) (i : ℕ) → i < 9 → Row (looked a i X) (looked a i Y)
allowed a i h = rw (looked_is a X i h, looked_is a Y i h) (no_miss a Min i h).mirrored

answered : (a : Axis) (i r : ℕ) → i < 9 → r ≡ dir_index_of (looked a i X) (looked a i Y) → r ≡ mirror a i
unfolding mirror
answered a i r h e = rw (← looked_is a X i h, ← looked_is a Y i h) e

pub overflow_sub-ex : goal.overflow_sub-ex
overflow_sub-ex c = rw c.component-ex.ensures (negated_fits X c.args.self.index c.args.self.inside)

pub along-requires : goal.along-requires
along-requires c = rw (c.component-ex.ensures, c.component-ey.ensures) (allowed X c.args.self.index c.args.self.inside)

pub overflow_sub-ey : goal.overflow_sub-ey
overflow_sub-ey c = rw c.component-ey.ensures (negated_fits Y c.args.self.index c.args.self.inside)

pub along-requires-in-Y : goal.along-requires-in-Y
along-requires-in-Y c = rw (c.component-ex.ensures, c.component-ey.ensures) (allowed Y c.args.self.index c.args.self.inside)

pub returns-in-X : goal.returns-in-X
returns-in-X c =
    rw c.in-X.is (answered X c.args.self.index _ c.args.self.inside (rw (← c.component-ex.ensures, ← c.component-ey.ensures) c.along.ensures))

pub returns-in-Y : goal.returns-in-Y
returns-in-Y c =
    rw c.in-Y.is (answered Y c.args.self.index _ c.args.self.inside (rw (← c.component-ex.ensures, ← c.component-ey.ensures) c.along-in-Y.ensures))
