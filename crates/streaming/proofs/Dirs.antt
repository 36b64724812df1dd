-- What opposites and mirrors make of a direction's steps. Each law is one computed table of nine, over both axes.
use mathlib.Core.Path.{◌≡◌, refl, ap, ◌∙◌}
use mathlib.Core.Bool.{Bool, true, false}
use Prim.Native.Nat.{ℕ, zero, suc, ◌<◌}
use lib.IntN.{ℤ, one, pos, negsuc, neg_ℤ, ◌*ℤ◌, +ℤ_idl, +ℤ_idr, *ℤ-one, *ℤ-zero, *ℤ-negsuc}
use Rattle.number.specs.Nine.{nine}
use Rattle.number.proofs.Nine.{all_nine}
use Rattle.lattice.specs.declared.Axis.{Axis}
use Rattle.lattice.specs.declared.Axis.TheVariants.{X, Y}
use Rattle.lattice.specs.declared.Side.{Side}
use Rattle.lattice.specs.declared.Side.TheVariants.{Min, Max}
use Rattle.lattice.specs.Lattice.{directions, E, opposites, OPP}
use Rattle.lattice.specs.Sides.{sign, above_zero, incoming}
use Rattle.lattice.specs.Lookup.{mirror, lookup, is_row}
use Rattle.streaming.specs.Travel.{Step, stay, up, down, step_by, part, against}

pub against_twice : (e : Step) → against (against e) ≡ e
against_twice stay = refl
against_twice up = refl
against_twice down = refl

-- an opposite steps back along both axes
opposite_table : (a : Axis) → nine (λ i. part a (OPP i)) ≡ nine (λ i. against (part a i))
unfolding directions opposites
opposite_table X = refl
opposite_table Y = refl

pub opposite_part : (a : Axis) (i : ℕ) → i < 9 → part a (OPP i) ≡ against (part a i)
opposite_part a = all_nine (λ i. part a (OPP i)) (λ i. against (part a i)) (opposite_table a)

-- a mirror steps back along its axis
mirror_table : (a : Axis) → nine (λ i. part a (mirror a i)) ≡ nine (λ i. against (part a i))
unfolding directions mirror lookup is_row
mirror_table X = refl
mirror_table Y = refl

pub mirror_part : (a : Axis) (i : ℕ) → i < 9 → part a (mirror a i) ≡ against (part a i)
mirror_part a = all_nine (λ i. part a (mirror a i)) (λ i. against (part a i)) (mirror_table a)

-- and leaves the other axis alone
other_table : nine (λ i. part Y (mirror X i)) ≡ nine (λ i. part Y i)
unfolding directions mirror lookup is_row
other_table = refl

pub mirror_other : (i : ℕ) → i < 9 → part Y (mirror X i) ≡ part Y i
mirror_other = all_nine (λ i. part Y (mirror X i)) (λ i. part Y i) other_table

-- a mirror between two opposites is the mirror
between_table : (a : Axis) → nine (λ i. OPP (mirror a (OPP i))) ≡ nine (λ i. mirror a i)
unfolding directions opposites mirror lookup is_row
between_table X = refl
between_table Y = refl

pub mirror_between : (a : Axis) (i : ℕ) → i < 9 → OPP (mirror a (OPP i)) ≡ mirror a i
mirror_between a = all_nine (λ i. OPP (mirror a (OPP i))) (mirror a) (between_table a)

-- ---- what comes in through a face, by its step across the face

abbrev pub entering : Side → Step → Bool
entering Min stay = false
entering Min up = true
entering Min down = false
entering Max stay = false
entering Max up = false
entering Max down = true

by_sign : (s : Side) (z : ℤ) → above_zero (z *ℤ sign s) ≡ entering s (step_by z)
unfolding one
by_sign Min z = ap above_zero (*ℤ-one z) ∙ go z
  where
    go : (z : ℤ) → above_zero z ≡ entering Min (step_by z)
    go (pos zero) = refl
    go (pos (suc n)) = refl
    go (negsuc n) = refl
by_sign Max z = ap above_zero (*ℤ-negsuc z 0) ∙ ap (λ (w : ℤ). above_zero (neg_ℤ w)) (*ℤ-one z) ∙ go z
  where
    go : (z : ℤ) → above_zero (neg_ℤ z) ≡ entering Max (step_by z)
    go (pos zero) = refl
    go (pos (suc n)) = refl
    go (negsuc n) = refl

pub incoming_by_step : (a : Axis) (s : Side) (i : ℕ) → incoming a s i ≡ entering s (part a i)
incoming_by_step X s i = rw (*ℤ-zero (E i Y), +ℤ_idr) (by_sign s (E i X))
incoming_by_step Y s i = rw (*ℤ-zero (E i X), +ℤ_idl) (by_sign s (E i Y))
