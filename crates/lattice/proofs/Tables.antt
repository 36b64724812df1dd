-- The rules of the tables, each one test that antt computes over the whole table.
use mathlib.Core.Path.{◌≡◌, refl}
use mathlib.Core.Bool.{true}
use mathlib.Core.List.{[], ◌∷◌}
use Prim.Native.Nat.{ℕ, ◌<◌, ◌^◌}
use lib.Dec.{ltb}
use borrow.Author.Tests.{ltb-true}
use lib.IntN.{neg_ℤ}
use lib.Signed.{mag}
use mir.Syntax.{w32}
use mir.Val.{SFits}
use Rattle.number.specs.Nine.{nine}
use Rattle.number.proofs.Nine.{all_nine}
use Rattle.lattice.specs.declared.Axis.{Axis}
use Rattle.lattice.specs.declared.Axis.TheVariants.{X, Y}
use Rattle.lattice.specs.Lattice.{directions, E, opposites, OPP, basis, norms, dot, diagonal, sumℤ}
use Rattle.lattice.specs.Lookup.{is_row, lookup, mirror}

-- E of OPP is the negated E
opposite_table : nine (λ i. E (OPP i) X ∷ E (OPP i) Y ∷ []) ≡ nine (λ i. neg_ℤ (E i X) ∷ neg_ℤ (E i Y) ∷ [])
unfolding directions opposites
opposite_table = refl

pub opposite_negated : (i : ℕ) → i < 9 → (E (OPP i) X ≡ neg_ℤ (E i X)) × (E (OPP i) Y ≡ neg_ℤ (E i Y))
opposite_negated i h =
    let r = all_nine (λ k. E (OPP k) X ∷ E (OPP k) Y ∷ []) (λ k. neg_ℤ (E k X) ∷ neg_ℤ (E k Y) ∷ []) opposite_table i h in
    (cc, cc)

-- OPP undoes itself
twice_table : nine (λ i. OPP (OPP i)) ≡ nine (λ i. i)
unfolding opposites
twice_table = refl

pub opposite_twice : (i : ℕ) → i < 9 → OPP (OPP i) ≡ i
opposite_twice = all_nine (λ i. OPP (OPP i)) (λ i. i) twice_table

-- the rows of M are orthogonal, and row k with itself is M_NORM's entry k
gram_table : nine (λ j. nine (λ k. dot j k)) ≡ nine (λ j. nine (λ k. diagonal j k))
unfolding basis norms dot diagonal sumℤ
gram_table = refl

pub orthogonal : (j k : ℕ) → j < 9 → k < 9 → dot j k ≡ diagonal j k
orthogonal j k hj hk = all_nine (dot j) (diagonal j) (all_nine (λ a. nine (dot a)) (λ a. nine (diagonal a)) gram_table j hj) k hk

-- the mirror along either axis negates that component alone, and undoes itself
mirror_table : nine (λ i. (E (mirror X i) X ∷ E (mirror X i) Y ∷ []) ∷ (E (mirror Y i) X ∷ E (mirror Y i) Y ∷ []) ∷ [])
    ≡ nine (λ i. (neg_ℤ (E i X) ∷ E i Y ∷ []) ∷ (E i X ∷ neg_ℤ (E i Y) ∷ []) ∷ [])
unfolding directions mirror lookup is_row
mirror_table = refl

mirror_twice_table : (a : Axis) → nine (λ i. mirror a (mirror a i)) ≡ nine (λ i. i)
unfolding directions mirror lookup is_row
mirror_twice_table X = refl
mirror_twice_table Y = refl

pub mirror_twice : (a : Axis) (i : ℕ) → i < 9 → mirror a (mirror a i) ≡ i
mirror_twice a = all_nine (λ i. mirror a (mirror a i)) (λ i. i) (mirror_twice_table a)

-- an opposite and a mirrored direction are directions
small_table : (a : Axis) → nine (λ i. ltb (OPP i) 9 ∷ ltb (mirror a i) 9 ∷ []) ≡ nine (λ i. true ∷ true ∷ [])
unfolding directions opposites mirror lookup is_row
small_table X = refl
small_table Y = refl

pub opposite_small : (i : ℕ) → i < 9 → OPP i < 9
opposite_small i h =
    let r = all_nine (λ k. ltb (OPP k) 9 ∷ ltb (mirror X k) 9 ∷ []) (λ k. true ∷ true ∷ []) (small_table X) i h in
    ltb-true (OPP i) 9 (cc)

pub mirror_small : (a : Axis) (i : ℕ) → i < 9 → mirror a i < 9
mirror_small a i h =
    let r = all_nine (λ k. ltb (OPP k) 9 ∷ ltb (mirror a k) 9 ∷ []) (λ k. true ∷ true ∷ []) (small_table a) i h in
    ltb-true (mirror a i) 9 (cc)

-- a component fits an i32
fits_table : (a : Axis) → nine (λ i. ltb (mag (E i a)) (2 ^ 31)) ≡ nine (λ i. true)
unfolding directions
fits_table X = refl
fits_table Y = refl

pub component_fits : (a : Axis) (i : ℕ) → i < 9 → SFits w32 (E i a)
component_fits a i h = record { sfits = ltb-true _ _ (all_nine (λ k. ltb (mag (E k a)) (2 ^ 31)) (λ k. true) (fits_table a) i h) }
