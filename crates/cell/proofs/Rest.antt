-- The exact case of the equilibrium: at rest it is the one product W·ρ.
use mathlib.Core.Path.{◌≡◌, refl, sym, ap, ◌∙◌, subst}
use mathlib.Core.Bool.{Bool, true, false, cond, ◌&&◌}
use Prim.Native.Nat.{ℕ, zero, suc, ◌*◌, ◌<◌}
use native.Mathlib.Nat.{lt_irrefl, zero-mul, mul-one, mul-pos, zero-lt-suc}
use lib.Dec.{T, eqb, eqb→eq}
use lib.IntN.{pos}
use lib.Ieee.{Float, nan, inf, fin, binary64, up, down, fits, eq, of_bits, of_int, add, sub, mul}
use lib.Ieee.Fits.{and_l, up_pos}
use Rattle.number.specs.Number.{value_of, c0, c1, c1½, c3, c4½, ◌⊕◌, ◌⊖◌, ◌⊗◌}
use Rattle.number.specs.Nine.{nine}
use Rattle.number.proofs.Nine.{all_nine}
use Rattle.number.proofs.Exact.{same_number, product_by_one}
use Rattle.lattice.specs.Lattice.{W, directions}
use Rattle.cell.specs.declared.Moments.{Moments}
use Rattle.cell.specs.Cell.{along_at, equilibrium_at}

-- ---- the two zeros

-- -0.0 where the sign is set, else +0.0
abbrev pub zero_of : Bool → Float
zero_of s = cond s (value_of 0x8000_0000_0000_0000) c0

abbrev pub Zero : Float → Type 0
Zero x = (s : Bool) × (x ≡ zero_of s)

zero_fits : (s : Bool) → T (fits binary64 (fin s 0 (pos 0)))
unfolding fits
zero_fits s = tt

not_level : (a b : ℕ) (r : Bool) → 0 < a → b ≡ 0 → (eqb a b && r) ≡ true → ⊥
not_level a b r p z q = lt_irrefl 0 (subst (λ (x : ℕ). 0 < x) (eqb→eq a b (and_l (eqb a b) r (subst T (sym q) tt)) ∙ z) p)

-- an f64 that equals 0 is one of the two
pub equal_zero : (x : Float) → T (fits binary64 x) → eq x c0 ≡ true → Zero x
unfolding eq of_bits
equal_zero nan h e = absurd (subst T (sym e) tt)
equal_zero (inf s) h e = absurd (subst T (sym e) tt)
equal_zero (fin true zero e) h q = (true, same_number binary64 true 0 e 0 (pos 0) h (zero_fits true) (simp zero-mul))
equal_zero (fin false zero e) h q = (false, same_number binary64 false 0 e 0 (pos 0) h (zero_fits false) (simp zero-mul))
equal_zero (fin s (suc m) e) h q = absurd (not_level (suc m * up e * 1) (0 * down e) _ (subst (λ (x : ℕ). 0 < x) (sym (mul-one (suc m * up e))) (mul-pos (zero-lt-suc m) (up_pos e))) (zero-mul (down e)) q)

-- ---- the bracket is 1

bracket : ℕ → Float → Float → Float
bracket i ux uy =
    let eu = along_at i ux uy in
    let uu = ux ⊗ ux ⊕ uy ⊗ uy in
    c1 ⊕ c3 ⊗ eu ⊕ c4½ ⊗ eu ⊗ eu ⊖ c1½ ⊗ uu

-- antt computes the nine directions at each pair of zeros
bracket_table : (s t : Bool) → nine (λ i. bracket i (zero_of s) (zero_of t)) ≡ nine (λ i. c1)
unfolding bracket along_at directions of_bits of_int add sub mul
bracket_table true true = refl
bracket_table true false = refl
bracket_table false true = refl
bracket_table false false = refl

bracket_is_one : (i : ℕ) (ux uy : Float) → i < 9 → Zero ux → Zero uy → bracket i ux uy ≡ c1
bracket_is_one i ux uy h (s, a) (t, b) = rw (a, b) (all_nine (λ k. bracket k (zero_of s) (zero_of t)) (λ k. c1) (bracket_table s t) i h)

-- with both components zero, of either sign, and any density
pub at_rest : (i : ℕ) (m : Moments) → i < 9 → Zero m.ux → Zero m.uy → equilibrium_at i m ≡ W i ⊗ m.density
unfolding equilibrium_at bracket
at_rest i m h zx zy = ap (λ (x : Float). W i ⊗ m.density ⊗ x) (bracket_is_one i m.ux m.uy h zx zy) ∙ product_by_one (W i) m.density
