-- Streaming in whole numbers, as the rules say it: (x, y, i) goes to ((x + ex) mod nx, (y + ey) mod ny, i).
use mathlib.Core.Path.{◌≡◌, refl, sym, ap, ◌∙◌, subst}
use mathlib.Core.Logic.{⊎_elim}
use Prim.Native.Nat.{ℕ, zero, suc, ◌+◌, ◌-◌, ◌*◌, ◌<◌}
use native.Mathlib.Omega.{arith}
use lib.IntN.{ℤ, pos, negsuc, neg_ℤ, ◌+ℤ◌, ◌*ℤ◌, +ℤ_idr, +ℤ_assoc, +ℤ_invr, neg_ℤ-+ℤ, zero-*ℤ}
use Rattle.number.specs.Nine.{nine}
use Rattle.number.proofs.Nine.{all_nine}
use Rattle.lattice.specs.declared.Axis.{Axis}
use Rattle.lattice.specs.declared.Axis.TheVariants.{X, Y}
use Rattle.lattice.specs.Lattice.{directions, E}
use Rattle.grid.specs.Grid.{Field}
use Rattle.grid.proofs.Radix.{lt_or_ge}
use Rattle.streaming.specs.Travel.{Step, stay, up, down, part, turn, moved, streamed}
use Rattle.streaming.proofs.Ring.{before_seam, after_seam, goes_on}

-- k' is (k + e) mod n: k + e = k' + q·n, with k' on the side
pub record Mod (n k : ℕ) (e : ℤ) (k' : ℕ) : Type 0 where
  pub below : k' < n
  pub q : ℤ
  pub around : pos k +ℤ e ≡ pos k' +ℤ q *ℤ pos n

-- ---- a component is 0, 1 or -1, as its step says

abbrev whole : Step → ℤ
whole stay = pos 0
whole up = pos 1
whole down = negsuc 0

component_table : (a : Axis) → nine (λ i. E i a) ≡ nine (λ i. whole (part a i))
unfolding directions
component_table X = refl
component_table Y = refl

component : (a : Axis) (i : ℕ) → i < 9 → E i a ≡ whole (part a i)
component a = all_nine (λ i. E i a) (λ i. whole (part a i)) (component_table a)

-- ---- a step, and how often it goes around

-- not around
within : (n k k' : ℕ) (e : ℤ) {m : ℕ} → m ≡ k' → k' < n → pos k +ℤ e ≡ pos k' → Mod n k e m
within n k k' e is h p = rw is (record { below = h; q = pos 0; around = p ∙ sym (ap (λ (z : ℤ). pos k' +ℤ z) (zero-*ℤ (pos n)) ∙ +ℤ_idr (pos k')) })

-- around the end, and around the start
over : (n : ℕ) {m : ℕ} → m ≡ 0 → Mod (suc n) n (pos 1) m
over n is =
    rw is
    (record {
      below = omega arith;
      q = pos 1;
      around = let m : n + 1 ≡ 0 + 1 * suc n = omega arith in ap pos m;
    })

under : (n : ℕ) {m : ℕ} → m ≡ n → Mod (suc n) 0 (negsuc 0) m
under n is =
    let all : suc zero * suc n ≡ n + 1 = omega arith in
    let one_less : pos n +ℤ neg_ℤ (pos n +ℤ pos 1) ≡ negsuc 0 =
    ap (λ (z : ℤ). pos n +ℤ z) (neg_ℤ-+ℤ (pos n) (pos 1)) ∙ sym (+ℤ_assoc (pos n) (neg_ℤ (pos n)) (negsuc 0)) ∙ ap (λ (z : ℤ). z +ℤ negsuc 0) (+ℤ_invr (pos n)) in
    rw is
    (record {
      below = omega arith;
      q = negsuc 0;
      around = sym (ap (λ (m : ℕ). pos n +ℤ neg_ℤ (pos m)) all ∙ one_less);
    })

back_one : (j : ℕ) → pos (suc j) +ℤ negsuc 0 ≡ pos j
back_one j =
    let more : suc j ≡ j + 1 = omega arith in
    ap (λ (m : ℕ). pos m +ℤ negsuc 0) more ∙ +ℤ_assoc (pos j) (pos 1) (negsuc 0) ∙ +ℤ_idr (pos j)

stepped : (c : Step) (n k : ℕ) → k < n → Mod n k (whole c) (moved c n k)
stepped stay n k h = within n k k (pos 0) (before_seam n 0 k (omega arith) ∙ omega arith) h (+ℤ_idr (pos k))
stepped up zero k h = absurd (omega arith)
stepped up (suc n) k h =
    ⊎_elim
    (λ l. within (suc n) k (1 + k) (pos 1) (before_seam (suc n) 1 k l) (omega arith) (let m : k + 1 ≡ 1 + k = omega arith in ap pos m))
    (λ g.
    let e : k ≡ n = omega arith in
    let m : n ≡ suc n - 1 + 0 = omega arith in
    rw e (over n (ap (turn (suc n) 1) m ∙ after_seam (suc n) 1 0 (omega arith) (omega arith))))
    (lt_or_ge (k + 1) (suc n))
stepped down zero k h = absurd (omega arith)
stepped down (suc n) zero h = under n (before_seam (suc n) (suc n - 1) 0 (omega arith) ∙ omega arith)
stepped down (suc n) (suc j) h =
    let m : suc j ≡ suc n - (suc n - 1) + j = omega arith in
    within (suc n) (suc j) j (negsuc 0)
    (ap (turn (suc n) (suc n - 1)) m ∙ after_seam (suc n) (suc n - 1) j (omega arith) (omega arith))
    (omega arith)
    (back_one j)

-- ---- streaming

pub record Streams (nx ny : ℕ) (p : Field) (x y i x' y' : ℕ) : Type 0 where
  pub along_x : Mod nx x (E i X) x'
  pub along_y : Mod ny y (E i Y) y'
  pub entry : streamed nx ny p x' y' i ≡ p x y i

pub streams_to : (nx ny : ℕ) (p : Field) (x y i : ℕ) → x < nx → y < ny → i < 9 → Streams nx ny p x y i (moved (part X i) nx x) (moved (part Y i) ny y)
streams_to nx ny p x y i hx hy hi =
    record {
      along_x = subst (λ (e : ℤ). Mod nx x e (moved (part X i) nx x)) (sym (component X i hi)) (stepped (part X i) nx x hx);
      along_y = subst (λ (e : ℤ). Mod ny y e (moved (part Y i) ny y)) (sym (component Y i hi)) (stepped (part Y i) ny y hy);
      entry = goes_on nx ny p x y i hx hy;
    }
