-- ONE CHANGE SHOWS: of a state, in the first number and in its plane's; of the ten numbers in a file, by number 17.
use mathlib.Core.Path.{◌≡◌, sym, ap, ◌∙◌}
use mathlib.Core.Bool.{false}
use mathlib.Core.List.{List}
use Prim.Native.Nat.{ℕ, zero, suc, ◌+◌, ◌*◌, ◌^◌, ◌<◌}
use native.Mathlib.Numerals.{add-one}
use native.Mathlib.Omega.{arith}
use borrow.Author.Tests.{eqb-true, not-false}
use lib.ListN.{get_or, set}
use lib.Seq.{get_or-set_same, get_or-set_other}
use Rattle.grid.specs.Grid.{index}
use Rattle.sums.specs.Sums.{sum, wrapped}
use Rattle.sums.proofs.Sums.{sum_cong, sum_changed, moved_sum, moved_none}
use Rattle.settings.specs.Tests.{plane_in, sums_bad}
use Rattle.lossless.specs.Lossless.{Buffer}
use Rattle.tally.specs.Tally.{total, plane}
use Rattle.tally.proofs.Tallies.{total_moved, plane_moved}
use Rattle.tally.proofs.Files.{Ten}

-- ---- an entry of a state

module _ (nx ny x y i v : ℕ) (f : List ℕ) (b : Buffer nx ny f) (hx : x < nx) (hy : y < ny) (hi : i < 9) (hv : v < 2 ^ 64) where
  abbrev at : ℕ
  at = index nx ny x y i

  pub first_shows : total (nx * ny) (set f at v) ≡ total (nx * ny) f → get_or f at 0 ≡ v
  unfolding total
  first_shows e = moved_none _ (get_or f at 0) v (b.words at) hv (total_moved nx ny x y i v f b hx hy hi ∙ e)

  pub plane_shows : plane (nx * ny) (set f at v) i ≡ plane (nx * ny) f i → get_or f at 0 ≡ v
  unfolding plane
  plane_shows e = moved_none _ (get_or f at 0) v (b.words at) hv (plane_moved nx ny x y i v f b hx hy hi ∙ e)

-- ---- a number of a file

wraps : (t : List ℕ) → sums_bad t ≡ false → wrapped (sum 9 (plane_in t)) ≡ get_or t 0 0
unfolding sums_bad
wraps t e = eqb-true (wrapped (sum 9 (plane_in t))) (get_or t 0 0) (not-false _ e)

pub number_shows : (t : List ℕ) (k v : ℕ) → Ten t → k < 10 → v < 2 ^ 64 → sums_bad t ≡ false → sums_bad (set t k v) ≡ false → get_or t k 0 ≡ v
number_shows t zero v ten hk hv before after =
    let u = set t 0 v in
    sym (wraps t before)
    ∙ ap wrapped (sum_cong 9 (plane_in t) (plane_in u) (λ i l. sym (get_or-set_other t 0 (i + 1) v 0 (λ p. omega arith))))
    ∙ wraps u after
    ∙ get_or-set_same t 0 v 0 (omega (arith, ten.size))
number_shows t (suc i) v ten hk hv before after =
    let u = set t (suc i) v in
    let old = get_or t (suc i) 0 in
    let there : plane_in u i ≡ v = rw (add-one i) (get_or-set_same t (suc i) v 0 (omega (arith, ten.size))) in
    let was : plane_in t i ≡ old = ap (λ (k : ℕ). get_or t k 0) (add-one i) in
    let changed : sum 9 (plane_in u) + old ≡ sum 9 (plane_in t) + v =
    ap (λ (a : ℕ). sum 9 (plane_in u) + a) (sym was)
    ∙ sum_changed 9 i (plane_in u) (plane_in t) (omega arith) (λ k d. get_or-set_other t (suc i) (k + 1) v 0 (λ p. d (omega arith)))
    ∙ ap (λ (a : ℕ). sum 9 (plane_in t) + a) there in
    moved_none (sum 9 (plane_in t)) old v (ten.words (suc i)) hv
    (moved_sum (sum 9 (plane_in t)) (sum 9 (plane_in u)) old v (ten.words (suc i)) changed
    ∙ wraps u after
    ∙ get_or-set_other t (suc i) 0 v 0 (λ p. omega arith)
    ∙ sym (wraps t before))
