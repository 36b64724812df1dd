-- The ten numbers of a tally: the nine wrap to the first, and one changed entry moves two of them to what they are afresh.
use mathlib.Core.Path.{◌≡◌, refl, sym, ap, ◌∙◌}
use mathlib.Core.Bool.{false}
use mathlib.Core.List.{List}
use Prim.Native.Nat.{ℕ, zero, suc, ◌+◌, ◌*◌, ◌<◌}
use native.Mathlib.Decide.{ℕ_discrete}
use native.Mathlib.Numerals.{add-one}
use native.Mathlib.Omega.{arith}
use borrow.Author.Tests.{eq-eqb}
use lib.ListN.{length, get_or, set, length-set}
use lib.Seq.{ext_get_or, get_or-set_same, get_or-set_other}
use Rattle.number.proofs.Nine.{at_nine}
use Rattle.grid.specs.Grid.{index}
use Rattle.grid.proofs.Radix.{index_in, within, high_inj}
use Rattle.sums.specs.Sums.{sum, wrapped, less, moved_by}
use Rattle.sums.proofs.Sums.{sum_cong, stretches, wrap_terms, sum_changed, moved_sum, same_wrapped, moved_wrapped}
use Rattle.settings.specs.Tests.{plane_in, sums_bad}
use Rattle.lossless.specs.Lossless.{Buffer}
use Rattle.tally.specs.Tally.{total, plane, tally_of, moved}

-- ---- ten numbers, by the first and the planes

ten_at : (t u : List ℕ) → get_or t 0 0 ≡ get_or u 0 0 → ((i : ℕ) → i < 9 → plane_in t i ≡ plane_in u i) → (k : ℕ) → k < 10 → get_or t k 0 ≡ get_or u k 0
ten_at t u a e zero h = a
ten_at t u a e (suc k) h = rw (add-one k) at (e k (omega arith))

module _ (n : ℕ) (f : List ℕ) where
  pub plane_at : (i : ℕ) → i < 9 → plane_in (tally_of n f) i ≡ plane n f i
  unfolding tally_of
  plane_at i h = rw (add-one i) (at_nine (plane n f) 0 i h)

  pub total_at : get_or (tally_of n f) 0 0 ≡ total n f
  unfolding tally_of
  total_at = refl

  pub tally_length : length (tally_of n f) ≡ 10
  unfolding tally_of
  tally_length = refl

  pub is_tally : (t : List ℕ) → length t ≡ 10 → get_or t 0 0 ≡ total n f → ((i : ℕ) → i < 9 → plane_in t i ≡ plane n f i) → t ≡ tally_of n f
  is_tally t size a e =
      ext_get_or 0 t (tally_of n f) (size ∙ sym tally_length)
      (λ k h. ten_at t (tally_of n f) (a ∙ sym total_at) (λ i l. e i l ∙ sym (plane_at i l)) k (omega arith))

  -- ---- THE NINE WRAP TO THE FIRST

  pub nine_wrap : wrapped (sum 9 (plane n f)) ≡ total n f
  unfolding plane total
  nine_wrap =
      wrap_terms 9 (λ i. sum n (λ c. get_or f (c + i * n) 0)) ∙ ap wrapped (sym (stretches 9 n (λ k. get_or f k 0)))

  -- so number 17 never refuses the tally of a buffer
  pub own_sums : sums_bad (tally_of n f) ≡ false
  unfolding sums_bad
  own_sums =
      let t = tally_of n f in
      rw (eq-eqb (wrapped (sum 9 (plane_in t))) (get_or t 0 0)
      (ap wrapped (sum_cong 9 (plane_in t) (plane n f) plane_at) ∙ nine_wrap ∙ sym total_at))

-- ---- what a move leaves

module _ (i old new : ℕ) (t : List ℕ) (size : length t ≡ 10) (hi : i < 9) where
  moved_length : length (moved i old new t) ≡ 10
  unfolding moved
  moved_length = simp length-set size

  moved_first : get_or (moved i old new t) 0 0 ≡ moved_by old new (get_or t 0 0)
  unfolding moved
  moved_first =
      get_or-set_other (set t 0 (moved_by old new (get_or t 0 0))) (i + 1) 0 (moved_by old new (plane_in t i)) 0 (λ p. omega arith)
      ∙ get_or-set_same t 0 (moved_by old new (get_or t 0 0)) 0 (omega arith)

  moved_plane : plane_in (moved i old new t) i ≡ moved_by old new (plane_in t i)
  unfolding moved
  moved_plane =
      get_or-set_same (set t 0 (moved_by old new (get_or t 0 0))) (i + 1) (moved_by old new (plane_in t i)) 0
      (omega (arith, length-set t 0 (moved_by old new (get_or t 0 0))))

  moved_other : (k : ℕ) → (k ≡ i → ⊥) → plane_in (moved i old new t) k ≡ plane_in t k
  unfolding moved
  moved_other k d =
      get_or-set_other (set t 0 (moved_by old new (get_or t 0 0))) (i + 1) (k + 1) (moved_by old new (plane_in t i)) 0 (λ p. d (omega arith))
      ∙ get_or-set_other t 0 (k + 1) (moved_by old new (get_or t 0 0)) 0 (λ p. omega arith)

  -- whatever ten numbers wrap go on to
  pub stays_wrapped : wrapped (sum 9 (plane_in t)) ≡ get_or t 0 0
      → wrapped (sum 9 (plane_in (moved i old new t))) ≡ get_or (moved i old new t) 0 0
  stays_wrapped e =
      let u = moved i old new t in
      same_wrapped (sum 9 (plane_in u)) (sum 9 (plane_in t)) (plane_in t i) (less new old)
      (sum_changed 9 i (plane_in u) (plane_in t) hi moved_other ∙ ap (λ (a : ℕ). sum 9 (plane_in t) + a) moved_plane)
      ∙ sym (moved_wrapped (sum 9 (plane_in t)) old new)
      ∙ ap (moved_by old new) e
      ∙ sym moved_first

-- ---- ONE CHANGED ENTRY MOVES THE TALLY TO THE FRESH ONE

module _ (nx ny x y i v : ℕ) (f : List ℕ) (b : Buffer nx ny f) (hx : x < nx) (hy : y < ny) (hi : i < 9) where
  abbrev n : ℕ
  n = nx * ny

  abbrev place : ℕ
  place = index nx ny x y i

  abbrev old : ℕ
  old = get_or f place 0

  abbrev after : List ℕ
  after = set f place v

  in_buffer : place < 9 * n
  in_buffer = index_in nx ny x y i hx hy hi

  new_there : get_or after place 0 ≡ v
  new_there = get_or-set_same f place v 0 (omega (arith, in_buffer, b.size))

  else_where : (k : ℕ) → (k ≡ place → ⊥) → get_or after k 0 ≡ get_or f k 0
  else_where k d = get_or-set_other f place k v 0 d

  -- of m entries, where g finds them, the one at j is changed
  sum_moved : (m j : ℕ) (g : ℕ → ℕ) → j < m → g j ≡ place → ((k : ℕ) → (k ≡ j → ⊥) → g k ≡ place → ⊥)
      → moved_by old v (wrapped (sum m (λ k. get_or f (g k) 0))) ≡ wrapped (sum m (λ k. get_or after (g k) 0))
  sum_moved m j g h there apart =
      let was : get_or f (g j) 0 ≡ old = ap (λ (k : ℕ). get_or f k 0) there in
      let is : get_or after (g j) 0 ≡ v = ap (λ (k : ℕ). get_or after k 0) there ∙ new_there in
      moved_sum (sum m (λ k. get_or f (g k) 0)) (sum m (λ k. get_or after (g k) 0)) old v (b.words place)
      (ap (λ (a : ℕ). sum m (λ k. get_or after (g k) 0) + a) (sym was)
      ∙ sum_changed m j (λ k. get_or after (g k) 0) (λ k. get_or f (g k) 0) h (λ k d. else_where (g k) (apart k d))
      ∙ ap (λ (a : ℕ). sum m (λ k. get_or f (g k) 0) + a) is)

  pub total_moved : moved_by old v (total n f) ≡ total n after
  unfolding total
  total_moved = sum_moved (9 * n) place (λ k. k) in_buffer refl (λ k d. d)

  pub plane_moved : moved_by old v (plane n f i) ≡ plane n after i
  unfolding plane
  plane_moved = sum_moved n (x + y * nx) (λ c. c + i * n) (within x y nx ny hx hy) refl (λ c d p. d (omega arith))

  plane_other : (k : ℕ) → (k ≡ i → ⊥) → plane n f k ≡ plane n after k
  unfolding plane
  plane_other k d =
      ap wrapped
      (sum_cong n (λ c. get_or f (c + k * n) 0) (λ c. get_or after (c + k * n) 0)
      (λ c h. sym (else_where (c + k * n) (λ p. d (high_inj n c k (x + y * nx) i h (within x y nx ny hx hy) p)))))

  pub moved_is_fresh : moved i old v (tally_of n f) ≡ tally_of n after
  moved_is_fresh =
      let t = tally_of n f in
      let size = tally_length n f in
      is_tally n after (moved i old v t) (moved_length i old v t size hi)
      (moved_first i old v t size hi ∙ ap (moved_by old v) (total_at n f) ∙ total_moved)
      (λ k h. go k h (ℕ_discrete k i))
    where
      go : (k : ℕ) → k < 9 → Dec (k ≡ i) → plane_in (moved i old v (tally_of n f)) k ≡ plane n after k
      go k h (yes e) =
          rw e
          (moved_plane i old v (tally_of n f) (tally_length n f) hi ∙ ap (moved_by old v) (plane_at n f i hi) ∙ plane_moved)
      go k h (no d) = moved_other i old v (tally_of n f) (tally_length n f) hi k d ∙ plane_at n f k h ∙ plane_other k d
