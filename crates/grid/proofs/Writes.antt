-- What a write leaves alone: the laws that every loop that writes cites, over the values that it writes.
use mathlib.Core.Path.{◌≡◌, refl, ap, ◌∙◌, subst}
use mathlib.Core.List.{List}
use mathlib.Core.Logic.{⊎_elim}
use Prim.Native.Nat.{ℕ, ◌+◌, ◌-◌, ◌*◌, ◌≤◌, ◌<◌}
use native.Mathlib.Nat.{ne_of_lt}
use native.Mathlib.Omega.{arith}
use Rattle.std.proofs.Common.{rules}
use borrow.Rule.Slice.PartMut.{put_mid}
use Rattle.std.proofs.lemmas.Slice.{overwrites}
use Rattle.std.proofs.lemmas.List.{places}
use borrow.Author.Count.{below_none, below_more}
use lib.ListN.{length, get_or, set, length-set}
use lib.Seq.{get_or-set_same, get_or-set_other}
use Rattle.grid.specs.Grid.{field_of, Same, Holds}
use Rattle.grid.specs.Writes.{Wrote, Cells, Put}
use Rattle.grid.proofs.Radix.{low_inj, high_inj, within, cell_in, lt_or_ge}

-- ---- a stretch

pub none : (d : List ℕ) (lo : ℕ) (v : ℕ → ℕ) → Wrote d d lo 0 v
none d lo v = record { size = refl; inside = below_none _; below = λ j h. refl; above = λ j h. refl }

-- one element more, by the code `e[lo + n] = a`
pub one_more : (d e : List ℕ) (lo n : ℕ) (v : ℕ → ℕ) (a : ℕ) → Wrote d e lo n v → lo + n < length d → a ≡ v n → Wrote d (set e (lo + n) a) lo (n + 1) v
one_more d e lo n v a w fits is =
    record {
      size = length-set e (lo + n) a ∙ w.size;
      inside = below_more (λ k. get_or (set e (lo + n) a) (lo + k) 0 ≡ v k) n
          (λ k l. get_or-set_other e (lo + n) (lo + k) a 0 (λ p. omega arith) ∙ w.inside k l)
          (get_or-set_same e (lo + n) a 0 (omega (arith, w.size)) ∙ is);
      below = λ j h. get_or-set_other e (lo + n) j a 0 (λ p. omega arith) ∙ w.below j h;
      above = λ j h. get_or-set_other e (lo + n) j a 0 (λ p. omega arith) ∙ w.above j (omega arith);
    }

-- a whole part of d, by the code `&mut d[lo..lo + n]`
pub part_wrote : (d l : List ℕ) (lo n : ℕ) → lo + n ≤ length d → length l ≡ n → Wrote d (put_mid lo n d l) lo n (λ k. get_or l k 0)
part_wrote d l lo n h size = record {
  size = search (rules, overwrites);
  inside = λ k b. search (rules, places);
  below = λ j b. search (rules, places);
  above = λ j b. search (rules, places);
}

-- two stretches that meet
pub join : (d e g : List ℕ) (lo n m : ℕ) (v : ℕ → ℕ) → Wrote d e lo n v → Wrote e g (lo + n) m (λ k. v (n + k)) → Wrote d g lo (n + m) v
join d e g lo n m v w u =
    record {
      size = u.size ∙ w.size;
      inside =
          λ k h.
          ⊎_elim
          (λ l. u.below (lo + k) (omega arith) ∙ w.inside k l)
          (λ l. let p : n + (k - n) ≡ k = omega arith in let q : lo + k ≡ lo + n + (k - n) = omega arith in ap (λ (j : ℕ). get_or g j 0) q ∙ u.inside (k - n) (omega arith) ∙ ap v p)
          (lt_or_ge k n);
      below = λ j h. u.below j (omega arith) ∙ w.below j h;
      above = λ j h. u.above j (omega arith) ∙ w.above j (omega arith);
    }

pub same_values : {d e : List ℕ} {lo n : ℕ} {v u : ℕ → ℕ} → ((k : ℕ) → k < n → v k ≡ u k) → Wrote d e lo n v → Wrote d e lo n u
same_values q w = record { size = w.size; inside = λ k h. w.inside k h ∙ q k h; below = w.below; above = w.above }

pub to_length : {d e : List ℕ} {lo n m : ℕ} {v : ℕ → ℕ} → Wrote d e lo n v → n ≡ m → Wrote d e lo m v
to_length {d} {e} {lo} {v = v} w p = subst (λ (m : ℕ). Wrote d e lo m v) p w

-- ---- one cell

-- as `Put`, for the first m entries of the cell
record PutFirst (d e : List ℕ) (n c m : ℕ) (v : ℕ → ℕ) : Type 0 where
  size : length e ≡ length d
  written : (i : ℕ) → i < m → get_or e (c + i * n) 0 ≡ v i
  others : (b i : ℕ) → b < n → (b ≡ c → ⊥) → get_or e (b + i * n) 0 ≡ get_or d (b + i * n) 0

module _ (d : List ℕ) (n c : ℕ) (v : ℕ → ℕ) (h : Holds d n c) where
  put_none : PutFirst d d n c 0 v
  put_none = record { size = refl; written = below_none _; others = λ b i l o. refl }

  -- one entry more
  put_more : (m : ℕ) {e g : List ℕ} → m < 9 → PutFirst d e n c m v → g ≡ set e (c + m * n) (v m) → PutFirst d g n c (m + 1) v
  put_more m {e} {g} hm w is =
      let hc = h.cell in
      let fits : c + m * n < length e = omega (arith, cell_in n c m hc hm, h.size, w.size) in
      rw is
      (record {
        size = length-set e (c + m * n) (v m) ∙ w.size;
        written = below_more (λ i. get_or (set e (c + m * n) (v m)) (c + i * n) 0 ≡ v i) m
            (λ i l. get_or-set_other e (c + m * n) (c + i * n) (v m) 0 (λ p. let q = high_inj n c i c m hc hc p in omega arith) ∙ w.written i l)
            (get_or-set_same e (c + m * n) (v m) 0 fits);
        others = λ b i l o. get_or-set_other e (c + m * n) (b + i * n) (v m) 0 (λ p. o (low_inj n b i c m l hc p)) ∙ w.others b i l o;
      })

  -- the nine stores, one after the other
  pub put_nine : {e0 e1 e2 e3 e4 e5 e6 e7 e8 : List ℕ}
      → e0 ≡ set d (c + 0 * n) (v 0)
      → e1 ≡ set e0 (c + 1 * n) (v 1)
      → e2 ≡ set e1 (c + 2 * n) (v 2)
      → e3 ≡ set e2 (c + 3 * n) (v 3)
      → e4 ≡ set e3 (c + 4 * n) (v 4)
      → e5 ≡ set e4 (c + 5 * n) (v 5)
      → e6 ≡ set e5 (c + 6 * n) (v 6)
      → e7 ≡ set e6 (c + 7 * n) (v 7)
      → e8 ≡ set e7 (c + 8 * n) (v 8)
      → Put d e8 n c v
  put_nine p0 p1 p2 p3 p4 p5 p6 p7 p8 =
      let w1 = put_more 0 (omega arith) put_none p0 in
      let w2 = put_more 1 (omega arith) w1 p1 in
      let w3 = put_more 2 (omega arith) w2 p2 in
      let w4 = put_more 3 (omega arith) w3 p3 in
      let w5 = put_more 4 (omega arith) w4 p4 in
      let w6 = put_more 5 (omega arith) w5 p5 in
      let w7 = put_more 6 (omega arith) w6 p6 in
      let w8 = put_more 7 (omega arith) w7 p7 in
      let w9 = put_more 8 (omega arith) w8 p8 in
      record { size = w9.size; written = w9.written; others = w9.others }

-- ---- cells

pub cells_none : (d : List ℕ) (n : ℕ) (v : ℕ → ℕ → ℕ) → Cells d d n 0 v
cells_none d n v = record { size = refl; written = λ c i h l. absurd (omega arith); left = λ c i h l. refl }

-- one cell more
pub cell_more : (d e g : List ℕ) (n k : ℕ) (v : ℕ → ℕ → ℕ) (u : ℕ → ℕ) → k < n → Cells d e n k v → Put e g n k u → ((i : ℕ) → i < 9 → u i ≡ v k i) → Cells d g n (k + 1) v
cell_more d e g n k v u hk w p is =
    record {
      size = p.size ∙ w.size;
      written = λ c i h l.
          below_more (λ b. get_or g (b + i * n) 0 ≡ v b i) k
          (λ b hb. p.others b i (omega arith) (ne_of_lt hb) ∙ w.written b i hb l)
          (p.written i l ∙ is i l)
          c h;
      left = λ c i h l. p.others c i l (λ q. omega arith) ∙ w.left c i (omega arith) l;
    }

-- all cells
pub cells_all : (d e : List ℕ) (nx ny : ℕ) (v : ℕ → ℕ → ℕ) → Cells d e (nx * ny) (nx * ny) v → Same nx ny (field_of nx ny e) (λ x y i. v (x + y * nx) i)
unfolding field_of
cells_all d e nx ny v w = record { here = λ x y i hx hy hi. w.written (x + y * nx) i (within x y nx ny hx hy) hi }
