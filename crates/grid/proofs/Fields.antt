-- Buffers of one size and fields on the grid determine each other, so that a contract on either is one on the other.
use mathlib.Core.Path.{◌≡◌, refl, sym, ap, ◌∙◌}
use mathlib.Core.List.{List, [], ◌∷◌}
use Prim.Native.Nat.{ℕ, zero, suc, ◌+◌, ◌*◌, ◌<◌}
use native.Mathlib.Nat.{le_of_suc-le-suc}
use native.Mathlib.Omega.{arith}
use lib.ListN.{length, get_or}
use lib.Seq.{ext_get_or}
use lib.Ieee.{Float}
use Rattle.number.specs.Number.{value_of}
use Rattle.number.specs.Nine.{nine}
use Rattle.number.proofs.Nine.{nine_of}
use Rattle.grid.specs.Grid.{Grid, Field, field_of, listed, buffer_of, Same, cell_of, Holds}
use Rattle.grid.proofs.Radix.{index_in, column_of, row_of, direction_of, place_of_lem, within, cell_in}

-- ---- lists by their entries

pub listed_length : (n : ℕ) (g : ℕ → ℕ) → length (listed n g) ≡ n
unfolding listed
listed_length zero g = refl
listed_length (suc n) g = ap suc (listed_length n (λ (k : ℕ). g (suc k)))

pub listed_at : (n : ℕ) (g : ℕ → ℕ) (k : ℕ) → k < n → get_or (listed n g) k 0 ≡ g k
unfolding listed
listed_at zero g k h = absurd (omega arith)
listed_at (suc n) g zero h = refl
listed_at (suc n) g (suc k) h = listed_at n (λ (j : ℕ). g (suc j)) k (le_of_suc-le-suc h)

pub is_listed : (n : ℕ) (l : List ℕ) (g : ℕ → ℕ) → length l ≡ n → ((k : ℕ) → k < n → get_or l k 0 ≡ g k) → l ≡ listed n g
is_listed n l g size entries =
    ext_get_or 0 l (listed n g) (size ∙ sym (listed_length n g))
    (λ k h. let b : k < n = omega arith in entries k b ∙ sym (listed_at n g k b))

-- ---- fields that agree

pub same_refl : {nx ny : ℕ} {p : Field} → Same nx ny p p
same_refl = record { here = λ x y i hx hy hi. refl }

pub same_sym : {nx ny : ℕ} {p q : Field} → Same nx ny p q → Same nx ny q p
same_sym s = record { here = λ x y i hx hy hi. sym (s.here x y i hx hy hi) }

pub same_trans : {nx ny : ℕ} {p q r : Field} → Same nx ny p q → Same nx ny q r → Same nx ny p r
same_trans s t = record { here = λ x y i hx hy hi. s.here x y i hx hy hi ∙ t.here x y i hx hy hi }

-- ---- buffers and fields

module _ (nx ny : ℕ) where
  pub buffer_length : (p : Field) → length (buffer_of nx ny p) ≡ 9 * (nx * ny)
  unfolding buffer_of
  buffer_length p = listed_length (9 * (nx * ny)) _

  pub field_of_buffer : (p : Field) → Same nx ny (field_of nx ny (buffer_of nx ny p)) p
  unfolding field_of buffer_of
  field_of_buffer p =
      record {
        here = λ x y i hx hy hi.
            listed_at (9 * (nx * ny)) _ _ (index_in nx ny x y i hx hy hi)
            ∙ rw (column_of nx ny x y i hx hy, row_of nx ny x y i hx hy, direction_of nx ny x y i hx hy);
      }

  pub is_buffer : (b : List ℕ) (p : Field) → length b ≡ 9 * (nx * ny) → Same nx ny (field_of nx ny b) p → b ≡ buffer_of nx ny p
  unfolding field_of buffer_of
  is_buffer b p size s =
      is_listed (9 * (nx * ny)) b _ size
      (λ k h. let q = place_of_lem nx ny k h in ap (λ (j : ℕ). get_or b j 0) (sym q.back) ∙ s.here _ _ _ q.column q.row q.direction)

  pub buffer_of_field : (b : List ℕ) → length b ≡ 9 * (nx * ny) → buffer_of nx ny (field_of nx ny b) ≡ b
  buffer_of_field b size = sym (is_buffer b (field_of nx ny b) size same_refl)

  pub same_buffer : (p q : Field) → Same nx ny p q → buffer_of nx ny p ≡ buffer_of nx ny q
  same_buffer p q s = is_buffer (buffer_of nx ny p) q (buffer_length p) (same_trans (field_of_buffer p) s)

  -- the cell at (x, y)
  pub holds_at : (b : List ℕ) (x y : ℕ) → Grid nx ny → length b ≡ 9 * (nx * ny) → x < nx → y < ny → Holds b (nx * ny) (x + y * nx)
  holds_at b x y g size hx hy = record { few = g.few; cell = within x y nx ny hx hy; size = size }

  pub cell_of_field : (b : List ℕ) (x y : ℕ) → cell_of b (nx * ny) (x + y * nx) ≡ nine (λ i. value_of (field_of nx ny b x y i))
  unfolding cell_of field_of
  cell_of_field b x y = refl

-- ---- the entries of a cell

-- each stands in the buffer
pub held : {b : List ℕ} {n c i : ℕ} → Holds b n c → i < 9 → c + i * n < 9 * n
held {n = n} {c = c} {i = i} h hi = cell_in n c i h.cell hi

-- one, read where it stands
pub entry_at : (b : List ℕ) (n c i : ℕ) {p : ℕ} {x : Float} → p ≡ c + i * n → x ≡ value_of (get_or b p 0) → x ≡ value_of (get_or b (c + i * n) 0)
entry_at b n c i e is = is ∙ ap (λ (j : ℕ). value_of (get_or b j 0)) e

-- the nine of them, read one after the other
pub gathered_nine : (b : List ℕ) (n c : ℕ) {v0 v1 v2 v3 v4 v5 v6 v7 v8 : Float}
    → v0 ≡ value_of (get_or b (c + 0 * n) 0)
    → v1 ≡ value_of (get_or b (c + 1 * n) 0)
    → v2 ≡ value_of (get_or b (c + 2 * n) 0)
    → v3 ≡ value_of (get_or b (c + 3 * n) 0)
    → v4 ≡ value_of (get_or b (c + 4 * n) 0)
    → v5 ≡ value_of (get_or b (c + 5 * n) 0)
    → v6 ≡ value_of (get_or b (c + 6 * n) 0)
    → v7 ≡ value_of (get_or b (c + 7 * n) 0)
    → v8 ≡ value_of (get_or b (c + 8 * n) 0)
    → (v0 ∷ v1 ∷ v2 ∷ v3 ∷ v4 ∷ v5 ∷ v6 ∷ v7 ∷ v8 ∷ []) ≡ cell_of b n c
unfolding cell_of
gathered_nine b n c = nine_of (λ i. value_of (get_or b (c + i * n) 0))
