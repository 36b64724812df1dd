-- Rows and planes: two parts make a turned row, rows a turned plane, and planes the streamed field; and so their joined bits.
use mathlib.Core.Path.{◌≡◌, refl, sym, ap, ap₂, ◌∙◌}
use mathlib.Core.Bool.{Bool}
use mathlib.Core.List.{List}
use Prim.Native.Nat.{ℕ, ◌+◌, ◌-◌, ◌*◌, ◌/◌, ◌%◌, ◌≤◌, ◌<◌}
use native.Mathlib.Nat.{add_comm, zero-add}
use native.Mathlib.Omega.{arith}
use lib.Bits.{bit_or}
use lib.ListN.{length, get_or, take, drop}
use borrow.Rule.Slice.PartMut.{put_mid}
use Rattle.std.proofs.lemmas.List.{length-take-le, length-drop, get_or-take, get_or-drop}
use Rattle.number.specs.Joined.{joined_to}
use Rattle.number.proofs.Joined.{joined_then, joined_same}
use Rattle.lattice.specs.declared.Axis.TheVariants.{X, Y}
use Rattle.grid.specs.Grid.{field_of}
use Rattle.grid.specs.Writes.{Wrote}
use Rattle.grid.specs.Finite.{joined_buffer}
use Rattle.grid.proofs.Radix.{low, high, within, cell_in}
use Rattle.grid.proofs.Writes.{part_wrote, join, same_values, to_length}
use Rattle.streaming.specs.Travel.{part, against, far, turn, streamed}
use Rattle.streaming.specs.Turned.{facing, seen}
use Rattle.streaming.specs.declared.travel.Shift.{Shift}
use Rattle.streaming.specs.Rows.{Streamed, turned_row, turned_plane}
use Rattle.streaming.proofs.Ring.{before_seam, after_seam}
use Rattle.streaming.proofs.Turned.{facing_small, facing_twice}

-- ---- a stretch that is written, and its raised patterns joined

-- what a function that copies makes: g is d with v in the n entries from lo on, and bits are their raised patterns joined
abbrev pub Copied : List ℕ → List ℕ → ℕ → ℕ → (ℕ → ℕ) → ℕ → Type 0
Copied d g lo n v bits = Wrote d g lo n v × (bits ≡ joined_to v n)

-- two stretches that meet
copied_then : (d e g : List ℕ) (lo m n : ℕ) (v u w : ℕ → ℕ) {a b : ℕ} {total : ℕ} → ((k : ℕ) → k < m → u k ≡ v k) → ((k : ℕ) → k < n → w k ≡ v (m + k)) → m + n ≡ total
    → Copied d e lo m u a → Copied e g (lo + m) n w b → Copied d g lo total v (bit_or a b)
copied_then d e g lo m n v u w first second size (wu, ja) (ww, jb) = (
  to_length (join d e g lo m n v (same_values first wu) (same_values second ww)) size,
  ap₂ bit_or (ja ∙ joined_same u v m first) (jb ∙ joined_same w (λ k. v (m + k)) n second) ∙ sym (joined_then v m n) ∙ ap (joined_to v) size,
)

-- n entries of p, from `from` on, copied to d from lo on, by the code `copy(&p[from..from + n], &mut d[lo..lo + n])`: l is what that part of d then holds
pub part_copied : (p d l : List ℕ) (from lo m k n : ℕ) {bits : ℕ} → m ≡ n → k ≡ n → from + n ≤ length p → lo + n ≤ length d
    → l ≡ take k (drop from p)
    → bits ≡ joined_buffer (take k (drop from p))
    → Copied d (put_mid lo m d l) lo n (λ j. get_or p (from + j) 0) bits
part_copied p d l from lo m k n em ek hp hd is join =
    let part = take n (drop from p) in
    let size : length part ≡ n = length-take-le n (drop from p) (omega (arith, length-drop from p)) in
    let at : (j : ℕ) → j < n → get_or part j 0 ≡ get_or p (from + j) 0 =
    λ j h. get_or-take n (drop from p) j 0 h ∙ get_or-drop from p j 0 in
    let is' : l ≡ part = rw ek at is in
    let join' : _ ≡ joined_buffer part = rw ek at join in (
      rw em (same_values (λ j h. ap (λ (x : List ℕ). get_or x j 0) is' ∙ at j h) (part_wrote d l lo n hd (ap length is' ∙ size))),
      join' ∙ ap (joined_to (λ j. get_or part j 0)) size ∙ joined_same (λ j. get_or part j 0) (λ j. get_or p (from + j) 0) n at,
    )

module _ (p d e g : List ℕ) where
  -- the two parts of a turned row
  pub two_parts : (from to n s : ℕ) {a b : ℕ} → s ≤ n
      → Copied d e to (n - s) (λ k. get_or p (from + s + k) 0) a
      → Copied e g (to + (n - s)) s (λ k. get_or p (from + k) 0) b
      → Copied d g to n (turned_row n s from p) (bit_or a b)
  two_parts from to n s h w u =
      copied_then d e g to (n - s) s (turned_row n s from p) _ _
      (λ k l. ap (λ (j : ℕ). get_or p j 0) (omega (arith, before_seam n s k (omega arith))))
      (λ k l. ap (λ (j : ℕ). get_or p (from + j) 0) (sym (after_seam n s k h l)))
      (omega arith)
      w
      u

  -- one row more of a turned plane
  pub row_more : (t : Shift) (base y from : ℕ) {a b : ℕ} → from ≡ (y + t.sy) % t.ny
      → Copied d e base (y * t.nx) (turned_plane t base p) a
      → Copied e g (base + y * t.nx) t.nx (turned_row t.nx t.sx (base + from * t.nx) p) b
      → Copied d g base ((y + 1) * t.nx) (turned_plane t base p) (bit_or a b)
  unfolding turned_plane turn
  row_more t base y from is w u =
      let nx = t.nx in
      copied_then d e g base (y * nx) nx (turned_plane t base p) _ _
      (λ k l. refl)
      (λ k l. rw (add_comm (y * nx) k, low k y nx l, high k y nx l, ← is) (ap (λ (j : ℕ). get_or p j 0) (omega arith)))
      (omega arith)
      w
      u

-- entry k of plane j of the streamed buffer, and entry k of the whole by the digits of k
abbrev shifted : ℕ → ℕ → ℕ → Shift
shifted nx ny i = record { nx = nx; ny = ny; sx = far (against (part X i)) nx; sy = far (against (part Y i)) ny }

unfoldable pub plane_at : Bool → ℕ → ℕ → List ℕ → ℕ → ℕ → ℕ
plane_at back nx ny p j k = turned_plane (shifted nx ny (facing back j)) (j * (nx * ny)) p k

unfoldable pub flow : Bool → ℕ → ℕ → List ℕ → ℕ → ℕ
flow back nx ny p k = plane_at back nx ny p (k / (nx * ny)) (k % (nx * ny))

module _ (back : Bool) (p d : List ℕ) (nx ny : ℕ) where
  -- one plane more
  pub plane_more : (e g : List ℕ) (j i sx sy : ℕ) {a b : ℕ} → i ≡ facing back j → sx ≡ far (against (part X i)) nx → sy ≡ far (against (part Y i)) ny
      → Copied d e 0 (j * (nx * ny)) (flow back nx ny p) a
      → Copied e g (j * (nx * ny)) (nx * ny) (turned_plane (record { nx = nx; ny = ny; sx = sx; sy = sy }) (j * (nx * ny)) p) b
      → Copied d g 0 ((j + 1) * (nx * ny)) (flow back nx ny p) (bit_or a b)
  unfolding flow plane_at
  plane_more e g j i sx sy is px py w u =
      let n = nx * ny in
      let t : Shift = record { nx = nx; ny = ny; sx = sx; sy = sy } in
      copied_then d e g 0 (j * n) n (flow back nx ny p) (flow back nx ny p) (turned_plane t (j * n) p)
      (λ k l. refl)
      (λ k l. rw (add_comm (j * n) k, low k j n l, high k j n l, px, py, is))
      (omega arith)
      w
      (rw zero-add u)

  -- an entry of the streamed buffer
  flow_at : (x y i : ℕ) → x < nx → y < ny → i < 9 → flow back nx ny p (x + y * nx + facing back i * (nx * ny)) ≡ streamed nx ny (seen back nx ny p) x y i
  unfolding flow plane_at turned_plane streamed field_of
  flow_at x y i hx hy hi =
      let j = facing back i in
      let c : x + y * nx < nx * ny = within x y nx ny hx hy in
      rw (low (x + y * nx) j (nx * ny) c, high (x + y * nx) j (nx * ny) c, low x y nx hx, high x y nx hx, facing_twice back i hi)
      (ap (λ (k : ℕ). get_or p k 0) (add_comm (j * (nx * ny)) _))

  -- the whole buffer
  pub all_planes : (e : List ℕ) {bits : ℕ} → length d ≡ 9 * (nx * ny) → Copied d e 0 (9 * (nx * ny)) (flow back nx ny p) bits → Streamed back nx ny p d e × (bits ≡ joined_buffer e)
  unfolding field_of
  all_planes e size (w, j) =
      let at : (k : ℕ) → k < 9 * (nx * ny) → get_or e k 0 ≡ flow back nx ny p k =
      λ k b. ap (λ (j : ℕ). get_or e j 0) (sym (zero-add k)) ∙ w.inside k b in (
        record {
          size = w.size;
          field = record {
            here = λ x y i hx hy hi.
                at (x + y * nx + facing back i * (nx * ny)) (cell_in (nx * ny) (x + y * nx) (facing back i) (within x y nx ny hx hy) (facing_small back i hi))
                ∙ flow_at x y i hx hy hi;
          };
        },
        j ∙ sym (joined_same (λ k. get_or e k 0) (flow back nx ny p) (9 * (nx * ny)) at) ∙ ap (joined_to (λ k. get_or e k 0)) (sym (w.size ∙ size)),
      )
