-- Snapshots: one cell more and all cells, for the loop that judges a snapshot and for the loop that takes one.
use mathlib.Core.Path.{◌≡◌, refl, sym, ap, ◌∙◌}
use mathlib.Core.Bool.{Bool, false, ◌||◌}
use mathlib.Core.List.{List}
use Prim.Native.Nat.{ℕ, suc, ◌+◌, ◌*◌, ◌/◌, ◌%◌, ◌≤◌, ◌<◌}
use native.Mathlib.Nat.{le_antisymm}
use native.Mathlib.Numerals.{add-one}
use native.Mathlib.Omega.{arith}
use lib.ListN.{length, get_or}
use lib.Ieee.{Float}
use Rattle.number.specs.Number.{c0, larger_of}
use Rattle.grid.specs.Writes.{Wrote}
use Rattle.grid.proofs.Writes.{none}
use Rattle.cell.specs.declared.Moments.{Moments}
use Rattle.settings.specs.declared.Settings.{Settings}
use Rattle.readings.specs.Readings.{velocity_at, component_at, velocity_entry, velocity_buffer}
use Rattle.readings.proofs.Fills.{velocity_more, velocity_all}
use Rattle.runs.specs.declared.snapshot.Maxima.{Maxima}
use Rattle.runs.specs.Passes.{CellTaken, taken, cell_taken}
use Rattle.runs.specs.Steady.{some_of, bad_cell, bad_snapshot, largest, change, speed, ratio, residual_of}

-- ---- judging

-- whether one of the first c of n cells is bad
pub record Judging (s : Settings) (f : List ℕ) (n : ℕ) (bad : Bool) (c : ℕ) : Type 0 where
  pub low : c ≤ n
  pub is : bad ≡ some_of (bad_cell s f) c

module _ {s : Settings} {f : List ℕ} where
  pub judged_none : {n : ℕ} → Judging s f n false 0
  unfolding some_of
  judged_none = record { low = omega arith; is = refl }

  pub judged_more : {n c : ℕ} {a b : Bool} → Judging s f n a c → c < n → b ≡ bad_cell s f c → Judging s f n (a || b) (c + 1)
  unfolding some_of
  judged_more {c = c} j h q = record { low = omega arith; is = rw (add-one c, j.is, q) }

  pub judged_all : {bad : Bool} {c : ℕ} → Judging s f (s.nx * s.ny) bad c → s.nx * s.ny ≤ c → bad ≡ bad_snapshot s f
  unfolding bad_snapshot
  judged_all j h = rw (le_antisymm j.low h) at j.is

-- ---- taking

-- the snapshot's first c of n cells are written over the last one, and the two maxima are those of their components
pub record Taking (s : Settings) (f last u : List ℕ) (n : ℕ) (max : Maxima) (c : ℕ) : Type 0 where
  pub low : c ≤ n
  pub wrote : Wrote last u 0 (2 * c) (velocity_entry s f)
  pub du : max.du ≡ largest (change s f last) (2 * c)
  pub umax : max.umax ≡ largest (speed s f) (2 * c)

two_more : (g : ℕ → Float) (c : ℕ) → largest g (2 * (c + 1)) ≡ larger_of (larger_of (largest g (2 * c)) (g (2 * c))) (g (2 * c + 1))
unfolding largest
two_more g c = let e : 2 * (c + 1) ≡ suc (suc (2 * c)) = omega arith in rw (e, add-one (2 * c))

module _ (s : Settings) (f last : List ℕ) where
  component_x : (c : ℕ) → component_at s f (2 * c) ≡ (velocity_at s f c).ux
  unfolding component_at
  component_x c =
      let q : 2 * c / 2 ≡ c = omega arith in
      let r : 2 * c % 2 ≡ 0 = omega arith in
      rw (q, r)

  component_y : (c : ℕ) → component_at s f (2 * c + 1) ≡ (velocity_at s f c).uy
  unfolding component_at
  component_y c =
      let q : (2 * c + 1) / 2 ≡ c = omega arith in
      let r : (2 * c + 1) % 2 ≡ 1 = omega arith in
      rw (q, r)

  pub taken_none : {n : ℕ} → Taking s f last last n (record { du = c0; umax = c0 }) 0
  unfolding largest
  taken_none = record { low = omega arith; wrote = none _ _ _; du = refl; umax = refl }

  -- one cell more, whose old components are still the last snapshot's
  pub taken_more : {n c : ℕ} {u u' : List ℕ} {max max' : Maxima} {m : Moments} → taken max' u' ≡ cell_taken max m c u → Taking s f last u n max c → c < n → m ≡ velocity_at s f c
      → length last ≡ 2 * n → Taking s f last u' n max' (c + 1)
  taken_more {c = c} {u} {m = m} e t h p size =
      let fits : 2 * c + 1 < length last = omega arith in
      let old-x : get_or u (2 * c) 0 ≡ get_or last (2 * c) 0 = t.wrote.above (2 * c) (omega arith) in
      let old-y : get_or u (2 * c + 1) 0 ≡ get_or last (2 * c + 1) 0 = t.wrote.above (2 * c + 1) (omega arith) in
      let new-x : m.ux ≡ component_at s f (2 * c) = ap (λ (m : Moments). m.ux) p ∙ sym (component_x c) in
      let new-y : m.uy ≡ component_at s f (2 * c + 1) = ap (λ (m : Moments). m.uy) p ∙ sym (component_y c) in
      record {
        low = omega arith;
        wrote = rw (ap (λ (t : CellTaken). t.u) e) (velocity_more s f last u c fits p refl refl t.wrote);
        du = ap (λ (t : CellTaken). t.maxima.du) e ∙ rw (t.du, old-x, old-y, new-x, new-y, two_more (change s f last) c);
        umax = ap (λ (t : CellTaken). t.maxima.umax) e ∙ rw (t.umax, new-x, new-y, two_more (speed s f) c);
      }

  module _ {u : List ℕ} {max : Maxima} {c : ℕ} (t : Taking s f last u (s.nx * s.ny) max c) (h : s.nx * s.ny ≤ c) where
    pub taken_all : length last ≡ 2 * (s.nx * s.ny) → u ≡ velocity_buffer s f
    taken_all size = velocity_all s f size (rw (le_antisymm t.low h) at t.wrote)

    pub residual_is : {r : Float} → r ≡ ratio max.du max.umax → r ≡ residual_of s f last
    unfolding residual_of
    residual_is e = let c≡n = le_antisymm t.low h in e ∙ rw (t.du, t.umax, c≡n)
