-- The two loops that fill a buffer cell by cell: what one cell more writes, and what all cells make of the buffer.
use mathlib.Core.Path.{◌≡◌, refl, sym, ap, ◌∙◌}
use mathlib.Core.List.{List}
use Prim.Native.Nat.{ℕ, ◌+◌, ◌*◌, ◌/◌, ◌%◌, ◌<◌}
use native.Mathlib.Nat.{zero-add}
use native.Mathlib.Numerals.{add-one}
use native.Mathlib.Omega.{arith}
use lib.Ieee.{Float, nan}
use lib.ListN.{length, set}
use Rattle.number.specs.Number.{pattern_of, c0, ◌⊕◌}
use Rattle.number.specs.Nine.{at, sum_to}
use Rattle.number.proofs.Nine.{at_nine}
use Rattle.grid.specs.Grid.{buffer_of}
use Rattle.grid.specs.Writes.{Wrote, Cells}
use Rattle.grid.proofs.Fields.{is_buffer, is_listed}
use Rattle.grid.proofs.Writes.{none, one_more, to_length, cells_none, cell_more, cells_all}
use Rattle.cell.specs.declared.Moments.{Moments}
use Rattle.cell.specs.Cell.{equilibrium_at, equilibria_of}
use Rattle.settings.specs.declared.Settings.{Settings}
use Rattle.readings.specs.Readings.{initial_moments, initial_entry, initial_field, velocity_at, component_at, velocity_entry, velocity_buffer}

-- ---- the populations of an initial table

pub initial_cell : (table : List ℕ) (c : ℕ) {m : Moments} {l : List Float} → m ≡ initial_moments table c → l ≡ equilibria_of m → (i : ℕ) → i < 9 → pattern_of (at l i) ≡ initial_entry table c i
unfolding equilibria_of initial_entry
initial_cell table c p q i h =
    ap (λ (e : List Float). pattern_of (at e i)) (q ∙ ap equilibria_of p)
    ∙ ap pattern_of (at_nine (λ k. equilibrium_at k (initial_moments table c)) nan i h)

pub initial_all : (s : Settings) (table : List ℕ) {d e : List ℕ} → length d ≡ 9 * (s.nx * s.ny) → Cells d e (s.nx * s.ny) (s.nx * s.ny) (initial_entry table) → e ≡ buffer_of s.nx s.ny (initial_field s table)
initial_all s table {d} {e} size w =
    is_buffer s.nx s.ny e (initial_field s table) (w.size ∙ size) (cells_all d e s.nx s.ny (initial_entry table) w)

-- ---- the velocities

module _ (s : Settings) (f : List ℕ) where
  even : (c : ℕ) → velocity_entry s f (2 * c) ≡ pattern_of (velocity_at s f c).ux
  unfolding component_at
  even c =
      let q : 2 * c / 2 ≡ c = omega arith in
      let r : 2 * c % 2 ≡ 0 = omega arith in
      rw (q, r)

  odd : (c : ℕ) → velocity_entry s f (2 * c + 1) ≡ pattern_of (velocity_at s f c).uy
  unfolding component_at
  odd c =
      let q : (2 * c + 1) / 2 ≡ c = omega arith in
      let r : (2 * c + 1) % 2 ≡ 1 = omega arith in
      rw (q, r)

  -- both components of cell c
  pub velocity_more : (d e : List ℕ) (c : ℕ) {m : Moments} {a b : ℕ} → 2 * c + 1 < length d → m ≡ velocity_at s f c → a ≡ pattern_of m.ux → b ≡ pattern_of m.uy
      → Wrote d e 0 (2 * c) (velocity_entry s f) → Wrote d (set (set e (2 * c) a) (2 * c + 1) b) 0 (2 * (c + 1)) (velocity_entry s f)
  velocity_more d e c {m} {a} {b} fits p qa qb w =
      let ea : a ≡ velocity_entry s f (2 * c) = qa ∙ ap (λ (m : Moments). pattern_of m.ux) p ∙ sym (even c) in
      let eb : b ≡ velocity_entry s f (2 * c + 1) = qb ∙ ap (λ (m : Moments). pattern_of m.uy) p ∙ sym (odd c) in
      let one = rw (zero-add (2 * c)) at (one_more d e 0 (2 * c) (velocity_entry s f) a w (omega arith) ea) in
      let two = one_more d (set e (2 * c) a) 0 (2 * c + 1) (velocity_entry s f) b one (omega arith) eb in
      to_length (rw (zero-add (2 * c + 1)) at two) (omega arith)

  pub velocity_all : {d e : List ℕ} → length d ≡ 2 * (s.nx * s.ny) → Wrote d e 0 (2 * (s.nx * s.ny)) (velocity_entry s f) → e ≡ velocity_buffer s f
  unfolding velocity_buffer
  velocity_all {d} {e} size w = is_listed (2 * (s.nx * s.ny)) e (velocity_entry s f) (w.size ∙ size) (simp zero-add at w.inside)

-- ---- a sum over the cells

pub sum_none : (g : ℕ → Float) → sum_to g 0 ≡ c0
unfolding sum_to
sum_none g = refl

pub sum_more : (g : ℕ → Float) (k : ℕ) → sum_to g (k + 1) ≡ sum_to g k ⊕ g k
unfolding sum_to
sum_more g k = rw add-one

-- ---- what the loops that fill a buffer cite

pub ruleset initial_fill = (cells_none, cell_more, initial_cell, initial_all)

pub ruleset velocity_fill = (none, to_length, velocity_more, velocity_all)
