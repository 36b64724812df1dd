-- What the functions below the operations ask and leave.
use Rattle.std.specs.Prelude.{◌≡◌, Bool, true, false, List, ℕ, ◌+◌, ◌*◌, ◌/◌, ◌%◌, ◌≤◌, length, get_or, set, Float}
use Rattle.number.specs.Number.{value_of, pattern_of, magnitude_of, larger_of, ◌⊖◌}
use Rattle.number.specs.Joined.{clear_of}
use Rattle.number.specs.Nine.{at}
use Rattle.grid.specs.Grid.{most_cells, Grid, listed, cell_of}
use Rattle.grid.specs.Finite.{AllFinite}
use Rattle.cell.specs.declared.Moments.{Moments}
use Rattle.cell.specs.Cell.{cell_by}
use Rattle.settings.specs.declared.Settings.{Settings}
use Rattle.streaming.specs.Carried.{carried_join}
use Rattle.runs.specs.declared.snapshot.Maxima.{Maxima}
use Rattle.runs.specs.Steps.{collided_buffer}

-- two buffers of n cells
pub record Paired (n : ℕ) (f post : List ℕ) : Type 0 where
  pub few : n ≤ most_cells
  pub f_size : length f ≡ 9 * n
  pub post_size : length post ≡ 9 * n

-- the buffers of a study whose sides are allowed
pub record Ready (s : Settings) (f post : List ℕ) : Type 0 where
  pub grid : Grid s.nx s.ny
  pub f_size : length f ≡ 9 * (s.nx * s.ny)
  pub post_size : length post ≡ 9 * (s.nx * s.ny)

-- those and its velocity buffer
pub record AllReady (s : Settings) (f post u : List ℕ) : Type 0 where
  pub ready : Ready s f post
  pub u_size : length u ≡ 2 * (s.nx * s.ny)

-- its populations and its velocity buffer
pub record Seen (s : Settings) (f u : List ℕ) : Type 0 where
  pub grid : Grid s.nx s.ny
  pub f_size : length f ≡ 9 * (s.nx * s.ny)
  pub u_size : length u ≡ 2 * (s.nx * s.ny)

-- `finite` is true only where every entry of f is finite
pub record Vouched (finite : Bool) (f : List ℕ) : Type 0 where
  pub so : finite ≡ true → AllFinite f

-- what the bits that a step from f writes tell of the new populations
abbrev pub clear_after : Settings → List ℕ → Bool
clear_after s f = clear_of (carried_join false s (collided_buffer s f))

-- entry i of cell c after one of the three collisions
abbrev pub entry_by : (List Float → List Float → List Float → List Float) → Float → Float → Float → List ℕ → ℕ → ℕ → ℕ → ℕ
entry_by collide fx fy floor f n c i = pattern_of (at (cell_by collide (cell_of f n c) fx fy floor) i)

-- what a pass over the n cells of f writes: every cell so collided
unfoldable pub passed : (List Float → List Float → List Float → List Float) → Float → Float → Float → ℕ → List ℕ → List ℕ
passed collide fx fy floor n f = listed (9 * n) (λ k. entry_by collide fx fy floor f n (k % n) (k / n))

-- the two maxima once a component is taken in, which was `last` in the last snapshot
abbrev pub taken_in : Maxima → Float → Float → Maxima
taken_in max new last = record {
  du = larger_of max.du (magnitude_of (new ⊖ last));
  umax = larger_of max.umax (magnitude_of new);
}

-- the same for both components of cell c, and the velocity buffer that then holds them
pub record CellTaken : Type 0 where
  pub maxima : Maxima
  pub u : List ℕ

abbrev pub taken : Maxima → List ℕ → CellTaken
taken max u = record { maxima = max; u = u }

abbrev pub cell_taken : Maxima → Moments → ℕ → List ℕ → CellTaken
cell_taken max m c u =
    taken
    (taken_in (taken_in max m.ux (value_of (get_or u (2 * c) 0))) m.uy (value_of (get_or u (2 * c + 1) 0)))
    (set (set u (2 * c) (pattern_of m.ux)) (2 * c + 1) (pattern_of m.uy))
