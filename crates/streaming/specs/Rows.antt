-- What the functions of streaming ask of two lent buffers and leave in the second: whole buffers, planes and rows.
use Rattle.std.specs.Prelude.{◌≡◌, Bool, List, ℕ, ◌+◌, ◌*◌, ◌/◌, ◌%◌, ◌≤◌, length, get_or}
use Rattle.grid.specs.Grid.{Grid, Field, Same}
use Rattle.grid.specs.Writes.{Wrote}
use Rattle.streaming.specs.Travel.{turn, streamed}
use Rattle.streaming.specs.Turned.{seen}
use Rattle.streaming.specs.declared.travel.Shift.{Shift}

-- a buffer to read and a buffer to write, both of the grid's size
pub record Lent (nx ny : ℕ) (src dst : List ℕ) : Type 0 where
  pub grid : Grid nx ny
  pub read : length src ≡ 9 * (nx * ny)
  pub written : length dst ≡ 9 * (nx * ny)

-- the buffer d has become e, which holds the field p
pub record Became (back : Bool) (nx ny : ℕ) (d e : List ℕ) (p : Field) : Type 0 where
  pub size : length e ≡ length d
  pub field : Same nx ny (seen back nx ny e) p

-- streaming src has made e of it
abbrev pub Streamed : Bool → ℕ → ℕ → List ℕ → List ℕ → List ℕ → Type 0
Streamed back nx ny src d e = Became back nx ny d e (streamed nx ny (seen back nx ny src))

-- ---- rows and planes that are turned

-- entry k of a row of n that starts at `from`, turned by s
abbrev pub turned_row : ℕ → ℕ → ℕ → List ℕ → ℕ → ℕ
turned_row n s from p k = get_or p (from + turn n s k) 0

-- entry k of a plane that starts at base, each row turned by sx and the rows themselves by sy
unfoldable pub turned_plane : Shift → ℕ → List ℕ → ℕ → ℕ
turned_plane t base p k = get_or p (base + (turn t.nx t.sx (k % t.nx) + turn t.ny t.sy (k / t.nx) * t.nx)) 0

-- d has become e, with that plane copied into it
abbrev pub PlaneCopied : Shift → ℕ → List ℕ → List ℕ → List ℕ → Type 0
PlaneCopied t base src d e = Wrote d e base (t.nx * t.ny) (turned_plane t base src)

-- the plane stands in both buffers, and is turned once around at most
pub record Reaches (t : Shift) (base : ℕ) (src dst : List ℕ) : Type 0 where
  pub grid : Grid t.nx t.ny
  pub along : t.sx ≤ t.nx
  pub across : t.sy ≤ t.ny
  pub read : base + t.nx * t.ny ≤ length src
  pub written : base + t.nx * t.ny ≤ length dst
