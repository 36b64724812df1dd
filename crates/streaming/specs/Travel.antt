-- Steps along the axes of a grid, and streaming, which wraps on both.
use Rattle.std.specs.Prelude.{ℕ, zero, suc, ◌+◌, ◌-◌, ◌%◌, ℤ, pos, negsuc}
use Rattle.lattice.specs.declared.Axis.{Axis}
use Rattle.lattice.specs.declared.Axis.TheVariants.{X, Y}
use Rattle.lattice.specs.Lattice.{E}
use Rattle.grid.specs.Grid.{Field}

-- a component of a direction as a step along its axis: 0, +1 or -1
pub data Step : Type 0 where
  stay up down : Step

abbrev pub step_by : ℤ → Step
step_by (pos zero) = stay
step_by (pos (suc n)) = up
step_by (negsuc n) = down

-- the step of direction i along an axis
abbrev pub part : Axis → ℕ → Step
part a i = step_by (E i a)

-- the step back
abbrev pub against : Step → Step
against stay = stay
against up = down
against down = up

-- as many places on as come to a step around a side of n
abbrev pub far : Step → ℕ → ℕ
far stay n = 0
far up n = 1
far down n = n - 1

-- the coordinate k, s places on around a side of n
unfoldable pub turn : ℕ → ℕ → ℕ → ℕ
turn n s k = (k + s) % n

-- the coordinate k + e, wrapped
abbrev pub moved : Step → ℕ → ℕ → ℕ
moved e n k = turn n (far e n) k

-- STREAMING: what stands at (x, y) came from (x - ex, y - ey), wrapped on both axes
unfoldable pub streamed : ℕ → ℕ → Field → Field
streamed nx ny p x y i = p (moved (against (part X i)) nx x) (moved (against (part Y i)) ny y) i
