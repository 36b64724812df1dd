-- Obstacles inside the grid: what a list of them does to the populations, and the outcome of the operation.
use Rattle.std.specs.Prelude.{Bool, false, cond, ◌&&◌, ◌||◌, List, [], ◌∷◌, ℕ, eqb, length}
use Rattle.lattice.specs.Lattice.{OPP}
use Rattle.grid.specs.Grid.{Field, field_of, buffer_of}
use Rattle.settings.specs.declared.Obstacle.{Obstacle}
use Rattle.settings.specs.declared.Settings.{Settings}
use Rattle.settings.specs.Refusals.{refusal, set_no_slip_bc}
use Rattle.settings.specs.Outcome.{Written, written}

-- the list names the cell at (x, y)
unfoldable pub is_named : List Obstacle → ℕ → ℕ → Bool
is_named [] x y = false
is_named (o ∷ rest) x y = eqb o.x x && eqb o.y y || is_named rest x y

-- each named cell's populations are swapped with their opposites, and every other entry is as it was
unfoldable pub bounced : List Obstacle → Field → Field
bounced list p x y i = cond (is_named list x y) (p x y (OPP i)) (p x y i)

unfoldable pub bounced_buffer : ℕ → ℕ → List Obstacle → List ℕ → List ℕ
bounced_buffer nx ny list f = buffer_of nx ny (bounced list (field_of nx ny f))

-- the number, and the populations; refused, they are as they were
abbrev pub no_slip_set : Settings → List Obstacle → List ℕ → Written
no_slip_set s list f = written (refusal (set_no_slip_bc s list (length f))) f (bounced_buffer s.nx s.ny list f)
