-- What the readings answer, and what they leave in the buffers that they write. Cell c = x + y·nx is the one at (x, y).
use Rattle.std.specs.Prelude.{◌≡◌, cond, List, ℕ, ◌+◌, ◌*◌, ◌/◌, ◌%◌, eqb, length, get_or, take, drop, Float, Result, Ok, Err}
use Rattle.std.specs.Borrow.{Bor}
use Rattle.number.specs.Number.{◌⊕◌, ◌⊗◌, c0, c½, value_of, pattern_of}
use Rattle.number.specs.Nine.{sum_to}
use Rattle.grid.specs.Grid.{Field, cell_of, listed, buffer_of}
use Rattle.cell.specs.declared.Moments.{Moments}
use Rattle.cell.specs.Cell.{density_of, read_moments, equilibrium_at}
use Rattle.settings.specs.declared.Settings.{Settings}
use Rattle.settings.specs.Refusals as Call
use Rattle.settings.specs.Refusals.{refusal}
use Rattle.settings.specs.Outcome.{answer, Written, written}
use Rattle.settings.specs.Refused.{number}
use Rattle.settings.specs.declared.refused.Refusal.{Refusal}
use Rattle.readings.specs.declared.answers.Velocity.{Velocity}

-- ---- initialize

-- what an initial table has of cell c: density, ux, uy
unfoldable pub initial_moments : List ℕ → ℕ → Moments
initial_moments table c = record {
  density = value_of (get_or table (3 * c) 0);
  ux = value_of (get_or table (3 * c + 1) 0);
  uy = value_of (get_or table (3 * c + 2) 0);
}

-- entry i of cell c is its equilibrium
unfoldable pub initial_entry : List ℕ → ℕ → ℕ → ℕ
initial_entry table c i = pattern_of (equilibrium_at i (initial_moments table c))

abbrev pub initial_field : Settings → List ℕ → Field
initial_field s table x y i = initial_entry table (x + y * s.nx) i

abbrev pub initialized : Settings → List ℕ → List ℕ → Written
initialized s table f =
    written (refusal (Call.initialize s (length table) (length f))) f (buffer_of s.nx s.ny (initial_field s table))

-- ---- density and velocity of a cell

abbrev pub density_at : Settings → List ℕ → ℕ → Float
density_at s f c = density_of (cell_of f (s.nx * s.ny) c)

-- the velocity, beside the density
abbrev pub velocity_at : Settings → List ℕ → ℕ → Moments
velocity_at s f c = read_moments (cell_of f (s.nx * s.ny) c) s.fx s.fy s.floor

-- a number of the rules, and the value that is read
pub record Reading : Type 0 where
  pub number : ℕ
  pub value : Float

pub record VelocityReading : Type 0 where
  pub number : ℕ
  pub ux : Float
  pub uy : Float

-- what is answered as such a reading: zero where it is refused
abbrev pub reading_of : Result Float Refusal → Reading
reading_of (Ok x) = record { number = 0; value = x }
reading_of (Err why) = record { number = number why; value = c0 }

abbrev pub velocity_reading_of : Result Velocity Refusal → VelocityReading
velocity_reading_of (Ok u) = record { number = 0; ux = u.ux; uy = u.uy }
velocity_reading_of (Err why) = record { number = number why; ux = c0; uy = c0 }

-- one number read, and zero where it is refused
abbrev pub reading : ℕ → Float → Reading
reading number value =
    answer number (record { number = 0; value = value }) (record { number = number; value = c0 })

abbrev pub velocity_reading : ℕ → Moments → VelocityReading
velocity_reading number m =
    answer number (record { number = 0; ux = m.ux; uy = m.uy }) (record { number = number; ux = c0; uy = c0 })

abbrev pub density_read : Settings → List ℕ → ℕ → ℕ → Reading
density_read s f x y = reading (refusal (Call.density s (length f) x y)) (density_at s f (x + y * s.nx))

abbrev pub velocity_read : Settings → List ℕ → ℕ → ℕ → VelocityReading
velocity_read s f x y =
    velocity_reading (refusal (Call.velocity s (length f) x y)) (velocity_at s f (x + y * s.nx))

-- ---- the velocity field

-- component k of all: those of cell c stand at 2·c and 2·c + 1
unfoldable pub component_at : Settings → List ℕ → ℕ → Float
component_at s f k = let m = velocity_at s f (k / 2) in cond (eqb (k % 2) 0) m.ux m.uy

abbrev pub velocity_entry : Settings → List ℕ → ℕ → ℕ
velocity_entry s f k = pattern_of (component_at s f k)

unfoldable pub velocity_buffer : Settings → List ℕ → List ℕ
velocity_buffer s f = listed (2 * (s.nx * s.ny)) (velocity_entry s f)

abbrev pub velocity_field_read : Settings → List ℕ → List ℕ → Written
velocity_field_read s f u = written (refusal (Call.velocity_field s (length f) (length u))) u (velocity_buffer s f)

-- ---- sums over the cells c = 0, 1, .., which is y outer and x inner

unfoldable pub mass_of : Settings → List ℕ → Float
mass_of s f = sum_to (density_at s f) (s.nx * s.ny)

abbrev pub total_mass_read : Settings → List ℕ → Reading
total_mass_read s f = reading (refusal (Call.total_mass s (length f))) (mass_of s f)

abbrev pub cell_energy : Moments → Float
cell_energy m = c½ ⊗ m.density ⊗ (m.ux ⊗ m.ux ⊕ m.uy ⊗ m.uy)

unfoldable pub energy_of : Settings → List ℕ → Float
energy_of s f = sum_to (λ c. cell_energy (velocity_at s f c)) (s.nx * s.ny)

abbrev pub kinetic_energy_read : Settings → List ℕ → Reading
kinetic_energy_read s f = reading (refusal (Call.kinetic_energy s (length f))) (energy_of s f)

-- ---- a direction's plane

-- r is the part of f that starts at entry `start` and has `count` entries: it points there, into the same memory, eight bytes an entry
pub record PartOf (r f : Bor (List ℕ)) (start count : ℕ) : Type 0 where
  pub block : r.ref_ptr.0 ≡ f.ref_ptr.0
  pub place : r.ref_ptr.1 ≡ f.ref_ptr.1 + start * 8
  pub size : length r.now ≡ count
  pub holds : r.now ≡ take count (drop start f.now)

-- where all entries of direction i stand, and how many; none where it is refused
abbrev pub plane_start : Settings → List ℕ → ℕ → ℕ
plane_start s f i = answer (refusal (Call.plane s (length f) i)) (i * (s.nx * s.ny)) 0

abbrev pub plane_length : Settings → List ℕ → ℕ → ℕ
plane_length s f i = answer (refusal (Call.plane s (length f) i)) (s.nx * s.ny) 0
