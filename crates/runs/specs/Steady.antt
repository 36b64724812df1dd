-- The steady run.
use Rattle.std.specs.Prelude.{Bool, true, false, cond, ◌||◌, List, ℕ, zero, suc, ◌*◌, ◌%◌, eqb, length, get_or, Float, Result, Ok, Err}
use Rattle.std.specs.Float.Ieee.{lt}
use Rattle.number.specs.Number.{value_of, c0, infinity, not_finite, magnitude_of, larger_of, ◌⊖◌, ◌⊘◌}
use Rattle.settings.specs.declared.Settings.{Settings}
use Rattle.settings.specs.Refusals as Refusals
use Rattle.settings.specs.Refusals.{refusal}
use Rattle.settings.specs.Outcome.{answer}
use Rattle.settings.specs.Refused.{number}
use Rattle.settings.specs.declared.refused.Refusal.{Refusal}
use Rattle.readings.specs.Readings.{velocity_at, component_at, velocity_buffer}
use Rattle.runs.specs.declared.steady.Check.{Check}
use Rattle.runs.specs.declared.steady.Check.TheVariants.{Bad, Settles, GoesOn}
use Rattle.runs.specs.declared.steady.Checks.{Checks}
use Rattle.runs.specs.declared.steady.Steady.{Steady}
use Rattle.runs.specs.Steps.{State, state, steps}

-- ---- the answer: the number and the values of each case

-- refused by a number; settled or run out, with the number of steps and the residual; ruined, with the number of steps
pub data Ending : Type 0 where
  Refused : (number : ℕ) → Ending
  Settled RanOut : (k : ℕ) (r : Float) → Ending
  Ruined : (k : ℕ) → Ending

-- what the code answers, in these words
abbrev pub ending : Steady → Ending
ending (Steady.Settled k r) = Settled k r
ending (Steady.RanOut k r) = RanOut k r
ending (Steady.Ruined k) = Ruined k

abbrev pub ending_of : Result Steady Refusal → Ending
ending_of (Ok a) = ending a
ending_of (Err why) = Refused (number why)

abbrev pub steady_number : Ending → ℕ
steady_number (Refused number) = number
steady_number (Settled k r) = 0
steady_number (RanOut k r) = 0
steady_number (Ruined k) = 9

pub record Values : Type 0 where
  pub settled : Bool
  pub steps : ℕ
  pub residual : Float

abbrev pub steady_values : Ending → Values
steady_values (Refused number) = record { settled = false; steps = 0; residual = c0 }
steady_values (Settled k r) = record { settled = true; steps = k; residual = r }
steady_values (RanOut k r) = record { settled = false; steps = k; residual = r }
steady_values (Ruined k) = record { settled = false; steps = k; residual = c0 }

-- ---- snapshots

-- one of g 0, .., g (n - 1)
unfoldable pub some_of : (ℕ → Bool) → ℕ → Bool
some_of g zero = false
some_of g (suc n) = some_of g n || g n

-- A BAD SNAPSHOT: a cell has a density or a velocity component that is not finite
unfoldable pub bad_cell : Settings → List ℕ → ℕ → Bool
bad_cell s f c = let m = velocity_at s f c in not_finite m.density || not_finite m.ux || not_finite m.uy

unfoldable pub bad_snapshot : Settings → List ℕ → Bool
bad_snapshot s f = some_of (bad_cell s f) (s.nx * s.ny)

-- the largest of +0.0 and g 0, .., g (n - 1)
unfoldable pub largest : (ℕ → Float) → ℕ → Float
largest g zero = c0
largest g (suc n) = larger_of (largest g n) (g n)

-- how far the components of a new snapshot are from the last, and how large they are
abbrev pub change : Settings → List ℕ → List ℕ → ℕ → Float
change s f last k = magnitude_of (component_at s f k ⊖ value_of (get_or last k 0))

abbrev pub speed : Settings → List ℕ → ℕ → Float
speed s f k = magnitude_of (component_at s f k)

-- max|Δu| over max|u|, or max|Δu| where max|u|, which is never below 0, is 0
abbrev pub ratio : Float → Float → Float
ratio du umax = cond (lt c0 umax) (du ⊘ umax) du

-- THE RESIDUAL of the snapshot of f against the last, each maximum over all components
unfoldable pub residual_of : Settings → List ℕ → List ℕ → Float
residual_of s f last =
    let n = 2 * (s.nx * s.ny) in
    ratio (largest (change s f last) n) (largest (speed s f) n)

-- ---- a check: what it finds, and what the velocity buffer then holds

-- step k is checked: its number divides evenly by check_every, and 0 counts as 1
abbrev pub checked : ℕ → ℕ → Bool
checked every k = eqb (k % cond (eqb every 0) 1 every) 0

pub record Checked : Type 0 where
  pub check : Check
  pub u : List ℕ

abbrev pub found : Check → List ℕ → Checked
found check u = record { check = check; u = u }

-- after a step that is not checked it goes on with the last residual r; a new snapshot is judged before any of it is written
unfoldable pub check_of : Settings → Checks → ℕ → Float → List ℕ → List ℕ → Checked
check_of s checks k r f u =
    let q = residual_of s f u in
    let new = velocity_buffer s f in
    cond (checked checks.check_every k)
    (cond (bad_snapshot s f) (found Bad u)
    (cond (lt q checks.tolerance) (found (Settles q) new) (found (GoesOn q) new)))
    (found (GoesOn r) u)

-- ---- the run

-- an outcome: the answer with its number and values, and what the three buffers hold
pub record SteadyRun : Type 0 where
  pub answer : Ending
  pub number : ℕ
  pub values : Values
  pub f : List ℕ
  pub post : List ℕ
  pub u : List ℕ

abbrev pub ended : Ending → State → List ℕ → SteadyRun
ended a b u = record { answer = a; number = steady_number a; values = steady_values a; f = b.f; post = b.post; u = u }

-- what a check after step k, in the state `now`, makes of the run
abbrev pub verdict : ℕ → State → Check → List ℕ → (List ℕ → Float → SteadyRun) → SteadyRun
verdict k now Bad u on = ended (Ruined k) now u
verdict k now (Settles q) u on = ended (Settled k q) now u
verdict k now (GoesOn q) u on = on u q

-- after k steps from the state b, with m more allowed, the last snapshot u and the last residual r
unfoldable pub onward : Settings → Checks → State → ℕ → ℕ → List ℕ → Float → SteadyRun
onward s checks b zero k u r = ended (RanOut k r) (steps s k b) u
onward s checks b (suc m) k u r =
    let now = steps s (suc k) b in
    let c = check_of s checks (suc k) r now.f u in
    verdict (suc k) now c.check c.u (onward s checks b m (suc k))

-- on from the first snapshot u, with no residual yet
abbrev pub started : Settings → Checks → State → List ℕ → SteadyRun
started s checks b u = onward s checks b checks.max_steps 0 u infinity

-- where nothing is refused: the first snapshot, if it is bad, is number 9 after 0 steps, with everything as it was; else on from it
unfoldable pub settling : Settings → Checks → State → List ℕ → SteadyRun
settling s checks b u =
    cond (bad_snapshot s b.f) (ended (Ruined 0) b u) (started s checks b (velocity_buffer s b.f))

abbrev pub checks_of : Float → ℕ → ℕ → Checks
checks_of tolerance most every = record { tolerance = tolerance; max_steps = most; check_every = every }

-- THE STEADY RUN: refused, everything is as it was
unfoldable pub steady_of : Settings → Float → ℕ → ℕ → List ℕ → List ℕ → List ℕ → SteadyRun
steady_of s tolerance most every f post u =
    let number = refusal (Refusals.run_to_steady_state s tolerance most (length f) (length post) (length u)) in
    let b = state f post in
    answer number (settling s (checks_of tolerance most every) b u) (ended (Refused number) b u)
