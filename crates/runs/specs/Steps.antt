-- One step, n steps, and the outcomes of `step` and `run`.
use Rattle.std.specs.Prelude.{List, ℕ, zero, suc, ◌+◌, ◌*◌, length}
use Rattle.number.specs.Number.{pattern_of}
use Rattle.number.specs.Nine.{at}
use Rattle.grid.specs.Grid.{cell_of, buffer_of}
use Rattle.cell.specs.Cell.{collided}
use Rattle.settings.specs.declared.Settings.{Settings}
use Rattle.settings.specs.Tests.{tau_of}
use Rattle.settings.specs.Refusals as Refusals
use Rattle.settings.specs.Refusals.{refusal}
use Rattle.settings.specs.Outcome.{answer}
use Rattle.streaming.specs.Streaming.{next_buffer}

-- COLLISION: each cell by itself, c = x + y·nx
abbrev pub collided_entry : Settings → List ℕ → ℕ → ℕ → ℕ
collided_entry s f c i = pattern_of (at (collided s.collision (cell_of f (s.nx * s.ny) c) (tau_of s.nu) s.fx s.fy s.floor) i)

unfoldable pub collided_buffer : Settings → List ℕ → List ℕ
collided_buffer s f = buffer_of s.nx s.ny (λ x y i. collided_entry s f (x + y * s.nx) i)

-- the populations and the post-collision state
pub record State : Type 0 where
  pub f : List ℕ
  pub post : List ℕ

abbrev pub state : List ℕ → List ℕ → State
state f post = record { f = f; post = post }

-- ONE STEP from the populations f: collide into the post-collision buffer, then stream with faces
unfoldable pub one_step : Settings → List ℕ → State
one_step s f = let post = collided_buffer s f in state (next_buffer s post) post

-- n steps: the step rule applied n times
unfoldable pub steps : Settings → ℕ → State → State
steps s zero b = b
steps s (suc n) b = one_step s (steps s n b).f

-- an outcome: the number, and what the two buffers hold
pub record Stepped : Type 0 where
  pub number : ℕ
  pub f : List ℕ
  pub post : List ℕ

abbrev pub left : ℕ → List ℕ → List ℕ → Stepped
left number f post = record { number = number; f = f; post = post }

-- n steps where nothing is refused, and else both buffers as they were
abbrev pub ran_for : ℕ → Settings → ℕ → List ℕ → List ℕ → Stepped
ran_for number s n f post =
    let b = state f post in
    let e = answer number (steps s n b) b in
    left number e.f e.post

abbrev pub step_of : Settings → List ℕ → List ℕ → Stepped
step_of s f post = ran_for (refusal (Refusals.step s (length f) (length post))) s 1 f post

abbrev pub run_of : Settings → ℕ → List ℕ → List ℕ → Stepped
run_of s n f post = ran_for (refusal (Refusals.run s n (length f) (length post))) s n f post
