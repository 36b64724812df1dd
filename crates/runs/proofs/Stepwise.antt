-- Steps: one, one more, and that the buffers keep their sizes.
use mathlib.Core.Path.{◌≡◌, refl, sym, ap, ◌∙◌}
use mathlib.Core.Bool.{Bool, false}
use mathlib.Core.List.{List}
use Prim.Native.Nat.{ℕ, ◌+◌, ◌≤◌, ◌<◌}
use native.Mathlib.Nat.{le_antisymm}
use native.Mathlib.Numerals.{add-one}
use native.Mathlib.Omega.{arith}
use lib.ListN.{length}
use Rattle.number.specs.Joined.{clear_of}
use Rattle.grid.specs.Finite.{joined_buffer}
use Rattle.grid.proofs.Fields.{buffer_length}
use Rattle.grid.proofs.Finite.{all_finite}
use Rattle.settings.specs.declared.Settings.{Settings}
use Rattle.settings.specs.Refusals as Call
use Rattle.settings.specs.Refusals.{refusal}
use Rattle.settings.specs.Outcome.{answer}
use Rattle.settings.specs.Refused.{number, number_of}
use Rattle.settings.specs.declared.refused.Refusal.{Refusal}
use borrow.Author.Tests.{ne_eqb}
use Rattle.settings.proofs.Numbers.{some_number}
use Rattle.std.proofs.lemmas.Result.{err_from_is_err_and}
use Rattle.std.specs.Prelude.{Result}
use Rattle.std.specs.Result.{IsErrAnd}
use Rattle.settings.proofs.Laws.{known}
use Rattle.streaming.specs.Streaming.{next_buffer}
use Rattle.streaming.specs.Turned.{carried}
use Rattle.streaming.specs.Carried.{carried_join}
use Rattle.streaming.proofs.Carried.{carried_forward}
use Rattle.streaming.proofs.Finite.{carried_finite}
use Rattle.runs.specs.Passes.{Ready, Vouched, clear_after}
use Rattle.runs.specs.Steps.{collided_buffer, State, state, one_step, steps, left, ran_for}

-- ---- one step

-- what is left by colliding into post and carrying on into f
pub one_step_lem : (s : Settings) (f : List ℕ) {f' post' : List ℕ} → post' ≡ collided_buffer s f → f' ≡ carried false s post' → state f' post' ≡ one_step s f
unfolding one_step
one_step_lem s f {f'} {post'} p q =
    let n : f' ≡ next_buffer s (collided_buffer s f) = q ∙ carried_forward s post' ∙ ap (next_buffer s) p in λ i. state (n i) (p i)

-- whatever the sizes before it
pub step_ready : (s : Settings) (f : List ℕ) {f' post' f'' post'' : List ℕ} → state f'' post'' ≡ one_step s f → Ready s f' post' → Ready s f'' post''
unfolding one_step collided_buffer next_buffer
step_ready s f e r = record {
  grid = r.grid;
  f_size = ap (λ (b : State). length b.f) e ∙ buffer_length s.nx s.ny _;
  post_size = ap (λ (b : State). length b.post) e ∙ buffer_length s.nx s.ny _;
}

pub no_step : (s : Settings) (b : State) → b ≡ steps s 0 b
unfolding steps
no_step s b = refl

pub told_after : (s : Settings) (f : List ℕ) {post' : List ℕ} {bits : ℕ} {r : Bool} → post' ≡ collided_buffer s f → bits ≡ carried_join false s post' → r ≡ clear_of bits → r ≡ clear_after s f
told_after s f p q e = e ∙ ap (λ (b : ℕ). clear_of b) (q ∙ ap (carried_join false s) p)

-- ---- what tells that every entry is finite: the joined bits of f at the start, and after a step those that it wrote

pub first_told : {f : List ℕ} {bits : ℕ} {r : Bool} → bits ≡ joined_buffer f → r ≡ clear_of bits → Vouched r f
first_told {f} e q = record { so = λ h. all_finite f (rw e at (sym q ∙ h)) }

step_told : (s : Settings) (f : List ℕ) {f' post' : List ℕ} {r : Bool} → state f' post' ≡ one_step s f → r ≡ clear_after s f → Vouched r f'
unfolding one_step
step_told s f e q =
    let new = ap (λ (b : State). b.f) e ∙ sym (carried_forward s (collided_buffer s f)) in
    record { so = λ h. rw new (carried_finite false s (collided_buffer s f) (sym q ∙ h)) }

-- ---- n steps from the state b, under way: the buffers are as after k steps, and `finite` is right of f

pub record Going (s : Settings) (n : ℕ) (b : State) (f post : List ℕ) (finite : Bool) (k : ℕ) : Type 0 where
  pub low : k ≤ n
  pub ready : Ready s f post
  pub reached : state f post ≡ steps s k b
  pub told : Vouched finite f

module _ {s : Settings} {n : ℕ} where
  pub going_none : {f post : List ℕ} {finite : Bool} → Ready s f post → Vouched finite f → Going s n (state f post) f post finite 0
  going_none r v = record { low = omega arith; ready = r; reached = no_step s _; told = v }

  -- one step more
  pub going_more : {b : State} {f post f' post' : List ℕ} {finite finite' : Bool} {k : ℕ} → k < n → Going s n b f post finite k
      → state f' post' ≡ one_step s f → finite' ≡ clear_after s f → Going s n b f' post' finite' (k + 1)
  unfolding steps
  going_more {b} {f} {k = k} h g e v = record {
    low = omega arith;
    ready = step_ready s f e g.ready;
    reached = rw (add-one k) (e ∙ ap (λ (b : State). one_step s b.f) g.reached);
    told = step_told s f e v;
  }

  pub going_done : {b : State} {f post : List ℕ} {finite : Bool} {k : ℕ} → Going s n b f post finite k → n ≤ k → state f post ≡ steps s n b
  going_done g h = rw (le_antisymm g.low h) at g.reached

-- ---- the outcomes of `step` and `run`, where the code found the number n and the rules give m

pub kept : (s : Settings) (k : ℕ) {n m : ℕ} {f post : List ℕ} → n ≡ m → (n ≡ 0 → ⊥) → left n f post ≡ ran_for m s k f post
unfolding answer
kept s k {n} e h = rw (← e, ne_eqb n 0 h)

pub ran : (s : Settings) (k : ℕ) (f post : List ℕ) {m : ℕ} {f' post' : List ℕ} → 0 ≡ m → state f' post' ≡ steps s k (state f post)
    → left 0 f' post' ≡ ran_for m s k f post
unfolding answer
ran s k f post e q = rw (sym e) (λ i. left 0 (q i).f (q i).post)

-- the first at the exit of a `?`
pub kept_by : (s : Settings) (k : ℕ) (f post : List ℕ) (r : Result Unit Refusal) (why : Refusal) {m : ℕ} → IsErrAnd r (λ e. e ≡ why) → number why ≡ m
    → left (number_of r) f post ≡ ran_for m s k f post
kept_by s k f post r why is e =
    let p = err_from_is_err_and r is in
    let some = some_number why in
    rw (p.1, p.2) (kept s k e (λ zero. absurd (omega arith)))

-- what is known where they are not refused
pub may_step : (s : Settings) (f post : List ℕ) → 0 ≡ refusal (Call.step s (length f) (length post)) → Ready s f post
may_step s f post e =
    let q = known (Call.step s (length f) (length post)) (sym e) in
    record { grid = q.0; f_size = q.1.0.size; post_size = q.1.1.0.size }

pub may_run : (s : Settings) (k : ℕ) (f post : List ℕ) → 0 ≡ refusal (Call.run s k (length f) (length post)) → Ready s f post
may_run s k f post e =
    let q = known (Call.run s k (length f) (length post)) (sym e) in
    record { grid = q.0; f_size = q.1.0.size; post_size = q.1.1.0.size }
