-- The steady run, turn by turn: what a check finds, and what it makes of the run.
use mathlib.Core.Path.{◌≡◌, refl, sym, ap, ◌∙◌}
use mathlib.Core.Bool.{Bool, true, false}
use mathlib.Core.List.{List}
use Prim.Native.Nat.{ℕ, suc, ◌+◌, ◌*◌, ◌-◌, ◌≤◌, ◌<◌}
use native.Mathlib.Numerals.{add-one}
use native.Mathlib.Omega.{arith}
use lib.ListN.{length}
use lib.Ieee.{Float, lt, div, of_bits, binary64}
use Rattle.number.specs.Number.{infinity}
use Rattle.settings.specs.declared.Settings.{Settings}
use Rattle.settings.specs.Refusals as Call
use Rattle.settings.specs.Refusals.{refusal}
use Rattle.settings.proofs.Laws.{known}
use Rattle.settings.proofs.Numbers.{some_number}
use Rattle.settings.proofs.Outcome.{answered, refused}
use Rattle.settings.specs.Refused.{number}
use Rattle.settings.specs.declared.refused.Refusal.{Refusal}
use Rattle.std.specs.Prelude.{Result}
use Rattle.std.specs.Result.{IsErrAnd}
use Rattle.std.proofs.lemmas.Result.{err_from_is_err_and}
use Rattle.readings.specs.Readings.{velocity_buffer}
use Rattle.runs.specs.declared.steady.Checks.{Checks}
use Rattle.runs.specs.declared.steady.Steady.{Steady}
use Rattle.runs.specs.declared.steady.Check.{Check}
use Rattle.runs.specs.declared.steady.Check.TheVariants.{Bad, Settles, GoesOn}
use Rattle.runs.specs.Passes.{AllReady, Vouched, clear_after}
use Rattle.runs.specs.Steps.{State, state, one_step, steps}
use Rattle.runs.specs.Steady.{Refused, Settled, RanOut, Ruined, checks_of, bad_snapshot, residual_of, checked, found, check_of, SteadyRun, ending_of, ended, verdict, onward, started, settling, steady_of}
use Rattle.runs.proofs.Stepwise.{Going, going_none, going_more}

-- ---- the check after step k: what was found of it, one test after the other

module _ (s : Settings) (checks : Checks) (k : ℕ) (r : Float) (f u : List ℕ) where
  pub not_due : checked checks.check_every k ≡ false → found (GoesOn r) u ≡ check_of s checks k r f u
  unfolding check_of
  not_due due = rw due

  module _ (due : checked checks.check_every k ≡ true) where
    pub is_bad : bad_snapshot s f ≡ true → found Bad u ≡ check_of s checks k r f u
    unfolding check_of
    is_bad bad = rw (due, bad)

    module _ (good : bad_snapshot s f ≡ false) {q : Float} {new : List ℕ} (qs : q ≡ residual_of s f u) (news : new ≡ velocity_buffer s f) where
      pub settles : lt q checks.tolerance ≡ true → found (Settles q) new ≡ check_of s checks k r f u
      unfolding check_of
      settles below = rw (due, good, ← qs, below, news)

      pub goes_on : lt q checks.tolerance ≡ false → found (GoesOn q) new ≡ check_of s checks k r f u
      unfolding check_of
      goes_on above = rw (due, good, ← qs, above, news)

infinite : of_bits binary64 0x7ff0_0000_0000_0000 ≡ infinity
unfolding div of_bits
infinite = refl

-- ---- the run from the state b and the snapshot u₀, under way

-- after k steps: the buffers are as after k steps, and what is still to come is the whole run's outcome
pub record Underway (s : Settings) (checks : Checks) (b : State) (u₀ f post u : List ℕ) (r : Float) (finite : Bool) (k : ℕ) : Type 0 where
  pub going : Going s checks.max_steps b f post finite k
  pub u_size : length u ≡ 2 * (s.nx * s.ny)
  pub whole : onward s checks b (checks.max_steps - k) k u r ≡ started s checks b u₀

module _ (s : Settings) (checks : Checks) where
  abbrev most : ℕ
  most = checks.max_steps

  pub begun : {f post u : List ℕ} {finite : Bool} → AllReady s f post u → Vouched finite f → Underway s checks (state f post) u f post u (of_bits binary64 0x7ff0_0000_0000_0000) finite 0
  begun a v =
      let z : most - 0 ≡ most = omega arith in
      record { going = going_none a.ready v; u_size = a.u_size; whole = rw (z, infinite) }

  -- a turn that begins after k steps from the state b, with m more allowed after it
  unrolled : (b : State) (m k : ℕ) (u : List ℕ) (r : Float) {f' post' u' : List ℕ} {c : Check} → state f' post' ≡ steps s (suc k) b → found c u' ≡ check_of s checks (suc k) r f' u
      → verdict (suc k) (state f' post') c u' (onward s checks b m (suc k)) ≡ onward s checks b (suc m) k u r
  unfolding onward
  unrolled b m k u r now check = rw (← now, ← check)

  module _ {b : State} {u₀ : List ℕ} where
    module _ {f post u : List ℕ} {r : Float} {finite : Bool} {k : ℕ} (way : Underway s checks b u₀ f post u r finite k) where
      pub ran_out : most ≤ k → ended (RanOut k r) (state f post) u ≡ started s checks b u₀
      unfolding onward
      ran_out h =
          let l = way.going.low in
          let z : most - k ≡ 0 = omega arith in
          ap (λ (b : State). ended (RanOut k r) b u) way.going.reached ∙ rw z at way.whole

      -- one step, and the check after it
      module _ {f' post' u' : List ℕ} {finite' : Bool} {c : Check} (h : k < most) (step : state f' post' ≡ one_step s f) (v : finite' ≡ clear_after s f)
          (check : found c u' ≡ check_of s checks (k + 1) r f' u) where
        stepped : Going s most b f' post' finite' (k + 1)
        stepped = going_more h way.going step v

        -- what the check makes of the run is the whole run's outcome
        turn : verdict (k + 1) (state f' post') c u' (onward s checks b (most - (k + 1)) (k + 1)) ≡ started s checks b u₀
        turn =
            let m : most - k ≡ suc (most - suc k) = omega arith in
            rw (add-one k) (unrolled b (most - suc k) k u r (rw (add-one k) at stepped.reached) (rw (add-one k) at check) ∙ rw m at way.whole)

        pub ruined : c ≡ Bad → ended (Ruined (k + 1)) (state f' post') u' ≡ started s checks b u₀
        ruined e = rw e at turn

        pub settled : {q : Float} → c ≡ Settles q → ended (Settled (k + 1) q) (state f' post') u' ≡ started s checks b u₀
        settled e = rw e at turn

        pub on : {q : Float} → c ≡ GoesOn q → length u' ≡ length u → Underway s checks b u₀ f' post' u' q finite' (k + 1)
        on e us = record { going = stepped; u_size = us ∙ way.u_size; whole = rw e at turn }

-- ---- the whole run, where the first snapshot is bad and where it is not

module _ (s : Settings) (checks : Checks) (b : State) (u : List ℕ) where
  pub ruined_first : bad_snapshot s b.f ≡ true → ended (Ruined 0) b u ≡ settling s checks b u
  unfolding settling
  ruined_first bad = rw bad

  pub ran_on : {new : List ℕ} {o : SteadyRun} → bad_snapshot s b.f ≡ false → new ≡ velocity_buffer s b.f
      → o ≡ started s checks b new → o ≡ settling s checks b u
  unfolding settling
  ran_on good news e = rw (good, ← news) e

-- ---- the outcome of `run_to_steady_state`

module _ (s : Settings) (tolerance : Float) (most every : ℕ) (f post u : List ℕ) where
  abbrev number_found : ℕ
  number_found = refusal (Call.run_to_steady_state s tolerance most (length f) (length post) (length u))

  -- where the code found the number n
  pub is_refused : {n : ℕ} → n ≡ number_found → (n ≡ 0 → ⊥) → ended (Refused n) (state f post) u ≡ steady_of s tolerance most every f post u
  unfolding steady_of
  is_refused e h = refused _ (λ n. ended (Refused n) (state f post) u) e h

  -- at the exit of the `?`
  pub is_ended : (r : Result Steady Refusal) (why : Refusal) → IsErrAnd r (λ e. e ≡ why) → number why ≡ number_found
      → ended (ending_of r) (state f post) u ≡ steady_of s tolerance most every f post u
  is_ended r why is e =
      let p = err_from_is_err_and r is in
      let some = some_number why in
      rw (p.1, p.2) (is_refused e (λ zero. absurd (omega arith)))

  -- and past it
  module _ (e : 0 ≡ number_found) where
    pub settle_ready : AllReady s f post u
    settle_ready =
        let q = known (Call.run_to_steady_state s tolerance most (length f) (length post) (length u)) (sym e) in
        record { ready = record { grid = q.0; f_size = q.1.0.size; post_size = q.1.1.0.size }; u_size = q.1.1.1.0.size }

    pub is_run : {o : SteadyRun} → o ≡ settling s (checks_of tolerance most every) (state f post) u → o ≡ steady_of s tolerance most every f post u
    unfolding steady_of
    is_run so = answered _ e refl so
