-- What the answer of a steady run tells of the state: the buffers are those after the number of steps that it tells, and no settled answer stands over a bad cell.
use mathlib.Core.Path.{◌≡◌, sym, refl, subst}
use mathlib.Core.Bool.{Bool, true, false}
use mathlib.Core.List.{List}
use Prim.Native.Nat.{ℕ, zero, suc, ◌+◌, ◌*◌, ◌≤◌, ◌<◌}
use native.Mathlib.Decide.{ℕ_discrete}
use native.Mathlib.Omega.{arith}
use borrow.Author.Count.{below_more}
use lib.ListN.{length}
use lib.Ieee.{Float, lt}
use Rattle.settings.specs.declared.Settings.{Settings}
use Rattle.settings.specs.Refusals as Call
use Rattle.settings.specs.Refusals.{refusal}
use Rattle.settings.proofs.Laws.{or_left, or_right}
use Rattle.readings.specs.Readings.{velocity_buffer}
use Rattle.runs.specs.declared.steady.Checks.{Checks}
use Rattle.runs.specs.declared.steady.Check.{Check}
use Rattle.runs.specs.declared.steady.Check.TheVariants.{Bad, Settles, GoesOn}
use Rattle.runs.specs.Steps.{State, state, steps}
use Rattle.runs.specs.Steady.{Ending, Refused, Settled, RanOut, Ruined, checks_of, some_of, bad_cell, bad_snapshot, residual_of, checked, Checked, check_of, SteadyRun, verdict, onward, settling, steady_of}
use Rattle.runs.proofs.Stepwise.{no_step}
use Rattle.runs.proofs.Settling.{not_due, is_bad, settles, goes_on, ruined_first, ran_on, is_refused, is_run}

-- ---- what is told of an outcome o, of a run from the state b with the velocity buffer u₀

module _ (s : Settings) (checks : Checks) (b : State) (u₀ : List ℕ) where
  -- settled: at a check, below the tolerance, on a snapshot that is good and stands in the velocity buffer
  pub record SettledSo (k : ℕ) (r : Float) (f u : List ℕ) : Type 0 where
    pub due : checked checks.check_every k ≡ true
    pub below : lt r checks.tolerance ≡ true
    pub good : bad_snapshot s f ≡ false
    pub taken : u ≡ velocity_buffer s f

  -- ruined: on a bad snapshot; and if on the first, the velocity buffer is as it was
  pub record RuinedSo (k : ℕ) (o : SteadyRun) : Type 0 where
    pub bad : bad_snapshot s o.f ≡ true
    pub untouched : k ≡ 0 → o.u ≡ u₀

  abbrev pub Tells : Ending → SteadyRun → Type 0
  Tells (Refused number) o = o.u ≡ u₀
  Tells (Settled k r) o = SettledSo k r o.f o.u
  Tells (RanOut k r) o = k ≡ checks.max_steps
  Tells (Ruined k) o = RuinedSo k o

  pub record Tied (o : SteadyRun) : Type 0 where
    pub reached : state o.f o.post ≡ steps s o.values.steps b
    pub within : o.values.steps ≤ checks.max_steps
    pub tells : Tells o.answer o

  -- ---- a check

  abbrev Finds : ℕ → List ℕ → Check → List ℕ → Type 0
  Finds k f Bad u = bad_snapshot s f ≡ true
  Finds k f (Settles r) u = SettledSo k r f u
  Finds k f (GoesOn r) u = Unit {0}

  finds : (k : ℕ) (r : Float) (f u : List ℕ) → Finds k f (check_of s checks k r f u).check (check_of s checks k r f u).u
  finds k r f u = go (checked checks.check_every k) (bad_snapshot s f) (lt (residual_of s f u) checks.tolerance) refl refl refl
    where
      so : {c : Checked} → c ≡ check_of s checks k r f u → Finds k f c.check c.u → Finds k f (check_of s checks k r f u).check (check_of s checks k r f u).u
      so e h = subst (λ (c : Checked). Finds k f c.check c.u) e h

      go : (due bad below : Bool) → checked checks.check_every k ≡ due → bad_snapshot s f ≡ bad → lt (residual_of s f u) checks.tolerance ≡ below
          → Finds k f (check_of s checks k r f u).check (check_of s checks k r f u).u
      go false bad below d b l = so (not_due s checks k r f u d) tt
      go true true below d b l = so (is_bad s checks k r f u d b) b
      go true false true d b l = so (settles s checks k r f u d b refl refl l) (record { due = d; below = l; good = b; taken = refl })
      go true false false d b l = so (goes_on s checks k r f u d b refl refl l) tt

  -- ---- the turns

  -- one turn, `after` being told of what comes after it
  turn_tied : (m k : ℕ) → k < checks.max_steps → (c : Check) (u : List ℕ) → Finds (suc k) (steps s (suc k) b).f c u → ((u : List ℕ) (r : Float) → Tied (onward s checks b m (suc k) u r))
      → Tied (verdict (suc k) (steps s (suc k) b) c u (onward s checks b m (suc k)))
  turn_tied m k l Bad u h after = record { reached = refl; within = l; tells = record { bad = h; untouched = λ z. absurd (omega arith) } }
  turn_tied m k l (Settles r) u h after = record { reached = refl; within = l; tells = h }
  turn_tied m k l (GoesOn r) u h after = after u r

  onward_tied : (m k : ℕ) (u : List ℕ) (r : Float) → k + m ≡ checks.max_steps → Tied (onward s checks b m k u r)
  unfolding onward
  onward_tied zero k u r e = record { reached = refl; within = omega arith; tells = omega arith }
  onward_tied (suc m) k u r e =
      let now = (steps s (suc k) b).f in
      let c = check_of s checks (suc k) r now u in
      turn_tied m k (omega arith) c.check c.u (finds (suc k) r now u) (λ u' r'. onward_tied m (suc k) u' r' (omega arith))

  settling_tied : Tied (settling s checks b u₀)
  settling_tied = go (bad_snapshot s b.f) refl
    where
      go : (bad : Bool) → bad_snapshot s b.f ≡ bad → Tied (settling s checks b u₀)
      go true h = subst Tied (ruined_first s checks b u₀ h) (record { reached = no_step s b; within = omega arith; tells = record { bad = h; untouched = λ z. refl } })
      go false h = subst Tied (ran_on s checks b u₀ h refl refl) (onward_tied checks.max_steps 0 _ _ (omega arith))

-- ---- every outcome

module _ (s : Settings) (tolerance : Float) (most every : ℕ) (f post u : List ℕ) where
  abbrev number : ℕ
  number = refusal (Call.run_to_steady_state s tolerance most (length f) (length post) (length u))

  pub tied : Tied s (checks_of tolerance most every) (state f post) u (steady_of s tolerance most every f post u)
  tied = go (ℕ_discrete number 0)
    where
      go : Dec (number ≡ 0) → Tied s (checks_of tolerance most every) (state f post) u (steady_of s tolerance most every f post u)
      go (yes z) = subst (Tied s (checks_of tolerance most every) (state f post) u) (is_run s tolerance most every f post u (sym z) refl) (settling_tied s (checks_of tolerance most every) (state f post) u)
      go (no d) = subst (Tied s (checks_of tolerance most every) (state f post) u) (is_refused s tolerance most every f post u refl d) (record { reached = no_step s (state f post); within = omega arith; tells = refl })

-- ---- no settled answer stands over a bad cell

none_of : (g : ℕ → Bool) (n : ℕ) → some_of g n ≡ false → (c : ℕ) → c < n → g c ≡ false
unfolding some_of
none_of g zero e c h = absurd (omega arith)
none_of g (suc n) e c h =
    below_more (λ c. g c ≡ false) n (none_of g n (or_left (some_of g n) (g n) e)) (or_right (some_of g n) (g n) e) c (omega arith)

pub no_bad_cell : (s : Settings) (tolerance : Float) (most every : ℕ) (f post u : List ℕ) (k : ℕ) (r : Float) → (steady_of s tolerance most every f post u).answer ≡ Settled k r
    → (c : ℕ) → c < s.nx * s.ny → bad_cell s (steady_of s tolerance most every f post u).f c ≡ false
unfolding bad_snapshot
no_bad_cell s tolerance most every f post u k r e c h =
    let o = steady_of s tolerance most every f post u in
    let so = subst (λ (a : Ending). Tells s (checks_of tolerance most every) (state f post) u a o) e (tied s tolerance most every f post u).tells in
    none_of (bad_cell s o.f) (s.nx * s.ny) so.good c h
