-- What number 9 tells: no settled answer stands over a cell that has a density or a velocity component that is not finite, and a run
-- that is finite throughout is never called ruined.
use mathlib.Core.Path.{◌≡◌, refl, sym, subst, ap, ◌∙◌}
use mathlib.Core.Bool.{Bool, true, false, ◌||◌, true≢false}
use mathlib.Core.List.{List}
use Prim.Native.Nat.{ℕ, zero, suc, ◌*◌, ◌≤◌, ◌<◌}
use native.Mathlib.Omega.{arith}
use lib.Ieee.{Float, lt}
use Rattle.number.specs.Number.{not_finite}
use Rattle.cell.specs.Cell.{density_of, read_moments}
use Rattle.settings.specs.declared.Settings.{Settings}
use Rattle.settings.proofs.Laws.{or_left, or_right}
use Rattle.readings.specs.Readings.{density_at, velocity_at}
use Rattle.runs.specs.Steps.{State, state, steps}
use Rattle.runs.specs.Steady.{Ending, Settled, Ruined, checks_of, some_of, bad_cell, bad_snapshot, SteadyRun, steady_of}
use Rattle.runs.proofs.Tied.{Tells, tied, no_bad_cell}

-- cell c of the populations f: what `density` and `velocity` answer of it is finite
pub record FiniteCell (s : Settings) (f : List ℕ) (c : ℕ) : Type 0 where
  pub density : not_finite (density_at s f c) ≡ false
  pub ux : not_finite (velocity_at s f c).ux ≡ false
  pub uy : not_finite (velocity_at s f c).uy ≡ false

-- every cell of them
abbrev pub FiniteCells : Settings → List ℕ → Type 0
FiniteCells s f = (c : ℕ) → c < s.nx * s.ny → FiniteCell s f c

-- ---- a cell is finite exactly where it is not bad

-- the density beside a velocity is the density
same_density : (f : List Float) (fx fy floor : Float) → (read_moments f fx fy floor).density ≡ density_of f
unfolding read_moments
same_density f fx fy floor = go (lt (density_of f) floor) refl
  where
    go : (below : Bool) → lt (density_of f) floor ≡ below → (read_moments f fx fy floor).density ≡ density_of f
    go true e = rw e
    go false e = rw e

module _ (s : Settings) (f : List ℕ) (c : ℕ) where
  finite_where : bad_cell s f c ≡ false → FiniteCell s f c
  unfolding bad_cell
  finite_where e =
      let m = velocity_at s f c in
      let two = or_left (not_finite m.density || not_finite m.ux) (not_finite m.uy) e in
      record {
        density = ap not_finite (sym (same_density _ _ _ _)) ∙ or_left (not_finite m.density) (not_finite m.ux) two;
        ux = or_right (not_finite m.density) (not_finite m.ux) two;
        uy = or_right (not_finite m.density || not_finite m.ux) (not_finite m.uy) e;
      }

  not_bad : FiniteCell s f c → bad_cell s f c ≡ false
  unfolding bad_cell
  not_bad h = rw (same_density _ _ _ _, h.density, h.ux, h.uy)

none_of_all : (g : ℕ → Bool) (n : ℕ) → ((c : ℕ) → c < n → g c ≡ false) → some_of g n ≡ false
unfolding some_of
none_of_all g zero h = refl
none_of_all g (suc n) h = rw (none_of_all g n (λ c l. h c (omega arith)), h n (omega arith))

-- ---- every outcome

module _ (s : Settings) (tolerance : Float) (most every : ℕ) (f post u : List ℕ) where
  abbrev outcome : SteadyRun
  outcome = steady_of s tolerance most every f post u

  -- SETTLED: every cell of the populations that are left is finite
  pub settled_finite : (k : ℕ) (r : Float) → outcome.answer ≡ Settled k r → FiniteCells s outcome.f
  settled_finite k r e c h = finite_where s outcome.f c (no_bad_cell s tolerance most every f post u k r e c h)

  -- RUINED: not every cell of them is
  pub ruined_not_finite : (k : ℕ) → outcome.answer ≡ Ruined k → FiniteCells s outcome.f → ⊥
  unfolding bad_snapshot
  ruined_not_finite k e h =
      let so = subst (λ (a : Ending). Tells s (checks_of tolerance most every) (state f post) u a outcome) e (tied s tolerance most every f post u).tells in
      true≢false (sym so.bad ∙ none_of_all (bad_cell s outcome.f) (s.nx * s.ny) (λ c l. not_bad s outcome.f c (h c l)))

  -- so a run that is finite after each number of steps is never called ruined
  pub never_ruined : ((k : ℕ) → k ≤ most → FiniteCells s (steps s k (state f post)).f) → (k : ℕ) → outcome.answer ≡ Ruined k → ⊥
  never_ruined h k e =
      let t = tied s tolerance most every f post u in
      let same : (steps s outcome.values.steps (state f post)).f ≡ outcome.f = ap (λ (b : State). b.f) (sym t.reached) in
      ruined_not_finite k e (subst (FiniteCells s) same (h outcome.values.steps t.within))
