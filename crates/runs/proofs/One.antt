-- Any two outcomes that a contract, as the checker reads it (`Post`), allows on the same input coincide: what is returned and every lent buffer.
use mathlib.Core.Path.{◌≡◌, refl, sym, ap, ◌∙◌}
use Prim.Native.Nat.{ℕ}
use contract.Lifetimes.{Lfts}
use denote.Triple.Clauses.{AtExit}
use borrow.Fn.World.{ArgsD, ResD}
use Rattle.runs.specs.Steps.{Stepped}
use Rattle.std.specs.Prelude.{Result, Ok, Err}
use native.Mathlib.Omega.{arith}
use Rattle.settings.specs.Refused.{number}
use Rattle.settings.specs.declared.refused.Refusal.{Refusal}
use Rattle.settings.proofs.Numbers.{some_number}
use Rattle.settings.proofs.Same.{same_answer, same_refusal}
use Rattle.runs.specs.declared.steady.Steady.{Steady}
use Rattle.runs.specs.Steady.{Ending, Refused, Settled, RanOut, Ruined, ending, ending_of, SteadyRun}
use Rattle.runs.specs.contracts.steps.step
use Rattle.runs.proofs.steps.step.Reads as step-reads
use Rattle.runs.specs.contracts.steps.run
use Rattle.runs.proofs.steps.run.Reads as run-reads
use Rattle.runs.specs.contracts.steady.run_to_steady_state
use Rattle.runs.proofs.steady.run_to_steady_state.Reads as steady-reads

pub all_stepped : {v w : Stepped} → v ≡ w → (v.number ≡ w.number) × (v.f ≡ w.f) × (v.post ≡ w.post)
all_stepped e = (ap (λ (w : Stepped). w.number) e, ap (λ (w : Stepped). w.f) e, ap (λ (w : Stepped). w.post) e)

pub step_one : (κs : Lfts 2) (a : ArgsD step.signature κs) (r q : Result Unit Refusal) (s t : AtExit step.ended κs)
    → step-reads.Post κs a r s → step-reads.Post κs a q t
    → (r ≡ q) × (s.1.0.now ≡ t.1.0.now) × (s.1.1.0.now ≡ t.1.1.0.now)
step_one κs a r q s t p p' = let e = all_stepped (p ∙ sym p') in (same_answer r q e.0, e.1, e.2)

pub run_one : (κs : Lfts 2) (a : ArgsD run.signature κs) (r q : Result Unit Refusal) (s t : AtExit run.ended κs)
    → run-reads.Post κs a r s → run-reads.Post κs a q t
    → (r ≡ q) × (s.1.1.0.now ≡ t.1.1.0.now) × (s.1.1.1.0.now ≡ t.1.1.1.0.now)
run_one κs a r q s t p p' = let e = all_stepped (p ∙ sym p') in (same_answer r q e.0, e.1, e.2)

-- one end has one answer
code_of : Ending → Steady
code_of (Refused number) = Steady.Ruined 0
code_of (Settled k r) = Steady.Settled k r
code_of (RanOut k r) = Steady.RanOut k r
code_of (Ruined k) = Steady.Ruined k

refused_by_code : Ending → ℕ
refused_by_code (Refused number) = number
refused_by_code (Settled k r) = 0
refused_by_code (RanOut k r) = 0
refused_by_code (Ruined k) = 0

back : (a : Steady) → code_of (ending a) ≡ a
unfolding code_of
back (Steady.Settled k r) = refl
back (Steady.RanOut k r) = refl
back (Steady.Ruined k) = refl

unrefused : (a : Steady) → refused_by_code (ending a) ≡ 0
unfolding refused_by_code
unrefused (Steady.Settled k r) = refl
unrefused (Steady.RanOut k r) = refl
unrefused (Steady.Ruined k) = refl

same_end : (r q : Result Steady Refusal) → ending_of r ≡ ending_of q → r ≡ q
unfolding refused_by_code
same_end (Ok a) (Ok b) e = ap Ok (sym (back a) ∙ ap code_of e ∙ back b)
same_end (Ok a) (Err why) e = let some = some_number why in let none : number why ≡ 0 = sym (ap refused_by_code e) ∙ unrefused a in absurd (omega arith)
same_end (Err why) (Ok b) e = let some = some_number why in let none : number why ≡ 0 = ap refused_by_code e ∙ unrefused b in absurd (omega arith)
same_end (Err why) (Err other) e = ap Err (same_refusal why other (ap refused_by_code e))

-- the answer, and so its number and its values
pub run_to_steady_state_one : (κs : Lfts 3) (a : ArgsD run_to_steady_state.signature κs) (r q : ResD run_to_steady_state.signature κs) (s t : AtExit run_to_steady_state.ended κs)
    → steady-reads.Post κs a r s → steady-reads.Post κs a q t
    → (r ≡ q) × (s.1.1.1.1.0.now ≡ t.1.1.1.1.0.now)
    × (s.1.1.1.1.1.0.now ≡ t.1.1.1.1.1.0.now) × (s.1.1.1.1.1.1.0.now ≡ t.1.1.1.1.1.1.0.now)
run_to_steady_state_one κs a r q s t p p' =
    let e = p ∙ sym p' in (
      same_end r q (ap (λ (w : SteadyRun). w.answer) e),
      ap (λ (w : SteadyRun). w.f) e,
      ap (λ (w : SteadyRun). w.post) e,
      ap (λ (w : SteadyRun). w.u) e,
    )
