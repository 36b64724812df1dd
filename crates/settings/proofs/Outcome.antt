-- The two ways of an outcome, where the code found the number n and the rules give m; and what equal outcomes have in common.
use mathlib.Core.Path.{◌≡◌, ap}
use Prim.Native.Nat.{ℕ}
use borrow.Author.Tests.{eq-eqb, ne_eqb}
use Rattle.std.proofs.Common.{arith}
use Rattle.std.proofs.lemmas.Result.{err_from_is_err_and}
use Rattle.std.specs.Prelude.{Result}
use Rattle.std.specs.Result.{IsErrAnd}
use Rattle.settings.proofs.Numbers.{some_number}
use Rattle.settings.specs.declared.refused.Refusal.{Refusal}
use Rattle.settings.specs.Refused.{number, number_of}
use Rattle.settings.specs.Outcome.{answer, Written}

pub answered : {A : Type 0} {n m : ℕ} {v done : A} (left : A) → n ≡ m → n ≡ 0 → v ≡ done → v ≡ answer m done left
unfolding answer
answered {n = n} left e h q = rw (← e, eq-eqb n 0 h) q

-- what a refusal leaves may hold the number
pub refused : {A : Type 0} {n m : ℕ} (done : A) (left : ℕ → A) → n ≡ m → (n ≡ 0 → ⊥) → left n ≡ answer m done (left m)
unfolding answer
refused {n = n} done left e h = rw (← e, ne_eqb n 0 h)

-- the same at the exit of a `?`, where m is the number by which the rules refuse
pub refused_by : {A T : Type 0} {m : ℕ} (done : A) (left : ℕ → A) (r : Result T Refusal) (why : Refusal) → IsErrAnd r (λ e. e ≡ why)
    → number why ≡ m → left (number_of r) ≡ answer m done (left m)
refused_by done left r why is e =
    let p = err_from_is_err_and r is in
    let some = some_number why in
    rw (p.1, p.2) (refused done left e (λ zero. absurd (omega arith)))

pub both : {v w : Written} → v ≡ w → (v.number ≡ w.number) × (v.buffer ≡ w.buffer)
both e = (ap (λ (w : Written). w.number) e, ap (λ (w : Written). w.buffer) e)
