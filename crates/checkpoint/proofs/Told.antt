-- What the code answers, done and refused, is what the rules tell.
use Rattle.std.proofs.Common.{◌≡◌, ◌∙◌, refl, ap, ap₂, sym, List, ℕ, ◌*◌, length, arith}
use Rattle.std.specs.Prelude.{Result, Ok, Err}
use Rattle.std.specs.Result.{IsErrAnd}
use Rattle.std.proofs.lemmas.Result.{err_from_is_err_and}
use Rattle.words.specs.Words.{numbers_at}
use Rattle.settings.specs.declared.refused.Refusal.{Refusal}
use Rattle.settings.specs.declared.Head.{Head}
use Rattle.settings.specs.Refused.{number}
use Rattle.settings.specs.Outcome.{answer}
use Rattle.settings.specs.Refusals as Call
use Rattle.settings.specs.Refusals.{refusal}
use Rattle.settings.proofs.Laws.{known}
use Rattle.settings.proofs.Numbers.{some_number}
use Rattle.settings.proofs.Same.{same_refusal}
use Rattle.settings.proofs.Outcome.{answered, refused, refused_by}
use Rattle.checkpoint.specs.declared.Stored.{Stored}
use Rattle.checkpoint.specs.Checkpoint.{Told, told, told_by, stored_of, Read, read}

pub told_done : {m : ℕ} (h : Head) (stored : Stored) → 0 ≡ m → stored ≡ stored_of h → told_by (Ok stored) ≡ told m h
told_done h stored e is = answered _ e refl (ap (λ (s : Stored). told_by (Ok s)) is)

pub told_refused : {m : ℕ} (h : Head) (r : Result Stored Refusal) (why : Refusal) → IsErrAnd r (λ e. e ≡ why) → number why ≡ m → told_by r ≡ told m h
told_refused h r why is e =
    let p = err_from_is_err_and r is in
    let some = some_number why in
    rw (p.1, p.2) (refused _ (λ n. record { number = n; nx = 0; ny = 0; step = 0 }) e (λ zero. absurd (omega arith)))

-- the same of a file of this head that is read
abbrev pub read_of : List ℕ → List ℕ → Head → Read
read_of file f h =
    let m = refusal (Call.read_checkpoint h (length f)) in read (told m h) (answer m (numbers_at 8 (9 * (h.nx * h.ny)) file 13) f)

pub read_done : (h : Head) (stored : Stored) (file f new : List ℕ) → 0 ≡ refusal (Call.read_checkpoint h (length f)) → stored ≡ stored_of h
    → new ≡ numbers_at 8 (length f) file 13 → read (told_by (Ok stored)) new ≡ read_of file f h
read_done h stored file f new e is written =
    let k = known (Call.read_checkpoint h (length f)) (sym e) in
    ap₂ read (told_done h stored e is) (answered _ e refl (written ∙ ap (λ (n : ℕ). numbers_at 8 n file 13) k.1.1.1.1.1.0))

pub read_refused : (h : Head) (file f : List ℕ) (r : Result Stored Refusal) (why : Refusal) → IsErrAnd r (λ e. e ≡ why)
    → number why ≡ refusal (Call.read_checkpoint h (length f)) → read (told_by r) f ≡ read_of file f h
read_refused h file f r why is e =
    ap₂ read (told_refused h r why is e) (refused_by _ (λ n. f) r why is e)

-- and one answer tells one thing
pub same_told : (r q : Result Stored Refusal) → told_by r ≡ told_by q → r ≡ q
same_told (Ok s) (Ok t) e =
    ap (λ (d : Told). Ok (record { nx = d.nx; ny = d.ny; step = d.step })) e
same_told (Ok s) (Err why) e =
    let some = some_number why in
    let zero : 0 ≡ number why = ap (λ (d : Told). d.number) e in absurd (omega arith)
same_told (Err why) (Ok t) e =
    let some = some_number why in
    let zero : number why ≡ 0 = ap (λ (d : Told). d.number) e in absurd (omega arith)
same_told (Err why) (Err other) e = ap Err (same_refusal why other (ap (λ (d : Told). d.number) e))
