-- A refusal is known by its number, and so is an answer that says no more than whether it is one.
use Rattle.std.proofs.Common.{◌≡◌, refl, sym, ap, ◌∙◌, arith}
use Rattle.std.specs.Prelude.{Result, Ok, Err, cond, eqb}
use Prim.Native.Nat.{ℕ}
use Rattle.settings.specs.Refused.{number, number_of}
use Rattle.settings.specs.declared.refused.Refusal.{Refusal}
use Rattle.settings.specs.declared.refused.Refusal.TheVariants.{Sides, Length, Rate, Force, Face, Place, NotCopying, Lossy, Run, FileShort, FileVersion, FileSides, FileLength, Order, Tally}
use Rattle.settings.proofs.Numbers.{some_number}

numbered : ℕ → Refusal
numbered n =
    cond (eqb n 1) Sides
    (cond (eqb n 2) Length
    (cond (eqb n 3) Rate
    (cond (eqb n 4) Force
    (cond (eqb n 5) Face
    (cond (eqb n 6) Place
    (cond (eqb n 7) NotCopying
    (cond (eqb n 8) Lossy
    (cond (eqb n 10) Run
    (cond (eqb n 12) FileShort
    (cond (eqb n 13) FileVersion
    (cond (eqb n 14) FileSides (cond (eqb n 15) FileLength (cond (eqb n 16) Order Tally)))))))))))))

back : (why : Refusal) → numbered (number why) ≡ why
unfolding numbered number
back Sides = refl
back Length = refl
back Rate = refl
back Force = refl
back Face = refl
back Place = refl
back NotCopying = refl
back Lossy = refl
back Run = refl
back FileShort = refl
back FileVersion = refl
back FileSides = refl
back FileLength = refl
back Order = refl
back Tally = refl

pub same_refusal : (why other : Refusal) → number why ≡ number other → why ≡ other
same_refusal why other e = sym (back why) ∙ ap numbered e ∙ back other

pub same_answer : (r q : Result Unit Refusal) → number_of r ≡ number_of q → r ≡ q
same_answer (Ok x) (Ok y) e = refl
same_answer (Ok x) (Err why) e = let some = some_number why in absurd (omega arith)
same_answer (Err why) (Ok y) e = let some = some_number why in absurd (omega arith)
same_answer (Err why) (Err other) e = ap Err (same_refusal why other e)
