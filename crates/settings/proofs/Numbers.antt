-- Every refusal has a number, so the number of what refuses first is that of the whole list of tests.
use Rattle.std.proofs.Common.{◌≡◌, sym, ◌<◌, List, [], ◌∷◌, ◌++◌, arith}
use Rattle.std.specs.Prelude.{Result}
use Rattle.std.specs.Result.{IsErrAnd}
use Rattle.std.proofs.lemmas.Result.{err_from_is_err_and}
use mathlib.Core.Bool.{Bool, true, false, cond}
use Prim.Native.Nat.{ℕ}
use Rattle.settings.proofs.Laws.{none, positive}
use Rattle.settings.specs.Refused.{number, number_of}
use Rattle.settings.specs.Refusals.{Test, row, first}
use Rattle.settings.specs.declared.refused.Refusal.{Refusal}
use Rattle.settings.specs.declared.refused.Refusal.TheVariants.{Sides, Length, Rate, Force, Face, Place, NotCopying, Lossy, Run, FileShort, FileVersion, FileSides, FileLength, Order, Tally}

pub some_number : (why : Refusal) → 0 < number why
unfolding number
some_number Sides = omega arith
some_number Length = omega arith
some_number Rate = omega arith
some_number Force = omega arith
some_number Face = omega arith
some_number Place = omega arith
some_number NotCopying = omega arith
some_number Lossy = omega arith
some_number Run = omega arith
some_number FileShort = omega arith
some_number FileVersion = omega arith
some_number FileSides = omega arith
some_number FileLength = omega arith
some_number Order = omega arith
some_number Tally = omega arith

-- a test that was not passed keeps its number, whatever comes later
kept : (bad : Bool) (n later more m : ℕ) → m ≡ cond bad n later → (m ≡ later → m ≡ more) → m ≡ cond bad n more
kept true n later more m e f = e
kept false n later more m e f = f e

stopped : (ts us : List Test) (m : ℕ) → 0 < m → m ≡ first ts 0 → m ≡ first (ts ++ us) 0
stopped [] us m some e = absurd (omega arith)
stopped (t ∷ ts) us m some e = kept (row t).bad (row t).number (first ts 0) (first (ts ++ us) 0) m e (stopped ts us m some)

-- where the first tests give no number, the later ones count
pub went_on : (ts us : List Test) (m : ℕ) → 0 ≡ first ts 0 → m ≡ first us 0 → m ≡ first (ts ++ us) 0
went_on [] us m passed e = e
went_on (t ∷ ts) us m passed e =
    let p = none (row t).bad (row t).number (first ts 0) (positive t) (sym passed) in rw p.0 (went_on ts us m (sym p.1) e)

-- a call that the tests us end, after ts were passed
pub ended : (ts us vs : List Test) (r : Result Unit Refusal) (why : Refusal) → IsErrAnd r (λ e. e ≡ why) → 0 ≡ first ts 0
    → number why ≡ first us 0 → number_of r ≡ first (ts ++ (us ++ vs)) 0
ended ts us vs r why is passed e =
    let p = err_from_is_err_and r is in
    rw (p.1, p.2) (went_on ts (us ++ vs) (number why) passed (stopped us vs (number why) (some_number why) e))
