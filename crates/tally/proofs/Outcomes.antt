-- What the code answers and leaves, done and refused, is what the rules say.
use Rattle.std.proofs.Common.{◌≡◌, ◌∙◌, refl, ap, ap₂, sym, List, ℕ, ◌*◌, ◌<◌, length, get_or, set, arith}
use Rattle.std.specs.Prelude.{Result, Ok, Err, replicate}
use Rattle.std.specs.Result.{IsErrAnd}
use Rattle.std.proofs.lemmas.Result.{err_from_is_err_and}
use Rattle.grid.specs.Grid.{Grid, index}
use Rattle.settings.specs.declared.refused.Refusal.{Refusal}
use Rattle.settings.specs.declared.Settings.{Settings}
use Rattle.settings.specs.Refused.{number}
use Rattle.settings.specs.Refusals as Call
use Rattle.settings.specs.Refusals.{refusal}
use Rattle.settings.proofs.Laws.{known}
use Rattle.settings.proofs.Numbers.{some_number}
use Rattle.settings.proofs.Same.{same_refusal}
use Rattle.settings.proofs.Outcome.{answered, refused}
use Rattle.tally.specs.Tally.{tally_of, moved, Tallied, tallied, tallied_by, entered, entry_written}

-- ---- the tally

pub tallied_done : (s : Settings) (f t : List ℕ) → 0 ≡ refusal (Call.tally s (length f)) → t ≡ tally_of (s.nx * s.ny) f → tallied_by (Ok t) ≡ tallied s f
tallied_done s f t e is = answered _ e refl (ap (λ (l : List ℕ). tallied_by (Ok l)) is)

pub tallied_refused : (s : Settings) (f : List ℕ) (r : Result (List ℕ) Refusal) (why : Refusal) → IsErrAnd r (λ e. e ≡ why)
    → number why ≡ refusal (Call.tally s (length f)) → tallied_by r ≡ tallied s f
tallied_refused s f r why is e =
    let p = err_from_is_err_and r is in
    let some = some_number why in
    rw (p.1, p.2) (refused _ (λ n. record { number = n; tally = replicate 10 0 }) e (λ zero. absurd (omega arith)))

-- ---- one changed entry

pub record Allowed (s : Settings) (len x y i : ℕ) : Type 0 where
  pub grid : Grid s.nx s.ny
  pub size : len ≡ 9 * (s.nx * s.ny)
  pub column : x < s.nx
  pub row : y < s.ny
  pub direction : i < 9

pub allowed : (s : Settings) (len x y i : ℕ) → 0 ≡ refusal (Call.write_entry s len x y i) → Allowed s len x y i
allowed s len x y i e =
    let k = known (Call.write_entry s len x y i) (sym e) in
    record { grid = k.0; size = k.1.0.size; column = k.1.1.0.column; row = k.1.1.0.row; direction = k.1.1.1.0 }

-- v is written in the place of old, and the tally is moved by both
pub entry_done : (s : Settings) (x y i v place old put : ℕ) (f t moved_t : List ℕ) → 0 ≡ refusal (Call.write_entry s (length f) x y i)
    → place ≡ index s.nx s.ny x y i → old ≡ get_or f place 0 → put ≡ v → moved_t ≡ moved i old v t
    → entered 0 (set f place put) moved_t ≡ entry_written s x y i v f t
entry_done s x y i v place old put f t moved_t e at was is moves =
    answered _ e refl
    (ap₂ (λ (g u : List ℕ). entered 0 g u) (ap₂ (λ (k w : ℕ). set f k w) at is)
    (moves ∙ ap (λ (k : ℕ). moved i k v t) (was ∙ ap (λ (k : ℕ). get_or f k 0) at)))

-- ---- one answer says one thing

pub same_tallied : (r q : Result (List ℕ) Refusal) → tallied_by r ≡ tallied_by q → r ≡ q
same_tallied (Ok t) (Ok u) e = ap (λ (d : Tallied). Ok d.tally) e
same_tallied (Ok t) (Err why) e =
    let some = some_number why in
    let zero : 0 ≡ number why = ap (λ (d : Tallied). d.number) e in absurd (omega arith)
same_tallied (Err why) (Ok t) e =
    let some = some_number why in
    let zero : number why ≡ 0 = ap (λ (d : Tallied). d.number) e in absurd (omega arith)
same_tallied (Err why) (Err other) e = ap Err (same_refusal why other (ap (λ (d : Tallied). d.number) e))
