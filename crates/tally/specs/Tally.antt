-- The tally of a buffer: ten wrapping sums of its entries' patterns; and how one changed entry moves it.
use Rattle.std.specs.Prelude.{List, ◌∷◌, ℕ, ◌+◌, ◌*◌, length, get_or, set, replicate, Result, Ok, Err}
use Rattle.number.specs.Nine.{nine}
use Rattle.grid.specs.Grid.{index}
use Rattle.sums.specs.Sums.{sum, wrapped, moved_by}
use Rattle.settings.specs.declared.Settings.{Settings}
use Rattle.settings.specs.Tests.{plane_in}
use Rattle.settings.specs.Refusals as Call
use Rattle.settings.specs.Refusals.{refusal}
use Rattle.settings.specs.declared.refused.Refusal.{Refusal}
use Rattle.settings.specs.Refused.{number}
use Rattle.settings.specs.Outcome.{answer}

-- ---- THE TALLY of a buffer of n cells

-- the sum of all entries' patterns
unfoldable pub total : ℕ → List ℕ → ℕ
total n f = wrapped (sum (9 * n) (λ k. get_or f k 0))

-- that of direction plane i: its entry of cell c stands at c + i·n
unfoldable pub plane : ℕ → List ℕ → ℕ → ℕ
plane n f i = wrapped (sum n (λ c. get_or f (c + i * n) 0))

-- the ten numbers
unfoldable pub tally_of : ℕ → List ℕ → List ℕ
tally_of n f = total n f ∷ nine (plane n f)

-- ---- ONE CHANGED ENTRY

-- of any ten numbers, the first and that of plane i are moved by the new pattern less the old
unfoldable pub moved : ℕ → ℕ → ℕ → List ℕ → List ℕ
moved i old new t = set (set t 0 (moved_by old new (get_or t 0 0))) (i + 1) (moved_by old new (plane_in t i))

-- ---- outcomes

-- a number of the rules, and the ten numbers of a tally
pub record Tallied : Type 0 where
  pub number : ℕ
  pub tally : List ℕ

-- what the code answers, in these words
abbrev pub tallied_by : Result (List ℕ) Refusal → Tallied
tallied_by (Ok t) = record { number = 0; tally = t }
tallied_by (Err why) = record { number = number why; tally = replicate 10 0 }

-- the tally, and ten zeros where the call is refused
abbrev pub tallied : Settings → List ℕ → Tallied
tallied s f =
    let number = refusal (Call.tally s (length f)) in
    answer number (record { number = 0; tally = tally_of (s.nx * s.ny) f })
    (record { number = number; tally = replicate 10 0 })

-- a number, and what the populations and the tally hold
pub record Entered : Type 0 where
  pub number : ℕ
  pub f : List ℕ
  pub tally : List ℕ

abbrev pub entered : ℕ → List ℕ → List ℕ → Entered
entered number f tally = record { number = number; f = f; tally = tally }

-- v is written as entry (x, y, i) of f; a refusal leaves f and the tally as they were
abbrev pub entry_written : Settings → ℕ → ℕ → ℕ → ℕ → List ℕ → List ℕ → Entered
entry_written s x y i v f t =
    let number = refusal (Call.write_entry s (length f) x y i) in
    let at = index s.nx s.ny x y i in
    answer number (entered 0 (set f at v) (moved i (get_or f at 0) v t)) (entered number f t)
