-- The words of an answer.
use mathlib.Core.Path.{◌≡◌, refl, sym}
use mathlib.Core.List.{List, [], ◌∷◌}
use Prim.Native.Nat.{ℕ, ◌*◌}
use lib.ListN.{length}
use lib.Ieee.{to_bits, of_bits}
use borrow.Author.Tests.{ne_eqb}
use Rattle.std.proofs.Common.{arith}
use Rattle.std.specs.Prelude.{Result}
use Rattle.std.specs.Result.{IsErrAnd}
use Rattle.std.proofs.lemmas.Result.{err_from_is_err_and}
use Rattle.number.specs.Number.{pattern_of, c0}
use Rattle.settings.specs.declared.Settings.{Settings}
use Rattle.settings.specs.declared.refused.Refusal.{Refusal}
use Rattle.settings.specs.Refused.{number}
use Rattle.settings.specs.Refusals as Call
use Rattle.settings.specs.Refusals.{refusal}
use Rattle.settings.specs.Outcome.{outcome, answer}
use Rattle.settings.proofs.Numbers.{some_number}
use Rattle.host.specs.Told.{told}
use Rattle.brothwagon.specs.Exported.{plane_told}

pub zero_pattern : pattern_of c0 ≡ 0
unfolding to_bits of_bits
zero_pattern = refl

module _ (s : Settings) (f : List ℕ) (i : ℕ) where
  -- a plane that is not refused
  pub plane_of : {count : ℕ} → 0 ≡ refusal (Call.plane s (length f) i) → count ≡ answer (refusal (Call.plane s (length f) i)) (s.nx * s.ny) 0
      → outcome 0 (i * count ∷ count ∷ []) ≡ plane_told s f i
  unfolding answer
  plane_of zero e = rw (e, sym zero)

  -- and one that is
  pub no_plane : (r : Result (List ℕ) Refusal) (why : Refusal) → IsErrAnd r (λ e. e ≡ why) → number why ≡ refusal (Call.plane s (length f) i)
      → told 2 r ≡ plane_told s f i
  unfolding answer
  no_plane r why is e =
      let p = err_from_is_err_and r is in
      let some = some_number why in
      rw (p.1, p.2, ← e, ne_eqb (number why) 0 (λ zero. absurd (omega arith)))
