-- What writing one entry comes to: from a buffer's own tally, whatever is asked, the tally afterwards is the buffer's own.
use mathlib.Core.Path.{◌≡◌, refl, subst}
use mathlib.Core.List.{List}
use Prim.Native.Nat.{ℕ, ◌*◌}
use native.Mathlib.Decide.{ℕ_discrete}
use lib.ListN.{length}
use Rattle.settings.specs.declared.Settings.{Settings}
use Rattle.settings.specs.Refusals as Call
use Rattle.settings.specs.Refusals.{refusal}
use Rattle.settings.proofs.Laws.{known}
use Rattle.settings.proofs.Outcome.{answered, refused}
use Rattle.lossless.specs.Lossless.{Buffer}
use Rattle.tally.specs.Tally.{tally_of, Entered, entered, entry_written}
use Rattle.tally.proofs.Tallies.{moved_is_fresh}

module _ (s : Settings) (x y i v : ℕ) (f : List ℕ) (b : Buffer s.nx s.ny f) where
  abbrev number : ℕ
  number = refusal (Call.write_entry s (length f) x y i)

  -- the tally is that of the populations
  abbrev Own : Entered → Type 0
  Own e = e.tally ≡ tally_of (s.nx * s.ny) e.f

  pub stays_own : Own (entry_written s x y i v f (tally_of (s.nx * s.ny) f))
  stays_own = go (ℕ_discrete number 0)
    where
      go : Dec (number ≡ 0) → Own (entry_written s x y i v f (tally_of (s.nx * s.ny) f))
      go (yes zero) =
          let k = known (Call.write_entry s (length f) x y i) zero in
          let at = k.1.1.0 in
          subst Own (answered _ refl zero refl) (moved_is_fresh s.nx s.ny x y i v f b at.column at.row k.1.1.1.0)
      go (no d) = subst Own (refused _ (λ n. entered n f (tally_of (s.nx * s.ny) f)) refl d) refl
