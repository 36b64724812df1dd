-- What the exported functions leave with a host: the outcomes of the operations, with every value of an answer as a word.
use Rattle.std.specs.Prelude.{cond, List, [], ◌∷◌, ℕ, length}
use Rattle.number.specs.Number.{pattern_of}
use Rattle.settings.specs.declared.Settings.{Settings}
use Rattle.settings.specs.Refusals as Call
use Rattle.settings.specs.Refusals.{refusal}
use Rattle.settings.specs.Outcome.{Written}
use Rattle.lossless.specs.Lossless.{Reply}
use Rattle.readings.specs.Readings.{Reading, VelocityReading, plane_start, plane_length}
use Rattle.runs.specs.Steady.{Values, SteadyRun}
use Rattle.checkpoint.specs.Checkpoint.{Told, Read}
use Rattle.tally.specs.Tally.{Tallied}

-- ---- a number, and a small buffer with the answer, which every call writes

abbrev pub reading_told : Reading → Written
reading_told r = record { number = r.number; buffer = pattern_of r.value ∷ [] }

abbrev pub velocity_told : VelocityReading → Written
velocity_told r = record { number = r.number; buffer = pattern_of r.ux ∷ pattern_of r.uy ∷ [] }

-- where the plane of direction i starts in f, and how many entries it has
abbrev pub plane_told : Settings → List ℕ → ℕ → Written
plane_told s f i = record {
  number = refusal (Call.plane s (length f) i);
  buffer = plane_start s f i ∷ plane_length s f i ∷ [];
}

abbrev pub lossless_told : Reply → Written
lossless_told r = record { number = r.number; buffer = r.values }

abbrev pub stored_told : Told → Written
stored_told r = record { number = r.number; buffer = r.nx ∷ r.ny ∷ r.step ∷ [] }

abbrev pub tally_told : Tallied → Written
tally_told r = record { number = r.number; buffer = r.tally }

-- ---- a checkpoint that is read: the number, the answer, and the populations

pub record ReadTold : Type 0 where
  pub number : ℕ
  pub answer : List ℕ
  pub f : List ℕ

abbrev pub read_left : ℕ → List ℕ → List ℕ → ReadTold
read_left number answer f = record { number = number; answer = answer; f = f }

abbrev pub read_told : Read → ReadTold
read_told r = let told = stored_told r.stored in read_left told.number told.buffer r.f

-- ---- the steady run: the number, the answer, and the three buffers

pub record SteadyTold : Type 0 where
  pub number : ℕ
  pub answer : List ℕ
  pub f : List ℕ
  pub post : List ℕ
  pub u : List ℕ

abbrev pub steady_left : ℕ → List ℕ → List ℕ → List ℕ → List ℕ → SteadyTold
steady_left number answer f post u = record { number = number; answer = answer; f = f; post = post; u = u }

-- settled 1 or 0, the steps, and the residual's pattern
abbrev pub words : Values → List ℕ
words v = cond v.settled 1 0 ∷ v.steps ∷ pattern_of v.residual ∷ []

abbrev pub steady_told : SteadyRun → SteadyTold
steady_told r = steady_left r.number (words r.values) r.f r.post r.u
