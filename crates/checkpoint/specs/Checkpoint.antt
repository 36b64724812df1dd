-- A checkpoint file: its bytes, what is read of it, and what writing, asking and reading answer and leave.
use Rattle.std.specs.Prelude.{List, ◌++◌, ℕ, ◌+◌, ◌*◌, length, Result, Ok, Err}
use Rattle.words.specs.Words.{big, bigs, part_at, numbers_at}
use Rattle.settings.specs.declared.Head.{Head}
use Rattle.settings.specs.declared.Settings.{Settings}
use Rattle.settings.specs.Refusals as Call
use Rattle.settings.specs.Refusals.{refusal}
use Rattle.settings.specs.declared.refused.Refusal.{Refusal}
use Rattle.settings.specs.Refused.{number}
use Rattle.settings.specs.Outcome.{answer, Written, written}
use Rattle.checkpoint.specs.declared.Stored.{Stored}

-- ---- THE FILE

-- the count of all that follows it: version, sides and step number, and nine entries of eight bytes for each cell
abbrev pub count_of : ℕ → ℕ → ℕ
count_of nx ny = 9 + 72 * (nx * ny)

-- the count in four bytes, the version 1 in one, nx and ny in two each, and the step number in four
unfoldable pub head_bytes : ℕ → ℕ → ℕ → List ℕ
head_bytes nx ny step = big 4 (count_of nx ny) ++ big 1 1 ++ big 2 nx ++ big 2 ny ++ big 4 step

-- then the 64 bits of every entry, in the order of the buffer
unfoldable pub checkpoint_of : ℕ → ℕ → ℕ → List ℕ → List ℕ
checkpoint_of nx ny step f = head_bytes nx ny step ++ bigs 8 f

-- ---- what is read of a file

abbrev pub head_of : List ℕ → Head
head_of file = record {
  length = length file;
  count = part_at 4 file 0;
  version = part_at 1 file 4;
  nx = part_at 2 file 5;
  ny = part_at 2 file 7;
  step = part_at 4 file 9;
}

abbrev pub stored_of : Head → Stored
stored_of h = record { nx = h.nx; ny = h.ny; step = h.step }

abbrev pub entries_of : List ℕ → List ℕ
entries_of file = let h = head_of file in numbers_at 8 (9 * (h.nx * h.ny)) file 13

-- ---- outcomes

abbrev pub checkpoint_written : Settings → ℕ → List ℕ → List ℕ → Written
checkpoint_written s step f file =
    written (refusal (Call.write_checkpoint s (length f) (length file))) file (checkpoint_of s.nx s.ny step f)

-- a number of the rules, and the sides and the step number of a file
pub record Told : Type 0 where
  pub number : ℕ
  pub nx : ℕ
  pub ny : ℕ
  pub step : ℕ

-- zeros where the file is refused
abbrev pub told : ℕ → Head → Told
told number h =
    answer number (record { number = 0; nx = h.nx; ny = h.ny; step = h.step })
    (record { number = number; nx = 0; ny = 0; step = 0 })

-- what the code answers, in these words
abbrev pub told_by : Result Stored Refusal → Told
told_by (Ok s) = record { number = 0; nx = s.nx; ny = s.ny; step = s.step }
told_by (Err why) = record { number = number why; nx = 0; ny = 0; step = 0 }

abbrev pub checkpoint_sides : List ℕ → Told
checkpoint_sides file = let h = head_of file in told (refusal (Call.checkpoint_sides h)) h

-- the same of a file that is read, and what the populations hold then
pub record Read : Type 0 where
  pub stored : Told
  pub f : List ℕ

abbrev pub read : Told → List ℕ → Read
read told f = record { stored = told; f = f }

abbrev pub checkpoint_read : List ℕ → List ℕ → Read
checkpoint_read file f =
    let h = head_of file in
    let number = refusal (Call.read_checkpoint h (length f)) in
    read (told number h) (answer number (entries_of file) f)
