-- The tally as a file: its bytes, what is read of it, and what writing and reading answer and leave.
use Rattle.std.specs.Prelude.{cond, List, ◌++◌, ℕ, eqb, length, replicate}
use Rattle.words.specs.Words.{big, bigs, part_at, numbers_at}
use Rattle.settings.specs.Refusals as Call
use Rattle.settings.specs.Refusals.{refusal}
use Rattle.settings.specs.Outcome.{Written, written}

-- ---- THE FILE

-- the count of all that follows it, 81, in four bytes; the version 1 in one; then the ten numbers
unfoldable pub file_of : List ℕ → List ℕ
file_of t = big 4 81 ++ big 1 1 ++ bigs 8 t

-- ---- what is read of a file

-- the ten numbers; zeros where the file has not the length of one
unfoldable pub ten_of : List ℕ → List ℕ
ten_of file = cond (eqb (length file) 85) (numbers_at 8 10 file 5) (replicate 10 0)

-- the number that refuses the file, where the lent tally has that length
abbrev pub read_refusal : List ℕ → ℕ → ℕ
read_refusal file len = refusal (Call.read_tally (length file) (part_at 4 file 0) (part_at 1 file 4) (ten_of file) len)

-- ---- outcomes

abbrev pub tally_written : List ℕ → List ℕ → Written
tally_written t file = written (refusal (Call.write_tally t (length file))) file (file_of t)

abbrev pub tally_read : List ℕ → List ℕ → Written
tally_read file t = written (read_refusal file (length t)) t (ten_of file)
