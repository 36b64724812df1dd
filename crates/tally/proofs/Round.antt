-- A file and its ten numbers give each other: what was written is read back, and an accepted file is the file of what was read.
use mathlib.Core.Path.{◌≡◌, refl, sym, ap, ◌∙◌}
use mathlib.Core.Bool.{false}
use mathlib.Core.List.{List}
use Prim.Native.Nat.{ℕ}
use native.Mathlib.Omega.{arith}
use borrow.Author.Tests.{eq-eqb}
use lib.ListN.{length}
use Rattle.words.specs.Words.{numbers_at}
use Rattle.words.proofs.Words.{Bytes, numbers_length}
use Rattle.words.proofs.Laid.{part_stands, numbers_stand}
use Rattle.settings.specs.Tests.{size_bad, tally_count_bad, sums_bad}
use Rattle.settings.specs.Refusals as Call
use Rattle.settings.specs.Refusals.{refusal}
use Rattle.settings.specs.Outcome.{Written, outcome}
use Rattle.settings.proofs.Laws.{known}
use Rattle.settings.proofs.Outcome.{answered}
use Rattle.tally.specs.File.{file_of, ten_of, read_refusal, tally_written, tally_read}
use Rattle.tally.proofs.Files.{Ten, accepted_as, file_length, file_laid, ten_of_lem, count_of_file, version_of_file, ten_of_file}

-- what is written, and what is read, where the number is 0
written_done : (t file : List ℕ) → refusal (Call.write_tally t (length file)) ≡ 0 → tally_written t file ≡ outcome 0 (file_of t)
written_done t file zero = sym (answered _ refl zero refl)

read_done : (file t : List ℕ) → read_refusal file (length t) ≡ 0 → tally_read file t ≡ outcome 0 (ten_of file)
read_done file t zero = sym (answered _ refl zero refl)

-- ---- WHAT WAS WRITTEN IS READ BACK

-- the file of ten numbers that wrap is refused nowhere
file_passes : (t : List ℕ) (len : ℕ) → Ten t → sums_bad t ≡ false → len ≡ 10 → read_refusal (file_of t) len ≡ 0
unfolding tally_count_bad size_bad
file_passes t len ten wraps fits =
    rw (
      file_length t ten.size,
      count_of_file t ten,
      version_of_file t ten,
      ten_of_file t ten,
      wraps,
      eq-eqb len 10 fits,
    )

pub read_back : (t file lent : List ℕ) → Ten t → refusal (Call.write_tally t (length file)) ≡ 0 → length lent ≡ 10
    → tally_read (tally_written t file).buffer lent ≡ outcome 0 t
read_back t file lent ten zero fits =
    let wraps = (known (Call.write_tally t (length file)) zero).0 in
    ap (λ (w : Written). tally_read w.buffer lent) (written_done t file zero)
    ∙ read_done (file_of t) lent (file_passes t (length lent) ten wraps fits)
    ∙ ap (λ (l : List ℕ). outcome 0 l) (ten_of_file t ten)

-- ---- AN ACCEPTED FILE IS THE FILE OF WHAT WAS READ

module _ (file t : List ℕ) (bytes : Bytes file) (zero : read_refusal file (length t) ≡ 0) where
  its_file : file ≡ file_of (ten_of file)
  its_file =
      let k = accepted_as file (length t) zero in
      rw (ten_of_lem file k.size)
      (file_laid (numbers_at 8 10 file 5) file file file file (numbers_length 8 10 file 5) k.size
      (part_stands file 4 0 81 bytes (omega (arith, k.size)) k.count)
      (part_stands file 1 4 1 bytes (omega (arith, k.size)) k.version)
      (numbers_stand file 5 8 10 bytes))

  pub accepted : file ≡ file_of (tally_read file t).buffer
  accepted = its_file ∙ ap (λ (w : Written). file_of w.buffer) (sym (read_done file t zero))

  -- and is written as it was
  pub written_back : (into : List ℕ) → length into ≡ 85 → tally_written (tally_read file t).buffer into ≡ outcome 0 file
  unfolding size_bad
  written_back into size =
      let k = accepted_as file (length t) zero in
      let passes : refusal (Call.write_tally (ten_of file) (length into)) ≡ 0 = rw (k.wraps, eq-eqb (length into) 85 size) in
      ap (λ (w : Written). tally_written w.buffer into) (read_done file t zero)
      ∙ written_done (ten_of file) into passes
      ∙ ap (λ (l : List ℕ). outcome 0 l) (sym its_file)

-- so accepted files with equal numbers are equal bytes
pub same_bytes : (file t file' t' : List ℕ) → Bytes file → Bytes file'
    → read_refusal file (length t) ≡ 0 → read_refusal file' (length t') ≡ 0
    → tally_read file t ≡ tally_read file' t' → file ≡ file'
same_bytes file t file' t' bytes bytes' zero zero' same =
    accepted file t bytes zero
    ∙ ap (λ (w : Written). file_of w.buffer) same
    ∙ sym (accepted file' t' bytes' zero')
