-- The bytes of a tally's file, part by part; and what is read of it.
use mathlib.Core.Path.{◌≡◌, refl, sym, ap, ◌∙◌}
use mathlib.Core.Bool.{Bool, true, false, cond}
use mathlib.Core.List.{List, ◌++◌}
use Prim.Native.Nat.{ℕ, ◌-◌, ◌^◌, ◌<◌}
use native.Mathlib.Omega.{arith}
use borrow.Author.Tests.{eq-eqb, ne_eqb}
use lib.Dec.{eqb}
use lib.ListN.{length, get_or, length-append, replicate}
use borrow.Rule.Slice.PartMut.{put_mid}
use Rattle.std.specs.List.{slice_range}
use Rattle.words.specs.Words.{big, bigs, number_at, part_at, numbers_at, Laid}
use Rattle.words.proofs.Words.{bigs_length, numbers_length, part_of, numbers_of}
use Rattle.words.proofs.Laid.{laid_append, laid_all, laid_part, laid_put}
use Rattle.settings.specs.Tests.{sums_bad}
use Rattle.settings.specs.Refusals as Call
use Rattle.settings.specs.Refusals.{refusal}
use Rattle.settings.proofs.Laws.{known}
use Rattle.tally.specs.File.{file_of, ten_of, read_refusal}

-- ten numbers of 64 bits
pub record Ten (t : List ℕ) : Type 0 where
  pub size : length t ≡ 10
  pub words : (k : ℕ) → get_or t k 0 < 2 ^ 64

-- ---- the bytes of a file

pub file_length : (t : List ℕ) → length t ≡ 10 → length (file_of t) ≡ 85
unfolding file_of big
file_length t size =
    length-append (big 4 81 ++ big 1 1) (bigs 8 t) ∙ omega (arith, bigs_length 8 t)

-- count, version and the ten numbers, one after the other
pub file_laid : (t d e1 e2 e3 : List ℕ) → length t ≡ 10 → length d ≡ 85
    → Laid d e1 0 (big 4 81)
    → Laid e1 e2 4 (big 1 1)
    → Laid e2 e3 5 (bigs 8 t)
    → e3 ≡ file_of t
unfolding file_of big
file_laid t d e1 e2 e3 ten size count version numbers =
    laid_all d e3 (big 4 81 ++ big 1 1 ++ bigs 8 t)
    (laid_append d e1 e3 (big 4 81) (big 1 1 ++ bigs 8 t) 0 count (laid_append e1 e2 e3 (big 1 1) (bigs 8 t) 4 version numbers))
    (size ∙ sym (file_length t ten))

-- the same by the code, which puts each number into a part of its own
pub file_put : (t d l1 l2 l3 : List ℕ) → length t ≡ 10 → length d ≡ 85 → let e1 = put_mid 0 4 d l1 in
    let e2 = put_mid 4 1 e1 l2 in
    l1 ≡ big (length (slice_range d 0 4)) 81 → l2 ≡ big (length (slice_range e1 4 5)) 1 → l3 ≡ bigs 8 t
    → put_mid 5 (length e2 - 5) e2 l3 ≡ file_of t
file_put t d l1 l2 l3 ten size count version numbers =
    let w1 = laid_put d l1 0 4 81 (omega arith) count in
    let w2 = laid_put _ l2 4 1 1 (omega (arith, w1.size)) version in
    let e = put_mid 4 1 (put_mid 0 4 d l1) l2 in
    let w3 : Laid e (put_mid 5 (length e - 5) e l3) 5 (bigs 8 t) =
    rw numbers (laid_part e (bigs 8 t) 5 (length e - 5) (omega (arith, w1.size, w2.size)) (omega (arith, w1.size, w2.size, bigs_length 8 t))) in
    file_laid t d _ _ _ ten size w1 w2 w3

-- ---- what is read of a file

pub ten_of_lem : (file : List ℕ) → length file ≡ 85 → ten_of file ≡ numbers_at 8 10 file 5
unfolding ten_of
ten_of_lem file size = rw (eq-eqb (length file) 85 size)

pub ten_of_other : (file : List ℕ) → (length file ≡ 85 → ⊥) → ten_of file ≡ replicate 10 0
unfolding ten_of
ten_of_other file other = rw (ne_eqb (length file) 85 other)

pub ten_length : (file : List ℕ) → length (ten_of file) ≡ 10
unfolding ten_of
ten_length file = by_test (eqb (length file) 85)
  where
    by_test : (b : Bool) → length (cond b (numbers_at 8 10 file 5) (replicate 10 0)) ≡ 10
    by_test true = numbers_length 8 10 file 5
    by_test false = refl

-- ---- what is read of the file of ten numbers

module _ (t : List ℕ) (ten : Ten t) where
  pub count_of_file : part_at 4 (file_of t) 0 ≡ 81
  unfolding file_of big number_at
  count_of_file = part_of 4 (file_of t) 0 (omega (arith, file_length t ten.size)) ∙ refl

  pub version_of_file : part_at 1 (file_of t) 4 ≡ 1
  unfolding file_of big number_at
  version_of_file = part_of 1 (file_of t) 4 (omega (arith, file_length t ten.size)) ∙ refl

  pub ten_of_file : ten_of (file_of t) ≡ t
  unfolding file_of big
  ten_of_file =
      ten_of_lem (file_of t) (file_length t ten.size)
      ∙ ap (λ (n : ℕ). numbers_at 8 n (file_of t) 5) (sym ten.size)
      ∙ numbers_of 8 (big 4 81 ++ big 1 1) t ten.words

-- ---- what is known of a file that is not refused

pub record Read (file : List ℕ) (len : ℕ) : Type 0 where
  pub size : length file ≡ 85
  pub count : part_at 4 file 0 ≡ 81
  pub version : part_at 1 file 4 ≡ 1
  pub wraps : sums_bad (ten_of file) ≡ false
  pub lent : len ≡ 10

-- the same question, by what the code has read
pub asked : (file : List ℕ) (len : ℕ) {count version : ℕ} {numbers : List ℕ} → count ≡ part_at 4 file 0 → version ≡ part_at 1 file 4
    → numbers ≡ ten_of file → refusal (Call.read_tally (length file) count version numbers len) ≡ read_refusal file len
asked file len p q r = rw (p, q, r) refl

pub accepted_as : (file : List ℕ) (len : ℕ) → read_refusal file len ≡ 0 → Read file len
accepted_as file len zero =
    let k = known (Call.read_tally (length file) (part_at 4 file 0) (part_at 1 file 4) (ten_of file) len) zero in
    record { size = k.1.1.0.size; count = k.1.1.0.count_is; version = k.1.0; wraps = k.1.1.1.0; lent = k.1.1.1.1.0 }
