-- The bytes of a file, part by part, and the head that is read of it.
use mathlib.Core.Path.{◌≡◌, refl, sym, ap, ap₂, ◌∙◌}
use mathlib.Core.List.{List, ◌++◌}
use Prim.Native.Nat.{ℕ, ◌+◌, ◌-◌, ◌*◌, ◌^◌, ◌≤◌, ◌<◌}
use native.Mathlib.Omega.{arith}
use lib.ListN.{length, get_or, length-append}
use borrow.Rule.Slice.PartMut.{put_mid}
use Rattle.std.specs.List.{slice_range}
use Rattle.words.specs.Words.{big, bigs, number_at, part_at, numbers_at, Laid}
use Rattle.words.proofs.Words.{bigs_length, part_of, number_of_lem, numbers_of}
use Rattle.words.proofs.Laid.{laid_append, laid_all, laid_part, laid_put}
use Rattle.grid.specs.Grid.{Grid}
use Rattle.settings.specs.declared.Head.{Head}
use Rattle.checkpoint.specs.Checkpoint.{count_of, head_bytes, checkpoint_of, head_of, entries_of}

-- ---- the bytes of a file

pub head_length : (nx ny step : ℕ) → length (head_bytes nx ny step) ≡ 13
unfolding head_bytes big
head_length nx ny step = refl

pub file_length : (nx ny step : ℕ) (f : List ℕ) → length f ≡ 9 * (nx * ny) → length (checkpoint_of nx ny step f) ≡ 13 + 72 * (nx * ny)
unfolding checkpoint_of
file_length nx ny step f size =
    length-append (head_bytes nx ny step) (bigs 8 f) ∙ omega (arith, head_length nx ny step, bigs_length 8 f)

-- the parts of the head, one after the other
pub head_laid : (nx ny step : ℕ) (d e1 e2 e3 e4 e5 : List ℕ)
    → Laid d e1 0 (big 4 (count_of nx ny))
    → Laid e1 e2 4 (big 1 1)
    → Laid e2 e3 5 (big 2 nx)
    → Laid e3 e4 7 (big 2 ny)
    → Laid e4 e5 9 (big 4 step)
    → Laid d e5 0 (head_bytes nx ny step)
unfolding head_bytes big
head_laid nx ny step d e1 e2 e3 e4 e5 count version x y steps =
    let from-y = big 2 ny ++ big 4 step in
    let from-x = big 2 nx ++ from-y in
    laid_append d e1 e5 (big 4 (count_of nx ny)) (big 1 1 ++ from-x) 0 count
    (laid_append e1 e2 e5 (big 1 1) from-x 4 version
    (laid_append e2 e3 e5 (big 2 nx) from-y 5 x (laid_append e3 e4 e5 (big 2 ny) (big 4 step) 7 y steps)))

-- and the entries behind it
pub file_laid : (nx ny step : ℕ) (d e g f : List ℕ) → length d ≡ 13 + 72 * (nx * ny) → length f ≡ 9 * (nx * ny)
    → Laid d e 0 (head_bytes nx ny step) → Laid e g 13 (bigs 8 f) → g ≡ checkpoint_of nx ny step f
unfolding checkpoint_of
file_laid nx ny step d e g f size entries head rest =
    laid_all d g (head_bytes nx ny step ++ bigs 8 f)
    (laid_append d e g (head_bytes nx ny step) (bigs 8 f) 0 head (rw (head_length nx ny step) rest))
    (size ∙ sym (file_length nx ny step f entries))

-- ---- the same by the code, which puts each number into a part of its own

pub head_put : (nx ny step wide : ℕ) (d l1 l2 l3 l4 l5 : List ℕ) → let e1 = put_mid 0 4 d l1 in
    let e2 = put_mid 4 1 e1 l2 in
    let e3 = put_mid 5 2 e2 l3 in
    let e4 = put_mid 7 2 e3 l4 in
    length d ≡ 13 → wide ≡ step
    → l1 ≡ big (length (slice_range d 0 4)) (count_of nx ny)
    → l2 ≡ big (length (slice_range e1 4 5)) 1
    → l3 ≡ big (length (slice_range e2 5 7)) nx
    → l4 ≡ big (length (slice_range e3 7 9)) ny
    → l5 ≡ big (length (slice_range e4 9 13)) wide
    → put_mid 9 4 e4 l5 ≡ head_bytes nx ny step
head_put nx ny step wide d l1 l2 l3 l4 l5 size same count version x y steps =
    let w1 = laid_put d l1 0 4 (count_of nx ny) (omega arith) count in
    let w2 = laid_put _ l2 4 1 1 (omega (arith, w1.size)) version in
    let w3 = laid_put _ l3 5 2 nx (omega (arith, w1.size, w2.size)) x in
    let w4 = laid_put _ l4 7 2 ny (omega (arith, w1.size, w2.size, w3.size)) y in
    let w5 = laid_put _ l5 9 4 step (omega (arith, w1.size, w2.size, w3.size, w4.size)) (rw same at steps) in
    laid_all d _ (head_bytes nx ny step) (head_laid nx ny step d _ _ _ _ _ w1 w2 w3 w4 w5) (size ∙ sym (head_length nx ny step))

pub file_put : (nx ny step : ℕ) (d l m f : List ℕ) → length f ≡ 9 * (nx * ny) → length d ≡ 13 + 72 * (nx * ny)
    → l ≡ head_bytes nx ny step → m ≡ bigs 8 f
    → let e = put_mid 0 13 d l in put_mid 13 (length e - 13) e m ≡ checkpoint_of nx ny step f
file_put nx ny step d l m f entries size head rest =
    let e = put_mid 0 13 d l in
    let h : Laid d e 0 (head_bytes nx ny step) = rw head (laid_part d (head_bytes nx ny step) 0 13 (omega arith) (head_length nx ny step)) in
    let w : Laid e (put_mid 13 (length e - 13) e m) 13 (bigs 8 f) =
    rw rest (laid_part e (bigs 8 f) 13 (length e - 13) (omega (arith, h.size)) (omega (arith, h.size, bigs_length 8 f))) in
    file_laid nx ny step d e _ f size entries h w

-- ---- what is read of the file of a state

-- the head of a file of these sides and this step
abbrev pub heading : ℕ → ℕ → ℕ → Head
heading nx ny step = record {
  length = 13 + 72 * (nx * ny);
  count = count_of nx ny;
  version = 1;
  nx = nx;
  ny = ny;
  step = step;
}

-- patterns of 64 bits
pub record Patterns (f : List ℕ) : Type 0 where
  pub bits : (k : ℕ) → get_or f k 0 < 2 ^ 64

module _ (nx ny step : ℕ) (f : List ℕ) (g : Grid nx ny) (size : length f ≡ 9 * (nx * ny)) (late : step < 2 ^ 32) where
  abbrev file : List ℕ
  file = checkpoint_of nx ny step f

  -- a part of the head, by its bytes
  read_part : (n at v : ℕ) → at + n ≤ 13 → number_at n file at ≡ number_at n (big n v) 0 → v < 256 ^ n → part_at n file at ≡ v
  read_part n at v in_head same fits =
      part_of n file at (omega (arith, file_length nx ny step f size)) ∙ same ∙ number_of_lem n v fits

  pub head_of_file : head_of file ≡ heading nx ny step
  unfolding checkpoint_of head_bytes big number_at
  head_of_file =
      rw (
        file_length nx ny step f size,
        read_part 4 0 (count_of nx ny) (omega arith) refl (omega (arith, g.few)),
        read_part 1 4 1 (omega arith) refl (omega arith),
        read_part 2 5 nx (omega arith) refl (omega (arith, g.x_most)),
        read_part 2 7 ny (omega arith) refl (omega (arith, g.y_most)),
        read_part 4 9 step (omega arith) refl late,
      )

  pub entries_of_file : Patterns f → entries_of file ≡ f
  unfolding checkpoint_of
  entries_of_file p =
      ap (λ (h : Head). numbers_at 8 (9 * (h.nx * h.ny)) file 13) head_of_file
      ∙ ap₂ (λ (n at : ℕ). numbers_at 8 n file at) (sym size) (sym (head_length nx ny step))
      ∙ numbers_of 8 (head_bytes nx ny step) f p.bits
