-- Bytes that are written: number after number, and lists that meet.
use mathlib.Core.Path.{◌≡◌, refl, sym, ap, ◌∙◌}
use mathlib.Core.List.{List, [], ◌++◌}
use Prim.Native.Nat.{ℕ, zero, suc, ◌+◌, ◌≤◌, ◌<◌}
use native.Mathlib.Nat.{zero-add}
use Rattle.std.proofs.Common.{arith, rules, slice_range}
use borrow.Rule.Slice.PartMut.{put_mid}
use Rattle.std.proofs.lemmas.Slice.{overwrites}
use Rattle.std.proofs.lemmas.List.{places}
use Rattle.std.proofs.lemmas.List.Edits.{length-between}
use lib.ListN.{length, get_or, length-append, get_or-append}
use lib.Seq.{ext_get_or, get_or-append-add}
use Rattle.grid.proofs.Writes.{join, same_values, to_length}
use Rattle.words.specs.Words.{big, bigs, number_at, part_at, numbers_at, Laid}
use Rattle.words.proofs.Words.{Bytes, big_length, bytes_of, part_of}

-- ---- a write into a part of a buffer

pub laid_part : (d l : List ℕ) (at n : ℕ) → at + n ≤ length d → length l ≡ n → Laid d (put_mid at n d l) at l
laid_part d l at n h size = record {
  size = search (rules, overwrites);
  inside = λ k b. search (rules, places);
  below = λ j b. search (rules, places);
  above = λ j b. search (rules, places);
}

-- a number put there, by the code `put_number(v, &mut d[from..to])`
pub laid_put : (d l : List ℕ) (from n v : ℕ) → from + n ≤ length d → l ≡ big (length (slice_range d from (from + n))) v → Laid d (put_mid from n d l) from (big n v)
laid_put d l from n v h is =
    let size : length (slice_range d from (from + n)) ≡ n = length-between d from (from + n) h ∙ omega arith in
    let put : l ≡ big n v = is ∙ ap (λ (k : ℕ). big k v) size in
    rw put (laid_part d (big n v) from n h (big_length n v))

-- ---- two lists that meet

pub laid_append : (d e g l m : List ℕ) (at : ℕ) → Laid d e at l → Laid e g (at + length l) m → Laid d g at (l ++ m)
laid_append d e g l m at w u =
    to_length
    (join d e g at (length l) (length m) (λ k. get_or (l ++ m) k 0)
    (same_values (λ k h. sym (get_or-append l m 0 k h)) w)
    (same_values (λ k h. sym (get_or-append-add l m k 0)) u))
    (sym (length-append l m))

-- a list that fills a buffer
pub laid_all : (d e l : List ℕ) → Laid d e 0 l → length d ≡ length l → e ≡ l
laid_all d e l w size =
    ext_get_or 0 e l (w.size ∙ size)
    (λ k h. ap (λ (i : ℕ). get_or e i 0) (sym (zero-add k)) ∙ w.inside k (omega (arith, w.size)))

-- ---- BYTES THAT STAND IN A BUFFER: as written, where nothing has changed

pub standing : (b l : List ℕ) (at : ℕ) → ((k : ℕ) → k < length l → get_or b (at + k) 0 ≡ get_or l k 0) → Laid b b at l
standing b l at here = record { size = refl; inside = here; below = λ j h. refl; above = λ j h. refl }

pub number_stands : (b : List ℕ) (at n : ℕ) → Bytes b → Laid b b at (big n (number_at n b at))
number_stands b at n bytes =
    standing b (big n (number_at n b at)) at
    (λ k h. sym (bytes_of b at bytes n k (omega (arith, big_length n (number_at n b at)))))

-- the number that a part of a file is read as
pub part_stands : (b : List ℕ) (n at v : ℕ) → Bytes b → at + n ≤ length b → part_at n b at ≡ v → Laid b b at (big n v)
part_stands b n at v bytes inside is = rw (sym is ∙ part_of n b at inside) (number_stands b at n bytes)

pub numbers_stand : (b : List ℕ) (at n count : ℕ) → Bytes b → Laid b b at (bigs n (numbers_at n count b at))
unfolding numbers_at bigs
numbers_stand b at n zero bytes = standing b [] at (λ k h. absurd (omega arith))
numbers_stand b at n (suc count) bytes =
    laid_append b b b (big n (number_at n b at)) (bigs n (numbers_at n count b (at + n))) at (number_stands b at n bytes)
    (rw (big_length n (number_at n b at)) (numbers_stand b (at + n) n count bytes))
