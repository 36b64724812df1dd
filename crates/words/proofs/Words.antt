-- Bytes and numbers, for every width: the bytes of a number spell it, and bytes are those of the number that they spell.
use Rattle.std.proofs.Common.{◌≡◌, refl, sym, ap, ap₂, ◌∙◌, List, [], ◌∷◌, ◌++◌, ℕ, zero, suc, ◌+◌, ◌-◌, ◌*◌, ◌/◌, ◌%◌, ◌^◌, ◌≤◌, ◌<◌, zero-add, add-one, arith, length, get_or, take, drop, set, take_all, Option, Some, None, ◌⊎◌, inl, inr, append_assoc, append-nil, length-append}
use native.Mathlib.Nat.{div-eq_of_lt, div-add-mod', div-div-eq-div-mul, div-one, pow-suc, mul_comm, suc-add, le_of_suc-le-suc}
use borrow.Author.Tests.{le-ltb, lt-ltb}
use borrow.Rule.Slice.PartMut.{put_mid}
use denote.Ref.{Bor}
use lib.Pow.{pow-add, pow_mono}
use lib.Arith.{digits_div, digits_mod}
use lib.ListN.{get_or-append}
use lib.Seq.{ext_get_or, get_or-append-add}
use mir.Syntax.{w64}
use Rattle.std.specs.List.{slice_range}
use Rattle.std.specs.Int.{bytes_high_first, to_be_bytes}
use Rattle.std.specs.Slice.{IsGetRangeResult}
use Rattle.std.specs.Option.{MatchOption}
use Rattle.std.proofs.lemmas.Grind.{take-set_at, take_at_read}
use Rattle.std.proofs.lemmas.Slice.{take-put_mid}
use Rattle.std.proofs.lemmas.List.Edits.{get_or-between, length-between}
use Rattle.words.specs.Words.{byte_of, big, bigs, number_at, part_at, numbers_at}

-- every entry is a byte
pub record Bytes (b : List ℕ) : Type 0 where
  pub byte : (k : ℕ) → get_or b k 0 < 256

-- ---- lists of bytes, entry by entry

pub big_length : (n v : ℕ) → length (big n v) ≡ n
unfolding big
big_length zero v = refl
big_length (suc n) v = ap suc (big_length n v)

pub big_at : (n v k : ℕ) → k < n → get_or (big n v) k 0 ≡ byte_of v (n - 1 - k)
unfolding big
big_at zero v k h = absurd (omega arith)
big_at (suc n) v zero h = ap (byte_of v) (omega arith)
big_at (suc n) v (suc k) h = big_at n v k (le_of_suc-le-suc h) ∙ ap (byte_of v) (omega arith)

pub bigs_length : (n : ℕ) (f : List ℕ) → length (bigs n f) ≡ n * length f
unfolding bigs
bigs_length n [] = omega arith
bigs_length n (v ∷ rest) =
    length-append (big n v) (bigs n rest)
    ∙ ap₂ (λ (a b : ℕ). a + b) (big_length n v) (bigs_length n rest)
    ∙ omega arith

pub big_last : (j n v : ℕ) → drop j (big (j + n) v) ≡ big n v
unfolding big
big_last zero n v = ap (λ (k : ℕ). big k v) (zero-add n)
big_last (suc j) n v = rw (suc-add j n) (big_last j n v)

-- one number more
pub bigs_more : (n : ℕ) (l : List ℕ) (v : ℕ) → bigs n (l ++ v ∷ []) ≡ bigs n l ++ big n v
unfolding bigs
bigs_more n [] v = append-nil (big n v)
bigs_more n (x ∷ l) v = rw (bigs_more n l v) (sym (append_assoc (big n x) (bigs n l) (big n v)))

pub numbers_more : (n count : ℕ) (b : List ℕ) (at : ℕ) → numbers_at n (suc count) b at ≡ numbers_at n count b at ++ number_at n b (at + n * count) ∷ []
unfolding numbers_at
numbers_more n zero b at = ap (λ (k : ℕ). number_at n b k ∷ []) (omega arith)
numbers_more n (suc count) b at =
    let p : at + n + n * count ≡ at + n * suc count = omega arith in
    ap (λ (l : List ℕ). number_at n b at ∷ l) (numbers_more n count b (at + n) ∙ ap (λ (k : ℕ). numbers_at n count b (at + n) ++ number_at n b k ∷ []) p)

-- byte j of number k
pub bigs_at : (n : ℕ) (f : List ℕ) (k j : ℕ) → k < length f → j < n → get_or (bigs n f) (n * k + j) 0 ≡ get_or (big n (get_or f k 0)) j 0
unfolding bigs
bigs_at n [] k j h l = absurd (omega arith)
bigs_at n (v ∷ rest) zero j h l =
    ap (λ (i : ℕ). get_or (big n v ++ bigs n rest) i 0) (omega arith)
    ∙ get_or-append (big n v) (bigs n rest) 0 j (omega (arith, big_length n v))
bigs_at n (v ∷ rest) (suc k) j h l =
    let p : n * suc k + j ≡ length (big n v) + (n * k + j) = omega (arith, big_length n v) in
    ap (λ (i : ℕ). get_or (big n v ++ bigs n rest) i 0) p
    ∙ get_or-append-add (big n v) (bigs n rest) (n * k + j) 0
    ∙ bigs_at n rest k j (le_of_suc-le-suc h) l

pub numbers_length : (n count : ℕ) (b : List ℕ) (at : ℕ) → length (numbers_at n count b at) ≡ count
unfolding numbers_at
numbers_length n zero b at = refl
numbers_length n (suc count) b at = ap suc (numbers_length n count b (at + n))

pub numbers_at_lem : (n count : ℕ) (b : List ℕ) (at k : ℕ) → k < count → get_or (numbers_at n count b at) k 0 ≡ number_at n b (at + n * k)
unfolding numbers_at
numbers_at_lem n zero b at k h = absurd (omega arith)
numbers_at_lem n (suc count) b at zero h = ap (number_at n b) (omega arith)
numbers_at_lem n (suc count) b at (suc k) h =
    numbers_at_lem n count b (at + n) k (le_of_suc-le-suc h) ∙ ap (number_at n b) (omega arith)

-- ---- THE BYTES OF A NUMBER SPELL IT

-- one byte more
spell : (v i acc : ℕ) → acc ≡ v / 256 ^ suc i → acc * 256 + byte_of v i ≡ v / 256 ^ i
spell v i acc e =
    ap (λ (a : ℕ). a * 256 + byte_of v i)
    (e ∙ ap (λ (p : ℕ). v / p) (pow-suc 256 i) ∙ sym (div-div-eq-div-mul v (256 ^ i) 256))
    ∙ div-add-mod' (v / 256 ^ i) 256

-- bytes j, .., n - 1 of b are those of v
module _ (b : List ℕ) (at n v : ℕ) (here : (k : ℕ) → k < n → get_or b (at + k) 0 ≡ get_or (big n v) k 0) (fits : v < 256 ^ n) where
  -- the first j bytes spell v without its last i
  first_bytes : (j i : ℕ) → j + i ≡ n → number_at j b at ≡ v / 256 ^ i
  unfolding number_at
  first_bytes zero i e = let p : n ≡ i = omega arith in sym (div-eq_of_lt (rw p at fits))
  first_bytes (suc j) i e =
      let p : n - 1 - j ≡ i = omega arith in
      ap (λ (a : ℕ). number_at j b at * 256 + a) (here j (omega arith) ∙ big_at n v j (omega arith) ∙ ap (byte_of v) p)
      ∙ spell v i (number_at j b at) (first_bytes j (suc i) (omega arith))

  pub spelled : number_at n b at ≡ v
  spelled = first_bytes n 0 (omega arith) ∙ div-one v

-- ---- AND BYTES ARE THOSE OF THE NUMBER that they spell

module _ (b : List ℕ) (at : ℕ) (bytes : Bytes b) where
  shorter : (n : ℕ) → number_at (suc n) b at / 256 ≡ number_at n b at
  unfolding number_at
  shorter n = digits_div (number_at n b at) (bytes.byte (at + n))

  last : (n : ℕ) → number_at (suc n) b at % 256 ≡ get_or b (at + n) 0
  unfolding number_at
  last n = digits_mod (number_at n b at) (bytes.byte (at + n))

  -- without the last j bytes
  without : (n j : ℕ) → number_at (n + j) b at / 256 ^ j ≡ number_at n b at
  without n zero = ap (λ (k : ℕ). number_at k b at / 1) (omega arith) ∙ div-one _
  without n (suc j) =
      let p : n + suc j ≡ suc (n + j) = omega arith in
      rw (
        p,
        pow-suc 256 j,
        mul_comm (256 ^ j) 256,
        ← div-div-eq-div-mul (number_at (suc (n + j)) b at) 256 (256 ^ j),
        shorter (n + j),
      )
      (without n j)

  byte_at : (k j : ℕ) → byte_of (number_at (suc k + j) b at) j ≡ get_or b (at + k) 0
  byte_at k j = ap (λ (a : ℕ). a % 256) (without (suc k) j) ∙ last k

  pub bytes_of : (n k : ℕ) → k < n → get_or (big n (number_at n b at)) k 0 ≡ get_or b (at + k) 0
  bytes_of n k h =
      let p : suc k + (n - 1 - k) ≡ n = omega arith in
      big_at n (number_at n b at) k h ∙ rw p at (byte_at k (n - 1 - k))

  -- and n bytes spell a number below 256 ^ n
  pub below : (n : ℕ) → number_at n b at < 256 ^ n
  unfolding number_at
  below zero = omega arith
  below (suc n) = rw (pow-suc 256 n) (omega (arith, below n, bytes.byte (at + n)))

-- ---- THE NUMBERS OF WRITTEN BYTES

pub number_of_lem : (n v : ℕ) → v < 256 ^ n → number_at n (big n v) 0 ≡ v
number_of_lem n v h = spelled (big n v) 0 n v (λ k l. ap (λ (j : ℕ). get_or (big n v) j 0) (zero-add k)) h

-- behind other bytes
pub numbers_of : (n : ℕ) (l f : List ℕ) → ((k : ℕ) → get_or f k 0 < 256 ^ n) → numbers_at n (length f) (l ++ bigs n f) (length l) ≡ f
numbers_of n l f fits =
    ext_get_or 0 (numbers_at n (length f) b (length l)) f (numbers_length n (length f) b (length l))
    (λ k h. let m : k < length f = omega (arith, numbers_length n (length f) b (length l)) in
    numbers_at_lem n (length f) b (length l) k m ∙ spelled b (length l + n * k) n (get_or f k 0) (here k m) (fits k))
  where
    b : List ℕ
    b = l ++ bigs n f

    here : (k : ℕ) → k < length f → (j : ℕ) → j < n → get_or b (length l + n * k + j) 0 ≡ get_or (big n (get_or f k 0)) j 0
    here k m j h =
        let p : length l + n * k + j ≡ length l + (n * k + j) = omega arith in
        ap (λ (i : ℕ). get_or b i 0) p ∙ get_or-append-add l (bigs n f) (n * k + j) 0 ∙ bigs_at n f k j m h

-- ---- a number that is there whole

pub part_of : (n : ℕ) (b : List ℕ) (at : ℕ) → at + n ≤ length b → part_at n b at ≡ number_at n b at
unfolding part_at
part_of n b at h = rw (le-ltb (length b) (at + n) h)

-- ---- a part of the bytes, as a slice of its own

in_part : (b : List ℕ) (from to at n : ℕ) → from + at + n ≤ to → number_at n (slice_range b from to) at ≡ number_at n b (from + at)
unfolding number_at
in_part b from to at zero h = refl
in_part b from to at (suc n) h =
    ap₂ (λ (a x : ℕ). a * 256 + x) (in_part b from to at n (omega arith))
    (get_or-between b from to (at + n) 0 (omega arith) ∙ ap (λ (k : ℕ). get_or b k 0) (omega arith))

pub numbers_in_part : (b : List ℕ) (from to n count at : ℕ) → from + at + n * count ≤ to → numbers_at n count (slice_range b from to) at ≡ numbers_at n count b (from + at)
unfolding numbers_at
numbers_in_part b from to n zero at h = refl
numbers_in_part b from to n (suc count) at h =
    let p : from + at + n ≤ to = omega arith in
    let q : from + (at + n) + n * count ≤ to = omega arith in
    let r : from + (at + n) ≡ from + at + n = omega arith in
    ap₂ (λ (v : ℕ) (l : List ℕ). v ∷ l) (in_part b from to at n p)
    (numbers_in_part b from to n count (at + n) q ∙ ap (numbers_at n count b) r)

pub number_in_part : (b : List ℕ) (from n : ℕ) → from + n ≤ length b → number_at (length (slice_range b from (from + n))) (slice_range b from (from + n)) 0 ≡ number_at n b from
number_in_part b from n h =
    let size : length (slice_range b from (from + n)) ≡ n = length-between b from (from + n) h ∙ omega arith in
    ap (λ (k : ℕ). number_at k (slice_range b from (from + n)) 0) size ∙ in_part b from (from + n) 0 n (omega arith) ∙ ap (number_at n b) (omega arith)

-- what a slice's `get` gives, read
pub part_got : (b : List ℕ) (n at v : ℕ) (r : Option (Bor (List ℕ))) → IsGetRangeResult b at (at + n) r
    → MatchOption r (v ≡ 0) (λ x. v ≡ number_at (length x.now) x.now 0) → v ≡ part_at n b at
unfolding part_at
part_got b n at v None got is =
    is ∙ rw (lt-ltb (length b) (at + n) (short got.0)) refl
  where
    short : (at + n < at) ⊎ (length b < at + n) → length b < at + n
    short (inl h) = absurd (omega arith)
    short (inr h) = h
part_got b n at v (Some x) got is =
    let inside : at + n ≤ length b = got.0.1 in
    is
    ∙ ap (λ (l : List ℕ). number_at (length l) l 0) got.0.2
    ∙ number_in_part b at n inside
    ∙ rw (le-ltb (length b) (at + n) inside) refl

-- ---- what the code computes with

-- a shift by 8·j divides by 256 ^ j
pub shifted : (j : ℕ) → 2 ^ (8 * j) ≡ 256 ^ j
shifted zero = refl
shifted (suc j) =
    let p : 8 * suc j ≡ 8 * j + 8 = omega arith in
    ap (λ (k : ℕ). 2 ^ k) p ∙ pow-add 2 (8 * j) 8 ∙ ap (λ (a : ℕ). a * 256) (shifted j) ∙ sym (pow-suc 256 j)

-- std's bytes of a number are its bytes here
bytes_is_big : (n v : ℕ) → bytes_high_first n v ≡ big n v
unfolding big
bytes_is_big zero v = refl
bytes_is_big (suc zero) v = ap (λ (a : ℕ). a % 256 ∷ []) (sym (div-one v))
bytes_is_big (suc (suc n)) v = ap (λ (l : List ℕ). byte_of v (suc n) ∷ l) (bytes_is_big (suc n) v)

pub last_bytes : (n v : ℕ) → n ≤ 8 → slice_range (to_be_bytes w64 v) (8 - n) 8 ≡ big n v
last_bytes n v h =
    let p : 8 ≡ 8 - n + n = omega arith in
    let q : drop (8 - n) (big 8 v) ≡ big n v = ap (λ (k : ℕ). drop (8 - n) (big k v)) p ∙ big_last (8 - n) n v in
    ap (λ (l : List ℕ). take (8 - (8 - n)) (drop (8 - n) l)) (bytes_is_big 8 v)
    ∙ ap (take (8 - (8 - n))) q
    ∙ take_all (8 - (8 - n)) (big n v) (omega (arith, big_length n v))

-- one more of the numbers that are read, by the code `f[k] = number_of(&b[8 * k..8 * k + 8])`
pub read_more : (f b : List ℕ) (k v : ℕ) → k < length f → 8 * k + 8 ≤ length b → take k f ≡ numbers_at 8 k b 0
    → v ≡ number_at (length (slice_range b (8 * k) (8 * k + 8))) (slice_range b (8 * k) (8 * k + 8)) 0
    → take (k + 1) (set f k v) ≡ numbers_at 8 (k + 1) b 0
read_more f b k v h long before is =
    take-set_at f k (k + 1) v refl h
    ∙ ap₂ (λ (l : List ℕ) (x : ℕ). l ++ x ∷ []) before (is ∙ number_in_part b (8 * k) 8 long ∙ ap (number_at 8 b) (sym (zero-add (8 * k))))
    ∙ sym (numbers_more 8 k b 0)
    ∙ ap (λ (n : ℕ). numbers_at 8 n b 0) (sym (add-one k))

-- and of those that are written, by the code `put_number(f[k], &mut b[8 * k..8 * k + 8])`
pub write_more : (f b g : List ℕ) (k v : ℕ) → k < length f → 8 * k + 8 ≤ length b → take (8 * k) b ≡ bigs 8 (take k f)
    → g ≡ big (length (slice_range b (8 * k) (8 * k + 8))) (get_or f k 0) → take (8 * (k + 1)) (put_mid (8 * k) v b g) ≡ bigs 8 (take (k + 1) f)
write_more f b g k v h long before is =
    let eight : length (slice_range b (8 * k) (8 * k + 8)) ≡ 8 = length-between b (8 * k) (8 * k + 8) long ∙ omega arith in
    let written : g ≡ big 8 (get_or f k 0) = is ∙ ap (λ (j : ℕ). big j (get_or f k 0)) eight in
    let size : length g ≡ 8 = ap length written ∙ big_length 8 (get_or f k 0) in
    take-put_mid (8 * k) v b g (8 * (k + 1)) (omega arith) (omega arith)
    ∙ ap₂ (λ (l m : List ℕ). l ++ m) before written
    ∙ sym (bigs_more 8 (take k f) (get_or f k 0))
    ∙ ap (bigs 8) (sym ((take_at_read f k 0 h).1))

-- k bytes read: the number that they spell, which leaves room for one more
pub record Spelled (b : List ℕ) (at v k : ℕ) : Type 0 where
  pub is : v ≡ number_at k b at
  pub small : v < 256 ^ k

pub spelled_none : (b : List ℕ) (at : ℕ) → Spelled b at 0 0
unfolding number_at
spelled_none b at = record { is = refl; small = omega arith }

pub spelled_more : (b : List ℕ) (at v k x : ℕ) → Spelled b at v k → x ≡ get_or b (at + k) 0 → x < 256 → Spelled b at (v * 256 + x) (k + 1)
unfolding number_at
spelled_more b at v k x s e l = record {
  is = rw (add-one k) (ap₂ (λ (a c : ℕ). a * 256 + c) s.is e);
  small = rw (add-one k, pow-suc 256 k) (omega (arith, s.small));
}

-- one byte more than k < 8 fits 64 bits
pub fits_more : (k v a : ℕ) → k < 8 → v < 256 ^ k → a < 256 → v * 256 + a < 2 ^ 64
fits_more k v a h p q =
    let few : 8 * k ≤ 56 = omega arith in
    let most : 2 ^ (8 * k) ≤ 2 ^ 56 = pow_mono few in omega (arith, most, rw (← shifted k) at p, q)
