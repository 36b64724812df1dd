-- The fewest decimal digits that hold a number are the number in decimal, which reads back as the number and has no zero in front.
use mathlib.Core.Path.{◌≡◌, refl, ap}
use mathlib.Core.List.{List, [], ◌∷◌, ◌++◌}
use Prim.Native.Nat.{ℕ, zero, suc, ◌+◌, ◌-◌, ◌*◌, ◌/◌, ◌%◌, ◌^◌, ◌≤◌, ◌<◌}
use native.Mathlib.Nat.{pow-suc, mod-lt, mod-eq_of_lt}
use native.Mathlib.Numerals.{sub-one}
use native.Mathlib.Decide.{dec_le}
use native.Mathlib.Omega.{arith}
use lib.ListN.{length, get_or, length-append, get_or-append}
use borrow.Author.Tests.{lt-ltb, le-ltb}
use Rattle.io.specs.Digits.{hex_digit_ascii, last_digits, IsDigitCount}
use Rattle.line.specs.Text.{digit, decimal_in, decimal}
use Rattle.line.specs.Line.{most_digits, number_after, decimal_of}

-- k digits hold what has k digits
below_power : (k : ℕ) → k < 10 ^ k
below_power zero = omega arith
below_power (suc k) = rw (pow-suc 10 k) (omega (arith, below_power k))

last_digit : (n : ℕ) → hex_digit_ascii (n % 10) ≡ digit (n % 10)
last_digit n = let ten : 0 < 10 = omega arith in rw (lt-ltb (n % 10) 10 (mod-lt n ten))

-- k digits and one more, where no fewer hold n
fewest : (most k n : ℕ) → k < most → n < 10 ^ suc k → (0 < k → 10 ^ k ≤ n) → last_digits 10 (suc k) n ≡ decimal_in most n
unfolding decimal_in
fewest zero k n l h b = absurd (omega arith)
fewest (suc most) zero n l h b =
    let one : n < 10 = h in
    rw (last_digit n, lt-ltb n 10 one, mod-eq_of_lt one)
fewest (suc most) (suc k) n l h b =
    let high : n < 10 ^ suc k * 10 = rw (← pow-suc 10 (suc k)) h in
    let low : 10 ^ k * 10 ≤ n = rw (← pow-suc 10 k) (b (omega arith)) in
    let more : 10 ≤ n = omega (arith, below_power k) in
    rw (last_digit n, le-ltb n 10 more) (ap (λ (ds : List ℕ). ds ++ digit (n % 10) ∷ []) (fewest most k (n / 10) (omega arith) (omega arith) (λ _. omega arith)))

enough : (k n : ℕ) → (0 < k → 10 ^ k ≤ n) → k < suc n
enough zero n b = omega arith
enough (suc k) n b = omega (arith, b (omega arith), below_power (suc k))

pub fewest_decimal : (n k : ℕ) → IsDigitCount 10 1 n k → last_digits 10 k n ≡ decimal n
fewest_decimal n zero f = absurd (omega (arith, f.0))
fewest_decimal n (suc k) f =
    let low : 0 < k → 10 ^ k ≤ n = λ p. rw sub-one at (f.2 (omega arith)) in
    fewest (suc n) k n (enough k n low) f.1 low

two_digits : (k n : ℕ) → 10 ≤ n → n < 10 ^ k * 10 → 1 ≤ k
two_digits zero n l h = absurd (omega arith)
two_digits (suc k) n l h = omega arith

-- a number below 10 ^ k has at most k digits
few_digits : (most k n : ℕ) → n < 10 ^ k → 1 ≤ k → length (decimal_in most n) ≤ k
unfolding decimal_in
few_digits zero k n h s = omega arith
few_digits (suc most) zero n h s = absurd (omega arith)
few_digits (suc most) (suc k) n h s = go (dec_le 10 n) (few_digits most k (n / 10))
  where
    high : n < 10 ^ k * 10
    high = rw (← pow-suc 10 k) h

    go : Dec (10 ≤ n) → (n / 10 < 10 ^ k → 1 ≤ k → length (decimal_in most (n / 10)) ≤ k) → length (decimal_in (suc most) n) ≤ suc k
    go (yes l) more =
        rw (le-ltb n 10 l)
        (omega (arith, length-append (decimal_in most (n / 10)) (digit (n % 10) ∷ []), more (omega (arith, high)) (two_digits k n l high)))
    go (no few) more = rw (lt-ltb n 10 (omega arith)) (omega arith)

-- a number that a side can say is as short as a side
pub side_digits : (n : ℕ) → n < 10 ^ most_digits → length (decimal n) ≤ most_digits
side_digits n h = few_digits (suc n) most_digits n h (omega arith)

-- ---- it reads back, and has no zero in front

number_last : (bs : List ℕ) (n d : ℕ) → number_after n (bs ++ d ∷ []) ≡ number_after n bs * 10 + (d - 48)
unfolding number_after
number_last [] n d = refl
number_last (b ∷ rest) n d = number_last rest (n * 10 + (b - 48)) d

back : (most n : ℕ) → n < most → decimal_of (decimal_in most n) ≡ n
unfolding decimal_in number_after
back zero n h = absurd (omega arith)
back (suc most) n h = go (dec_le 10 n) (back most (n / 10))
  where
    go : Dec (10 ≤ n) → (n / 10 < most → decimal_of (decimal_in most (n / 10)) ≡ n / 10) → decimal_of (decimal_in (suc most) n) ≡ n
    go (yes l) more = rw (le-ltb n 10 l, number_last, more (omega arith)) (omega arith)
    go (no few) more = rw (lt-ltb n 10 (omega arith)) (omega arith)

front : (most n : ℕ) → n < most → (1 ≤ length (decimal_in most n)) × (1 ≤ n → 49 ≤ get_or (decimal_in most n) 0 0)
unfolding decimal_in
front zero n h = absurd (omega arith)
front (suc most) n h = go (dec_le 10 n) (front most (n / 10))
  where
    go : Dec (10 ≤ n) → (n / 10 < most → (1 ≤ length (decimal_in most (n / 10))) × (1 ≤ n / 10 → 49 ≤ get_or (decimal_in most (n / 10)) 0 0))
        → (1 ≤ length (decimal_in (suc most) n)) × (1 ≤ n → 49 ≤ get_or (decimal_in (suc most) n) 0 0)
    go (yes l) more =
        let m = more (omega arith) in
        let ds = decimal_in most (n / 10) in
        let last = digit (n % 10) ∷ [] in
        rw (le-ltb n 10 l) (omega (arith, length-append ds last), λ _. rw (get_or-append ds last 0 0 m.0) (m.1 (omega arith)))
    go (no few) more = rw (lt-ltb n 10 (omega arith)) (omega arith, λ some. omega arith)

pub reads_back : (n : ℕ) → decimal_of (decimal n) ≡ n
reads_back n = back (suc n) n (omega arith)

-- only 0 begins with a zero
pub no_zero : (n : ℕ) → 1 ≤ n → 49 ≤ get_or (decimal n) 0 0
no_zero n h = (front (suc n) n (omega arith)).1 h
