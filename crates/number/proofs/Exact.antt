-- A value that the format holds comes back from `round` as it is, and so from a product with 1.
-- Two values of one sign that fit and are the same number have the same bits, so they are one.
use mathlib.Core.Path.{◌≡◌, refl, sym, ap, ◌∙◌, subst}
use mathlib.Core.Bool.{Bool, true, false, cond, ◌&&◌}
use Prim.Native.Nat.{ℕ, zero, suc, ◌+◌, ◌-◌, ◌*◌, ◌/◌, ◌%◌, ◌^◌, ◌≤◌, ◌<◌}
use native.Mathlib.Nat.{le_trans, le_of_eq, not-le_of_lt, mul-one, one-mul, zero-mul, mul_comm, mul_assoc, mul_right_comm, mul-le-mul_right, mul-lt-mul_of_pos_right, lt_of_mul-lt-mul_right, mul-pos}
use native.Mathlib.Omega.{arith}
use lib.Dec.{T, eqb, ltb, leb, eqb→eq, ltb→lt, leb→le}
use lib.IntN.{ℤ, pos, negsuc}
use lib.Pow.{pow-add, pow_pos, pow-lt}
use lib.Ieee.{Float, nan, inf, fin, Format, binary64, prec, emax, low, up, down, size, round, mul, fits, of_bits, to_bits, hid, top}
use lib.Ieee.Bits.{of_bits-to_bits}
use lib.Ieee.Digits.{back}
use lib.Ieee.Fits.{and_l, and_r, up_pos, down_pos, round-fits, mul-fits}
use lib.Ieee.Exact.{HasValue, round_exact}
use lib.Ieee.Nearest.{div_same}
use Rattle.number.specs.Number.{c1, ◌⊗◌}

-- ---- one number, one value

same_bits : (f : Format) (s : Bool) (m : ℕ) (e : ℤ) (n : ℕ) (d : ℤ) → m * up e * down d ≡ n * up d * down e → to_bits f (fin s m e) ≡ to_bits f (fin s n d)
unfolding to_bits
same_bits f s m e n d h =
    ap (λ (x : ℕ). cond s (top f) 0 + (size x - prec f) * hid f + x / 2 ^ (size x - prec f))
    (div_same (m * up e * 2 ^ low f) (down e) (n * up d * 2 ^ low f) (down d) (down_pos e) (down_pos d)
    (mul_right_comm (m * up e) (2 ^ low f) (down d) ∙ ap (λ (x : ℕ). x * 2 ^ low f) h ∙ mul_right_comm (n * up d) (down e) (2 ^ low f)))

pub same_number : (f : Format) (s : Bool) (m : ℕ) (e : ℤ) (n : ℕ) (d : ℤ) → T (fits f (fin s m e)) → T (fits f (fin s n d)) → m * up e * down d ≡ n * up d * down e → fin s m e ≡ fin s n d
same_number f s m e n d p q h = sym (of_bits-to_bits f (fin s m e) p) ∙ ap (of_bits f) (same_bits f s m e n d h) ∙ of_bits-to_bits f (fin s n d) q

has_own : (f : Format) (x : Float) (s : Bool) (m : ℕ) (e : ℤ) → T (fits f x) → T (fits f (fin s m e)) → HasValue x s (m * up e) (down e) → x ≡ fin s m e
has_own f nan s m e p q v = absurd v
has_own f (inf t) s m e p q v = absurd v
has_own f (fin t n d) s m e p q v =
    ap (λ (b : Bool). fin b n d) v.0 ∙ same_number f s n d m e (subst (λ (b : Bool). T (fits f (fin b n d))) v.0 p) q v.1

-- ---- what `fits` says

record Within (f : Format) (m : ℕ) (e : ℤ) : Type 0 where
  digits : m < 2 ^ prec f
  fine : down e ≤ 2 ^ low f
  under : m * up e < 2 ^ suc (emax f) * down e

within : (f : Format) (s : Bool) (m : ℕ) (e : ℤ) → T (fits f (fin s m e)) → Within f m e
unfolding fits
within f s zero e h = record {
  digits = pow_pos (prec f);
  fine = le_trans (le_of_eq (sym (one-mul (down e)))) (le_trans (mul-le-mul_right (down e) (up_pos e)) (le_trans (le_of_eq (eqb→eq (up e * down e) 1 h)) (pow_pos (low f))));
  under = subst (λ (x : ℕ). x < 2 ^ suc (emax f) * down e) (sym (zero-mul (up e))) (mul-pos (pow_pos (suc (emax f))) (down_pos e));
}
within f s (suc m) e h =
    let A = eqb (suc m % 2) 1 in
    let B = ltb (suc m) (2 ^ prec f) in
    let C = leb (down e) (2 ^ low f) in
    let D = ltb (suc m * up e) (2 ^ suc (emax f) * down e) in
    record {
      digits = ltb→lt (suc m) (2 ^ prec f) (and_r A B (and_l (A && B) C (and_l (A && B && C) D h)));
      fine = leb→le (down e) (2 ^ low f) (and_r (A && B) C (and_l (A && B && C) D h));
      under = ltb→lt (suc m * up e) (2 ^ suc (emax f) * down e) (and_r (A && B && C) D h);
    }

-- m * 2 ^ e is m * 2 ^ j of the format's smallest values
place : (l : ℕ) (e : ℤ) → down e ≤ 2 ^ l → (j : ℕ) × ((m : ℕ) → m * up e * 2 ^ l ≡ m * 2 ^ j * down e)
place l (pos k) h = (k + l, λ m. mul_assoc m (2 ^ k) (2 ^ l) ∙ ap (λ (x : ℕ). m * x) (sym (pow-add 2 k l)) ∙ sym (mul-one (m * 2 ^ (k + l))))
place l (negsuc k) h =
    let b : suc k ≤ l = in_reach (suc k) l h in
    (l - suc k, λ m. ap (λ (x : ℕ). x * 2 ^ l) (mul-one m) ∙ ap (λ (x : ℕ). m * x) (ap (λ (x : ℕ). 2 ^ x) (sym (back l (suc k) b)) ∙ pow-add 2 (l - suc k) (suc k)) ∙ sym (mul_assoc m (2 ^ (l - suc k)) (2 ^ suc k)))
  where
    split : (a b : ℕ) → (b < a → ⊥) → a ≤ b
    split a b n = omega arith

    in_reach : (a b : ℕ) → 2 ^ a ≤ 2 ^ b → a ≤ b
    in_reach a b p = split a b (λ q. not-le_of_lt (pow-lt q) p)

-- ---- `round` leaves it

pub round_own : (f : Format) (s : Bool) (m : ℕ) (e : ℤ) → T (fits f (fin s m e)) → round f s (m * up e) (down e) ≡ fin s m e
round_own f s m e h =
    let w = within f s m e h in
    let p = place (low f) e w.fine in
    let j = p.0 in
    let small : m * 2 ^ j * down e < 2 ^ (low f + suc (emax f)) * down e =
    subst (λ (x : ℕ). m * 2 ^ j * down e < x)
    (mul_right_comm (2 ^ suc (emax f)) (down e) (2 ^ low f) ∙ ap (λ (x : ℕ). x * down e) (mul_comm (2 ^ suc (emax f)) (2 ^ low f) ∙ sym (pow-add 2 (low f) (suc (emax f)))))
    (subst (λ (x : ℕ). x < 2 ^ suc (emax f) * down e * 2 ^ low f) (p.1 m) (mul-lt-mul_of_pos_right w.under (pow_pos (low f)))) in
    has_own f (round f s (m * up e) (down e)) s m e (round-fits f s (m * up e) (down e)) h
    (round_exact f s (m * up e) (down e) m j (down_pos e) w.digits (lt_of_mul-lt-mul_right (down e) small) (p.1 m))

-- ---- y * 1 is y

one_is : c1 ≡ fin false 1 (pos 0)
unfolding of_bits
one_is = refl

times_one : (y : Float) → T (fits binary64 y) → mul binary64 y (fin false 1 (pos 0)) ≡ y
unfolding mul
times_one nan h = refl
times_one (inf true) h = refl
times_one (inf false) h = refl
times_one (fin true m e) h = ap (λ (x : ℕ). round binary64 true x (down e * 1)) (mul-one (m * up e)) ∙ ap (round binary64 true (m * up e)) (mul-one (down e)) ∙ round_own binary64 true m e h
times_one (fin false m e) h = ap (λ (x : ℕ). round binary64 false x (down e * 1)) (mul-one (m * up e)) ∙ ap (round binary64 false (m * up e)) (mul-one (down e)) ∙ round_own binary64 false m e h

pub mul_by_one : (y : Float) → T (fits binary64 y) → y ⊗ c1 ≡ y
mul_by_one y h = ap (mul binary64 y) one_is ∙ times_one y h

-- a product times 1 is the product, whatever the factors
pub product_by_one : (a b : Float) → a ⊗ b ⊗ c1 ≡ a ⊗ b
product_by_one a b = mul_by_one (a ⊗ b) (mul-fits binary64 a b)
