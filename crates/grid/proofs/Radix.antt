-- Mixed radix, once: a + b·n with a < n has the digits a and b, so an entry's place is in range, says x, y and i, and each place is an entry's.
use mathlib.Core.Path.{◌≡◌, sym, ap, ◌∙◌}
use mathlib.Core.Logic.{◌⊎◌, inl, inr}
use Prim.Native.Nat.{ℕ, zero, suc, ◌+◌, ◌*◌, ◌/◌, ◌%◌, ◌≤◌, ◌<◌}
use native.Mathlib.Nat.{
  mul-le-mul_right,
  mod-lt,
  mod-eq_of_lt,
  div-eq_of_lt,
  add-mul-mod_self_right,
  add-mul-div_right,
  mod-add-div',
  div-lt_iff_lt-mul,
}
use native.Mathlib.Decide.{dec_lt}
use native.Mathlib.Omega.{arith}
use Rattle.grid.specs.Grid.{index}

-- a number is below another, or not
from_dec : (a b : ℕ) → Dec (a < b) → (a < b) ⊎ (b ≤ a)
from_dec a b (yes h) = inl h
from_dec a b (no h) = inr (omega arith)

pub lt_or_ge : (a b : ℕ) → (a < b) ⊎ (b ≤ a)
lt_or_ge a b = from_dec a b (dec_lt a b)

-- ---- two digits

pub low : (a b n : ℕ) → a < n → (a + b * n) % n ≡ a
low a b n h = add-mul-mod_self_right a b n ∙ mod-eq_of_lt h

pub high : (a b n : ℕ) → a < n → (a + b * n) / n ≡ b
high a b n h = add-mul-div_right a b (omega arith) ∙ rw (div-eq_of_lt h) (omega arith)

pub low_inj : (n a b a' b' : ℕ) → a < n → a' < n → a + b * n ≡ a' + b' * n → a ≡ a'
low_inj n a b a' b' h h' e = sym (low a b n h) ∙ ap (λ (k : ℕ). k % n) e ∙ low a' b' n h'

pub high_inj : (n a b a' b' : ℕ) → a < n → a' < n → a + b * n ≡ a' + b' * n → b ≡ b'
high_inj n a b a' b' h h' e = sym (high a b n h) ∙ ap (λ (k : ℕ). k / n) e ∙ high a' b' n h'

pub within : (a b n m : ℕ) → a < n → b < m → a + b * n < n * m
within a b n m ha hb = omega (arith, mul-le-mul_right n hb)

-- row y of m rows of n
pub row_in : (n m y : ℕ) → y < m → y * n + n ≤ n * m
row_in n m y h = omega (arith, mul-le-mul_right n h)

-- ---- the places of a buffer

-- a place says i, y and x
module _ (nx ny x y i : ℕ) (hx : x < nx) (hy : y < ny) where
  pub direction_of : index nx ny x y i / (nx * ny) ≡ i
  direction_of = high (x + y * nx) i (nx * ny) (within x y nx ny hx hy)

  pub row_of : index nx ny x y i % (nx * ny) / nx ≡ y
  row_of = rw (low (x + y * nx) i (nx * ny) (within x y nx ny hx hy)) (high x y nx hx)

  pub column_of : index nx ny x y i % (nx * ny) % nx ≡ x
  column_of = rw (low (x + y * nx) i (nx * ny) (within x y nx ny hx hy)) (low x y nx hx)

pub index_inj : (nx ny x y i x' y' i' : ℕ) → x < nx → x' < nx → y < ny → y' < ny → index nx ny x y i ≡ index nx ny x' y' i' → (x ≡ x') × (y ≡ y') × (i ≡ i')
index_inj nx ny x y i x' y' i' hx hx' hy hy' e =
    let n = nx * ny in (
      sym (column_of nx ny x y i hx hy) ∙ ap (λ (k : ℕ). k % n % nx) e ∙ column_of nx ny x' y' i' hx' hy',
      sym (row_of nx ny x y i hx hy) ∙ ap (λ (k : ℕ). k % n / nx) e ∙ row_of nx ny x' y' i' hx' hy',
      sym (direction_of nx ny x y i hx hy) ∙ ap (λ (k : ℕ). k / n) e ∙ direction_of nx ny x' y' i' hx' hy',
    )

-- entry i of cell c of n
pub cell_in : (n c i : ℕ) → c < n → i < 9 → c + i * n < 9 * n
cell_in n c i hc hi = omega (arith, within c i n 9 hc hi)

pub index_in : (nx ny x y i : ℕ) → x < nx → y < ny → i < 9 → index nx ny x y i < 9 * (nx * ny)
index_in nx ny x y i hx hy hi = cell_in (nx * ny) (x + y * nx) i (within x y nx ny hx hy) hi

-- place k is entry (x, y, i)'s
pub record Place (nx ny k x y i : ℕ) : Type 0 where
  pub column : x < nx
  pub row : y < ny
  pub direction : i < 9
  pub back : index nx ny x y i ≡ k

first_some : (a b : ℕ) → 0 < a * b → 0 < a
first_some zero b h = absurd (omega arith)
first_some (suc a) b h = omega arith

-- each place is an entry's
pub place_of_lem : (nx ny k : ℕ) → k < 9 * (nx * ny) → Place nx ny k (k % (nx * ny) % nx) (k % (nx * ny) / nx) (k / (nx * ny))
place_of_lem nx ny k h =
    let n = nx * ny in
    let pn : 0 < n = omega arith in
    let px : 0 < nx = first_some nx ny pn in
    let hr : k % n < n = mod-lt k pn in
    record {
      column = mod-lt (k % n) px;
      row = (div-lt_iff_lt-mul px).1 (omega arith);
      direction = (div-lt_iff_lt-mul pn).1 h;
      back = ap (λ (j : ℕ). j + k / n * n) (mod-add-div' (k % n) nx) ∙ mod-add-div' k n;
    }
