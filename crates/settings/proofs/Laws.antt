-- What the tests tell where they do not hold, and so what is known of a call that is not refused.
use mathlib.Core.Path.{ap, ◌≡◌, refl, sym}
use mathlib.Core.Bool.{not, Bool, true, false, cond, ◌||◌}
use mathlib.Core.List.{List, [], ◌∷◌}
use Prim.Native.Nat.{ℕ, zero, suc, ◌+◌, ◌-◌, ◌*◌, ◌≤◌, ◌<◌}
use native.Mathlib.Nat.{mul-le-mul}
use native.Mathlib.Omega.{arith}
use lib.Dec.{eqb, T, leb, ltb}
use lib.Ieee.{is_nan}
use borrow.Author.Tests.{eq-eqb, ltb-false, leb-false, eqb-true, not-false}
use Rattle.grid.specs.Grid.{Grid, most_side, most_cells}
use Rattle.settings.specs.declared.Head.{Head}
use Rattle.settings.specs.declared.Settings.{Settings}
use Rattle.settings.specs.Tests.{side_bad, sides_bad, length_bad, bytes_bad, rates_bad, floor_bad, force_bad, faces_bad, steps_bad, most_steps, place_bad, direction_bad, outside, falls, driven, lossy, count_bad, size_bad, tally_count_bad, sums_bad}
use Rattle.settings.specs.Refusals.{Test, row, first, Call, tests, refusal, sides, lengths, rates, floor, force, faces, kinds, losses, tolerance, steps, place, direction, places, ascent, bytes, short, version, cut, stored, counted, lent, tally_counted, sums, sized}

-- ---- what a test tells

pub record Sized (s : Settings) (per len : ℕ) : Type 0 where
  pub size : len ≡ per * (s.nx * s.ny)

pub record Inside (s : Settings) (x y : ℕ) : Type 0 where
  pub column : x < s.nx
  pub row : y < s.ny

-- a file of the length that its sides ask for, which its count tells
pub record Counted (h : Head) : Type 0 where
  pub count : h.count ≡ 9 + 72 * (h.nx * h.ny)
  pub size : h.length ≡ 13 + 72 * (h.nx * h.ny)

-- the same of a tally's file
pub record TallyCounted (length count : ℕ) : Type 0 where
  pub count_is : count ≡ 81
  pub size : length ≡ 85

pub or_left : (a b : Bool) → a || b ≡ false → a ≡ false
or_left false b e = refl
or_left true b e = e

pub or_right : (a b : Bool) → a || b ≡ false → b ≡ false
or_right false b e = e
or_right true false e = refl
or_right true true e = e

-- two tests that fail together are one
pub same_test : (a b : Bool) → (a ≡ false → b ≡ false) → (b ≡ false → a ≡ false) → a ≡ b
same_test false b f g = sym (f refl)
same_test true false f g = g refl
same_test true true f g = refl

side_some : (n : ℕ) → side_bad n ≡ false → 1 ≤ n
side_some n e = ltb-false n 1 (or_left (ltb n 1) (ltb most_side n) e)

pub side_most : (n : ℕ) → side_bad n ≡ false → n ≤ most_side
side_most n e = ltb-false most_side n (or_right (ltb n 1) (ltb most_side n) e)

pub sides_ok : (nx ny : ℕ) → sides_bad nx ny ≡ false → Grid nx ny
unfolding sides_bad
sides_ok nx ny e =
    let both = or_left (side_bad nx || side_bad ny) (ltb most_cells (nx * ny)) e in
    let x = or_left (side_bad nx) (side_bad ny) both in
    let y = or_right (side_bad nx) (side_bad ny) both in
    record {
      x_some = side_some nx x;
      x_most = side_most nx x;
      y_some = side_some ny y;
      y_most = side_most ny y;
      few = ltb-false most_cells (nx * ny) (or_right (side_bad nx || side_bad ny) (ltb most_cells (nx * ny)) e);
    }

-- so their product is far from wrapping
pub sides_fit : (nx ny : ℕ) → side_bad nx || side_bad ny ≡ false → nx * ny ≤ most_side * most_side
sides_fit nx ny e =
    mul-le-mul (side_most nx (or_left (side_bad nx) (side_bad ny) e)) (side_most ny (or_right (side_bad nx) (side_bad ny) e))

pub length_ok : (nx ny per len : ℕ) → length_bad nx ny per len ≡ false → len ≡ per * (nx * ny)
unfolding length_bad
length_ok nx ny per len e = eqb-true len (per * (nx * ny)) (not-false _ e)

-- what is left behind the head is of the cells' length exactly where the whole is
pub behind : (head cells len : ℕ) → head ≤ len → not (eqb (len - head) cells) ≡ not (eqb len (head + cells))
behind head cells len h =
    same_test (not (eqb (len - head) cells)) (not (eqb len (head + cells)))
    (λ e. let p = eqb-true (len - head) cells (not-false _ e) in ap not (eq-eqb len (head + cells) (omega arith)))
    (λ e. let p = eqb-true len (head + cells) (not-false _ e) in ap not (eq-eqb (len - head) cells (omega arith)))

pub bytes_ok : (nx ny head len : ℕ) → bytes_bad nx ny head len ≡ false → len ≡ head + 72 * (nx * ny)
unfolding bytes_bad
bytes_ok nx ny head len e = eqb-true len (head + 72 * (nx * ny)) (not-false _ e)

count_ok : (h : Head) → count_bad h ≡ false → Counted h
unfolding count_bad
count_ok h e =
    let counts = bytes_bad h.nx h.ny 9 h.count in
    let fits = bytes_bad h.nx h.ny 13 h.length in
    record {
      count = bytes_ok h.nx h.ny 9 h.count (or_left counts fits e);
      size = bytes_ok h.nx h.ny 13 h.length (or_right counts fits e);
    }

pub size_ok : (size len : ℕ) → size_bad size len ≡ false → len ≡ size
unfolding size_bad
size_ok size len e = eqb-true len size (not-false _ e)

tally_count_ok : (length count : ℕ) → tally_count_bad length count ≡ false → TallyCounted length count
unfolding tally_count_bad
tally_count_ok length count e = record {
  count_is = size_ok 81 count (or_left (size_bad 81 count) (size_bad 85 length) e);
  size = size_ok 85 length (or_right (size_bad 81 count) (size_bad 85 length) e);
}

pub steps_ok : (n : ℕ) → steps_bad n ≡ false → n ≤ most_steps
steps_ok n e = ltb-false most_steps n e

pub place_ok : (s : Settings) (x y : ℕ) → place_bad s.nx s.ny x y ≡ false → Inside s x y
place_ok s x y e = record {
  column = leb-false s.nx x (or_left (leb s.nx x) (leb s.ny y) e);
  row = leb-false s.ny y (or_right (leb s.nx x) (leb s.ny y) e);
}

pub direction_ok : (i : ℕ) → direction_bad i ≡ false → i < 9
direction_ok i e = leb-false 9 i e

-- ---- the tests of a call

abbrev pub Tells : Test → Type 0
Tells (sides s) = Grid s.nx s.ny
Tells (lengths s per len) = Sized s per len
Tells (rates s) = rates_bad s ≡ false
Tells (floor s) = floor_bad s ≡ false
Tells (force s) = force_bad s ≡ false
Tells (faces s) = faces_bad s ≡ false
Tells (place s x y) = Inside s x y
Tells (direction i) = i < 9
Tells (places s list) = outside s.nx s.ny list ≡ false
Tells (ascent s list) = falls s.nx list ≡ false
Tells (kinds s) = driven s ≡ false
Tells (losses s) = lossy s ≡ false
Tells (tolerance t) = is_nan t ≡ false
Tells (steps n) = n ≤ most_steps
Tells (bytes s len) = len ≡ 13 + 72 * (s.nx * s.ny)
Tells (short length) = 5 ≤ length
Tells (version v) = v ≡ 1
Tells (cut h) = 9 ≤ h.length
Tells (stored h) = Grid h.nx h.ny
Tells (counted h) = Counted h
Tells (lent h per len) = len ≡ per * (h.nx * h.ny)
Tells (tally_counted length count) = TallyCounted length count
Tells (sums t) = sums_bad t ≡ false
Tells (sized size len) = len ≡ size

tells : (t : Test) → (row t).bad ≡ false → Tells t
tells (sides s) e = sides_ok s.nx s.ny e
tells (lengths s per len) e = record { size = length_ok s.nx s.ny per len e }
tells (rates s) e = e
tells (floor s) e = e
tells (force s) e = e
tells (faces s) e = e
tells (place s x y) e = place_ok s x y e
tells (direction i) e = direction_ok i e
tells (places s list) e = e
tells (ascent s list) e = e
tells (kinds s) e = e
tells (losses s) e = e
tells (tolerance t) e = e
tells (steps n) e = steps_ok n e
tells (bytes s len) e = bytes_ok s.nx s.ny 13 len e
tells (short length) e = ltb-false length 5 e
tells (version v) e = eqb-true v 1 (not-false _ e)
tells (cut h) e = ltb-false h.length 9 e
tells (stored h) e = sides_ok h.nx h.ny e
tells (counted h) e = count_ok h e
tells (lent h per len) e = length_ok h.nx h.ny per len e
tells (tally_counted length count) e = tally_count_ok length count e
tells (sums t) e = e
tells (sized size len) e = size_ok size len e

-- ---- what a call that is not refused tells

-- the number is 0, so the test does not hold, and the later ones give 0
pub none : (bad : Bool) (number later : ℕ) → T (ltb 0 number) → cond bad number later ≡ 0 → (bad ≡ false) × (later ≡ 0)
none true zero later h e = absurd h
none true (suc n) later h e = absurd (omega (arith, e))
none false number later h e = (refl, e)

pub positive : (t : Test) → T (ltb 0 (row t).number)
positive (sides s) = tt
positive (lengths s per len) = tt
positive (rates s) = tt
positive (floor s) = tt
positive (force s) = tt
positive (faces s) = tt
positive (place s x y) = tt
positive (direction i) = tt
positive (places s list) = tt
positive (ascent s list) = tt
positive (kinds s) = tt
positive (losses s) = tt
positive (tolerance t) = tt
positive (steps n) = tt
positive (bytes s len) = tt
positive (short length) = tt
positive (version v) = tt
positive (cut h) = tt
positive (stored h) = tt
positive (counted h) = tt
positive (lent h per len) = tt
positive (tally_counted length count) = tt
positive (sums t) = tt
positive (sized size len) = tt

-- each test of the list tells its own
abbrev pub All : List Test → Type 0
All [] = Unit {0}
All (t ∷ rest) = Tells t × All rest

passed : (ts : List Test) → first ts 0 ≡ 0 → All ts
passed [] e = tt
passed (t ∷ rest) e =
    let q = none (row t).bad (row t).number (first rest 0) (positive t) e in (tells t q.0, passed rest q.1)

pub known : (c : Call) → refusal c ≡ 0 → All (tests c)
known c e = passed (tests c) e
