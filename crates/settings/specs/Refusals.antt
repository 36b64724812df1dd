-- Which operation tests what, and the number that it gives.
use Rattle.std.specs.Prelude.{Bool, true, false, cond, List, [], ◌∷◌, ℕ, eqb, Float}
use Rattle.settings.specs.Tests.{sides_bad, length_bad, bytes_bad, rates_bad, floor_bad, force_bad, faces_bad, tolerance_bad, steps_bad, place_bad, direction_bad, outside, falls, driven, lossy, short_bad, version_bad, cut_bad, count_bad, size_bad, tally_count_bad, sums_bad}
use Rattle.settings.specs.declared.Head.{Head}
use Rattle.settings.specs.declared.Obstacle.{Obstacle}
use Rattle.settings.specs.declared.Settings.{Settings}

-- ---- the tests and their numbers

pub data Test : Type 0 where
  sides : (s : Settings) → Test
  lengths : (s : Settings) (per len : ℕ) → Test
  rates floor force faces kinds losses : (s : Settings) → Test
  tolerance : (t : Float) → Test
  steps : (n : ℕ) → Test
  place : (s : Settings) (x y : ℕ) → Test
  direction : (i : ℕ) → Test
  places ascent : (s : Settings) (list : List Obstacle) → Test
  bytes : (s : Settings) (len : ℕ) → Test
  short : (length : ℕ) → Test
  version : (v : ℕ) → Test
  cut stored counted : (h : Head) → Test
  lent : (h : Head) (per len : ℕ) → Test
  tally_counted : (length count : ℕ) → Test
  sums : (t : List ℕ) → Test
  sized : (size len : ℕ) → Test

-- a number, and whether its test holds
pub record Row : Type 0 where
  pub number : ℕ
  pub bad : Bool

infix 75 ◌when◌
abbrev pub ◌when◌ : ℕ → Bool → Row
number when bad = record { number = number; bad = bad }

abbrev pub row : Test → Row
row (sides s) = 1 when sides_bad s.nx s.ny
row (lengths s per len) = 2 when length_bad s.nx s.ny per len
row (rates s) = 3 when rates_bad s
row (floor s) = 3 when floor_bad s
row (force s) = 4 when force_bad s
row (faces s) = 5 when faces_bad s
row (place s x y) = 6 when place_bad s.nx s.ny x y
row (direction i) = 6 when direction_bad i
row (places s list) = 6 when outside s.nx s.ny list
row (ascent s list) = 16 when falls s.nx list
row (kinds s) = 7 when driven s
row (losses s) = 8 when lossy s
row (tolerance t) = 10 when tolerance_bad t
row (steps n) = 10 when steps_bad n
row (bytes s len) = 2 when bytes_bad s.nx s.ny 13 len
row (short length) = 12 when short_bad length
row (version v) = 13 when version_bad v
row (cut h) = 14 when cut_bad h
row (stored h) = 1 when sides_bad h.nx h.ny
row (counted h) = 15 when count_bad h
row (lent h per len) = 2 when length_bad h.nx h.ny per len
row (tally_counted length count) = 15 when tally_count_bad length count
row (sums t) = 17 when sums_bad t
row (sized size len) = 2 when size_bad size len

-- the number of the first test that holds, and where none does, the last argument
abbrev pub first : List Test → ℕ → ℕ
first [] later = later
first (t ∷ rest) later = cond (row t).bad (row t).number (first rest later)

-- ---- the order in which the numbers are tested

-- 1, 2, 3, 4, 5, 10, 6, 16, 7, 8, and of a file 12, 13, 14, 1, 15, 17, 2: both stand in this one
abbrev pub order : List ℕ
order = 12 ∷ 13 ∷ 14 ∷ 1 ∷ 15 ∷ 17 ∷ 2 ∷ 3 ∷ 4 ∷ 5 ∷ 10 ∷ 6 ∷ 16 ∷ 7 ∷ 8 ∷ []

-- the list from its first test with another number
abbrev pub past : ℕ → List Test → List Test
past n [] = []
past n (t ∷ rest) = cond (eqb (row t).number n) (past n rest) (t ∷ rest)

-- the tests stand as their numbers do: passing one number after the other leaves no test
abbrev pub follows : List ℕ → List Test → Bool
follows [] [] = true
follows [] (t ∷ rest) = false
follows (n ∷ later) ts = follows later (past n ts)

-- ---- the operations

-- a call: its settings or the head of its file, the lengths of its lent buffers, its list of obstacles or its tally, and the
-- numbers that are tested (i a direction, n steps, t a tolerance)
pub data Call : Type 0 where
  initialize : (s : Settings) (table f : ℕ) → Call
  density : (s : Settings) (f x y : ℕ) → Call
  velocity : (s : Settings) (f x y : ℕ) → Call
  velocity_field : (s : Settings) (f u : ℕ) → Call
  total_mass : (s : Settings) (f : ℕ) → Call
  kinetic_energy : (s : Settings) (f : ℕ) → Call
  plane : (s : Settings) (f i : ℕ) → Call
  stream_with_faces : (s : Settings) (post f : ℕ) → Call
  lossless : (s : Settings) → Call
  reverse : (s : Settings) (f post : ℕ) → Call
  step : (s : Settings) (f post : ℕ) → Call
  run : (s : Settings) (n f post : ℕ) → Call
  run_to_steady_state : (s : Settings) (t : Float) (n f post u : ℕ) → Call
  set_no_slip_bc : (s : Settings) (list : List Obstacle) (f : ℕ) → Call
  write_checkpoint : (s : Settings) (f bytes : ℕ) → Call
  checkpoint_sides : (h : Head) → Call
  read_checkpoint : (h : Head) (f : ℕ) → Call
  tally : (s : Settings) (f : ℕ) → Call
  write_entry : (s : Settings) (f x y i : ℕ) → Call
  write_tally : (tally : List ℕ) (bytes : ℕ) → Call
  read_tally : (length count v : ℕ) (ten : List ℕ) (tally : ℕ) → Call

-- what it tests. Populations and post-collision populations have nine entries a cell, an initial table three, a velocity buffer two;
-- a tally has ten numbers, its file 85 bytes
abbrev pub tests : Call → List Test
tests (initialize s table f) = sides s ∷ lengths s 9 f ∷ lengths s 3 table ∷ []
tests (density s f x y) = sides s ∷ lengths s 9 f ∷ place s x y ∷ []
tests (velocity s f x y) = sides s ∷ lengths s 9 f ∷ floor s ∷ force s ∷ place s x y ∷ []
tests (velocity_field s f u) = sides s ∷ lengths s 9 f ∷ lengths s 2 u ∷ floor s ∷ force s ∷ []
tests (total_mass s f) = sides s ∷ lengths s 9 f ∷ []
tests (kinetic_energy s f) = sides s ∷ lengths s 9 f ∷ floor s ∷ force s ∷ []
tests (plane s f i) = sides s ∷ lengths s 9 f ∷ direction i ∷ []
tests (stream_with_faces s post f) = sides s ∷ lengths s 9 f ∷ lengths s 9 post ∷ faces s ∷ []
tests (lossless s) = sides s ∷ faces s ∷ kinds s ∷ []
tests (reverse s f post) = sides s ∷ lengths s 9 f ∷ lengths s 9 post ∷ faces s ∷ kinds s ∷ losses s ∷ []
tests (step s f post) = sides s ∷ lengths s 9 f ∷ lengths s 9 post ∷ rates s ∷ floor s ∷ force s ∷ faces s ∷ []
tests (run s n f post) =
    sides s ∷ lengths s 9 f ∷ lengths s 9 post ∷ rates s ∷ floor s ∷ force s ∷ faces s ∷ steps n ∷ []
tests (run_to_steady_state s t n f post u) =
    sides s ∷ lengths s 9 f ∷ lengths s 9 post ∷ lengths s 2 u ∷ rates s ∷ floor s ∷ force s ∷ faces s ∷ tolerance t
    ∷ steps n ∷ []
tests (set_no_slip_bc s list f) = sides s ∷ lengths s 9 f ∷ places s list ∷ ascent s list ∷ []
tests (write_checkpoint s f n) = sides s ∷ lengths s 9 f ∷ bytes s n ∷ []
tests (checkpoint_sides h) = short h.length ∷ version h.version ∷ cut h ∷ stored h ∷ counted h ∷ []
tests (read_checkpoint h f) =
    short h.length ∷ version h.version ∷ cut h ∷ stored h ∷ counted h ∷ lent h 9 f ∷ []
tests (tally s f) = sides s ∷ lengths s 9 f ∷ []
tests (write_entry s f x y i) = sides s ∷ lengths s 9 f ∷ place s x y ∷ direction i ∷ []
tests (write_tally t n) = sums t ∷ sized 85 n ∷ []
tests (read_tally length count v ten t) =
    short length ∷ version v ∷ tally_counted length count ∷ sums ten ∷ sized 10 t ∷ []

-- the number that refuses the call, or 0
abbrev pub refusal : Call → ℕ
refusal c = first (tests c) 0
