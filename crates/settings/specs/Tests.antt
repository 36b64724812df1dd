-- The tests that refuse a call, in the order in which they are made: each holds exactly where its number is to be given.
-- Number 9 stands with the steady run.
use Rattle.std.specs.Prelude.{Bool, true, false, not, ◌&&◌, ◌||◌, List, [], ◌∷◌, ℕ, ◌+◌, ◌*◌, eqb, leb, ltb, get_or, Float}
use Rattle.std.specs.Bool.{xor}
use Rattle.std.specs.Float.Ieee.{is_nan, eq, lt}
use Rattle.number.specs.Number.{◌⊕◌, ◌⊖◌, ◌⊗◌, c0, c½, c1, c2, c3, not_finite}
use Rattle.lattice.specs.declared.Axis.{Axis}
use Rattle.lattice.specs.declared.Axis.TheVariants.{X, Y}
use Rattle.lattice.specs.declared.Side.{Side}
use Rattle.lattice.specs.declared.Side.TheVariants.{Min, Max}
use Rattle.lattice.specs.Sides.{normal, along}
use Rattle.cell.specs.declared.Collision.{Collision}
use Rattle.cell.specs.declared.Collision.TheVariants.{Bgk, Mrt, Trt}
use Rattle.grid.specs.Grid.{most_side, most_cells}
use Rattle.sums.specs.Sums.{sum, wrapped}
use Rattle.settings.specs.declared.Face.{Face}
use Rattle.settings.specs.declared.Face.TheVariants.{Periodic, NoSlip, MovingWall, Symmetry, Velocity, Pressure}
use Rattle.settings.specs.declared.Head.{Head}
use Rattle.settings.specs.declared.Obstacle.{Obstacle}
use Rattle.settings.specs.declared.Settings.{Settings}

-- ---- 1: a side or the cell count is outside its range

abbrev pub side_bad : ℕ → Bool
side_bad n = ltb n 1 || ltb most_side n

unfoldable pub sides_bad : ℕ → ℕ → Bool
sides_bad nx ny = side_bad nx || side_bad ny || ltb most_cells (nx * ny)

-- ---- 2: a lent buffer has the wrong length, which is not `per` entries for each cell

unfoldable pub length_bad : ℕ → ℕ → ℕ → ℕ → Bool
length_bad nx ny per len = not (eqb len (per * (nx * ny)))

-- or a file has it, which is not `head` bytes and nine entries of eight bytes for each cell
unfoldable pub bytes_bad : ℕ → ℕ → ℕ → ℕ → Bool
bytes_bad nx ny head len = not (eqb len (head + 72 * (nx * ny)))

-- or a tally or its file has it, which is not `size`, whatever the grid: ten numbers, 85 bytes
unfoldable pub size_bad : ℕ → ℕ → Bool
size_bad size len = not (eqb len size)

-- ---- 3: τ = 3.0·ν + 0.5 is not finite or below 0.5; or a Trt minus rate is not finite, below 0 or above 2

abbrev pub tau_of : Float → Float
tau_of nu = c3 ⊗ nu ⊕ c½

unfoldable pub tau_bad : Float → Bool
tau_bad tau = not_finite tau || lt tau c½

unfoldable pub rate_bad : Collision → Bool
rate_bad Bgk = false
rate_bad Mrt = false
rate_bad (Trt rate) = not_finite rate || lt rate c0 || lt c2 rate

unfoldable pub rates_bad : Settings → Bool
rates_bad s = tau_bad (tau_of s.nu) || rate_bad s.collision

-- not finite, or not above 0
unfoldable pub not_positive : Float → Bool
not_positive x = not_finite x || not (lt c0 x)

-- or the floor is not positive: a test of its own, since readings make it and test no rate
abbrev pub floor_bad : Settings → Bool
floor_bad s = not_positive s.floor

-- ---- 4: a force component is not finite

unfoldable pub force_bad : Settings → Bool
force_bad s = not_finite s.fx || not_finite s.fy

-- ---- 5: a face number is not finite; a Pressure density is not above 0; a Velocity face has 1 - un equal to 0

-- the face of an axis and side
abbrev pub face_of : Settings → Axis → Side → Face
face_of s X Min = s.x_min
face_of s X Max = s.x_max
face_of s Y Min = s.y_min
face_of s Y Max = s.y_max

-- a face's own numbers, where un is the speed along the inward normal
unfoldable pub face_bad : Axis → Side → Face → Bool
face_bad a d Periodic = false
face_bad a d NoSlip = false
face_bad a d (MovingWall u0 u1) = not_finite u0 || not_finite u1
face_bad a d Symmetry = false
face_bad a d (Velocity u0 u1) =
    let un = along u0 u1 (normal a d) in not_finite u0 || not_finite u1 || eq (c1 ⊖ un) c0
face_bad a d (Pressure density) = not_positive density

unfoldable pub faces_bad : Settings → Bool
faces_bad s =
    face_bad X Min s.x_min || face_bad X Max s.x_max || face_bad Y Min s.y_min
    || face_bad Y Max s.y_max

-- ---- 10: the tolerance is NaN, or there are more than 1,000,000 steps

abbrev pub most_steps : ℕ
most_steps = 1000000

abbrev pub tolerance_bad : Float → Bool
tolerance_bad tolerance = is_nan tolerance

abbrev pub steps_bad : ℕ → Bool
steps_bad steps = ltb most_steps steps

-- ---- 6: x, y or direction outside

abbrev pub place_bad : ℕ → ℕ → ℕ → ℕ → Bool
place_bad nx ny x y = leb nx x || leb ny y

abbrev pub direction_bad : ℕ → Bool
direction_bad i = leb 9 i

-- or the place of any obstacle of a list
unfoldable pub outside : ℕ → ℕ → List Obstacle → Bool
outside nx ny [] = false
outside nx ny (o ∷ rest) = place_bad nx ny o.x o.y || outside nx ny rest

-- ---- 16: a list of obstacles does not ascend strictly by x + y·nx

abbrev pub place_of : ℕ → Obstacle → ℕ
place_of nx o = o.x + o.y * nx

unfoldable pub falls : ℕ → List Obstacle → Bool
falls nx [] = false
falls nx (o ∷ []) = false
falls nx (o ∷ p ∷ rest) = leb (place_of nx p) (place_of nx o) || falls nx (p ∷ rest)

-- ---- 7: a face is MovingWall, Velocity or Pressure

abbrev pub drives : Face → Bool
drives Periodic = false
drives NoSlip = false
drives (MovingWall u0 u1) = true
drives Symmetry = false
drives (Velocity u0 u1) = true
drives (Pressure density) = true

unfoldable pub driven : Settings → Bool
driven s = drives s.x_min || drives s.x_max || drives s.y_min || drives s.y_max

-- ---- 8: the faces are not lossless

abbrev pub is_periodic : Face → Bool
is_periodic Periodic = true
is_periodic NoSlip = false
is_periodic (MovingWall u0 u1) = false
is_periodic Symmetry = false
is_periodic (Velocity u0 u1) = false
is_periodic (Pressure density) = false

abbrev pub is_symmetry : Face → Bool
is_symmetry Periodic = false
is_symmetry NoSlip = false
is_symmetry (MovingWall u0 u1) = false
is_symmetry Symmetry = true
is_symmetry (Velocity u0 u1) = false
is_symmetry (Pressure density) = false

-- one face of an axis is periodic and the other is not
unfoldable pub unpaired : Face → Face → Bool
unpaired a b = xor (is_periodic a) (is_periodic b)

-- an axis is unpaired; or an x face is Symmetry while y, which is paired, is not periodic and ny is at least 2
unfoldable pub lossy : Settings → Bool
lossy s =
    unpaired s.x_min s.x_max || unpaired s.y_min s.y_max
    || (is_symmetry s.x_min || is_symmetry s.x_max) && not (is_periodic s.y_min) && leb 2 s.ny

-- ---- 12: fewer than five bytes, so no version

abbrev pub short_bad : ℕ → Bool
short_bad length = ltb length 5

-- ---- 13: the version is not 1

abbrev pub version_bad : ℕ → Bool
version_bad version = not (eqb version 1)

-- ---- 14: the sides are cut short: fewer than nine bytes

abbrev pub cut_bad : Head → Bool
cut_bad h = ltb h.length 9

-- ---- 15: the count or the actual length is wrong

unfoldable pub count_bad : Head → Bool
count_bad h = bytes_bad h.nx h.ny 9 h.count || bytes_bad h.nx h.ny 13 h.length

-- of a tally's file: the count is 81, the length 85
unfoldable pub tally_count_bad : ℕ → ℕ → Bool
tally_count_bad length count = size_bad 81 count || size_bad 85 length

-- ---- 17: the nine numbers of a tally do not wrap to the first

-- the number of direction plane i in a tally
abbrev pub plane_in : List ℕ → ℕ → ℕ
plane_in t i = get_or t (i + 1) 0

unfoldable pub sums_bad : List ℕ → Bool
sums_bad t = not (eqb (wrapped (sum 9 (plane_in t))) (get_or t 0 0))
