-- The rules of the faces, each stated once over axis and side.
use Rattle.std.specs.Prelude.{Bool, cond, ◌&&◌, List, ℕ, ◌+◌, eqb, ℤ, neg_ℤ, ◌+ℤ◌, ◌-ℤ◌, Float}
use Rattle.number.specs.Number.{value_of, pattern_of, not_both_zero, c0, c½, c1, c2, c3, c6, ◌⊕◌, ◌⊖◌, ◌⊗◌, ◌⊘◌}
use Rattle.number.specs.Nine.{at, nine}
use Rattle.lattice.specs.declared.Axis.{Axis}
use Rattle.lattice.specs.declared.Axis.TheVariants.{X, Y}
use Rattle.lattice.specs.declared.Side.{Side}
use Rattle.lattice.specs.declared.Side.TheVariants.{Min, Max}
use Rattle.lattice.specs.Lattice.{W, OPP}
use Rattle.lattice.specs.Sides.{normal, tangent, along, incoming}
use Rattle.lattice.specs.Lookup.{dir_index_of, mirror}
use Rattle.grid.specs.Grid.{Field}
use Rattle.cell.specs.Cell.{along_at, density_of}
use Rattle.settings.specs.declared.Face.{Face}
use Rattle.settings.specs.declared.Face.TheVariants.{Periodic, NoSlip, MovingWall, Symmetry, Velocity, Pressure}
use Rattle.streaming.specs.declared.zou_he.Prescribed.{Prescribed}

-- ---- where a face is, and which directions come in through it

-- along an axis: the side's length, and a cell's coordinate
abbrev pub size_of : Axis → ℕ → ℕ → ℕ
size_of X nx ny = nx
size_of Y nx ny = ny

abbrev pub coord_of : Axis → ℕ → ℕ → ℕ
coord_of X x y = x
coord_of Y x y = y

-- the coordinate k of a side of n lies on the face
abbrev pub on_face : Side → ℕ → ℕ → Bool
on_face Min n k = eqb k 0
on_face Max n k = eqb (k + 1) n

-- (x, y) is a cell of the face, and direction i comes in through it
abbrev pub fed : Axis → Side → ℕ → ℕ → ℕ → ℕ → ℕ → Bool
fed a s nx ny x y i = incoming a s i && on_face s (size_of a nx ny) (coord_of a x y)

-- ---- MovingWall

-- a cell's nine entries as numbers
abbrev pub cell_at : Field → ℕ → ℕ → List Float
cell_at p x y = nine (λ i. value_of (p x y i))

-- not both speeds equal 0
abbrev pub moving : Float → Float → Bool
moving u v = not_both_zero u v

-- the opposite post-collision entry plus 6·W·ρw·(e·u), where ρw sums the cell's post-collision entries
unfoldable pub pushed : Float → Float → Field → ℕ → ℕ → ℕ → ℕ
pushed u v post x y i =
    pattern_of
    (value_of (post x y (OPP i)) ⊕ c6 ⊗ W i ⊗ density_of (cell_at post x y) ⊗ along_at i u v)

unfoldable pub walled : Float → Float → Field → ℕ → ℕ → ℕ → ℕ
walled u v post x y i = cond (moving u v) (pushed u v post x y i) (post x y (OPP i))

-- ---- Velocity and Pressure: zou_he

-- the direction with the components that g has along x and y
abbrev pub dir : (Axis → ℤ) → ℕ
dir g = dir_index_of (g X) (g Y)

-- the directions n, t, -t, n + t and n - t, with n the inward normal and t the tangent
pub record Names : Type 0 where
  pub n : ℕ
  pub t : ℕ
  pub tm : ℕ
  pub np : ℕ
  pub nm : ℕ

unfoldable pub names : Axis → Side → Names
names a s = record {
  n = dir (normal a s);
  t = dir (tangent a);
  tm = dir (λ b. neg_ℤ (tangent a b));
  np = dir (λ b. normal a s b +ℤ tangent a b);
  nm = dir (λ b. normal a s b -ℤ tangent a b);
}

-- the density and the velocity along n and t that a face prescribes, from what it knows: the entries along the face plus twice
-- the outgoing ones
unfoldable pub by_velocity : Float → Float → Float → Prescribed
by_velocity un ut sum = record { rho = sum ⊘ (c1 ⊖ un); un = un; ut = ut }

unfoldable pub by_pressure : Float → Float → Prescribed
by_pressure rho sum = record { rho = rho; un = c1 ⊖ sum ⊘ rho; ut = c0 }

unfoldable pub known_sum : Names → List Float → Float
known_sum d f =
    let parallel = at f 0 ⊕ at f d.t ⊕ at f d.tm in
    let outgoing = at f (OPP d.n) ⊕ at f (OPP d.np) ⊕ at f (OPP d.nm) in
    parallel ⊕ c2 ⊗ outgoing

-- entry i of the three that are written, from the cell as it stands
unfoldable pub zou_he : Names → Prescribed → List Float → ℕ → Float
zou_he d w f i =
    let nt = c½ ⊗ (at f d.t ⊖ at f d.tm) in
    cond (eqb i d.n) (at f (OPP d.n) ⊕ c2 ⊘ c3 ⊗ w.rho ⊗ w.un)
    (cond (eqb i d.np) (at f (OPP d.np) ⊕ w.rho ⊗ w.un ⊘ c6 ⊕ c½ ⊗ w.rho ⊗ w.ut ⊖ nt)
    (at f (OPP d.nm) ⊕ w.rho ⊗ w.un ⊘ c6 ⊖ c½ ⊗ w.rho ⊗ w.ut ⊕ nt))

-- the same from what the face prescribes and the field before it
unfoldable pub zou_he_at : Names → (Float → Prescribed) → Field → ℕ → ℕ → ℕ → ℕ
zou_he_at d prescribe prev x y i = let f = cell_at prev x y in pattern_of (zou_he d (prescribe (known_sum d f)) f i)

-- ---- ONE FACE: what a direction that comes in takes, from the post-collision field and the field as it stands before the face

unfoldable pub takes : Axis → Side → Face → Field → Field → Field
takes a s Periodic post prev x y i = prev x y i
takes a s NoSlip post prev x y i = post x y (OPP i)
takes a s (MovingWall u v) post prev x y i = walled u v post x y i
takes a s Symmetry post prev x y i = post x y (mirror a i)
takes a s (Velocity u v) post prev x y i =
    zou_he_at (names a s) (by_velocity (along u v (normal a s)) (along u v (tangent a))) prev x y i
takes a s (Pressure rho) post prev x y i = zou_he_at (names a s) (by_pressure rho) prev x y i

unfoldable pub face : Axis → Side → Face → ℕ → ℕ → Field → Field → Field
face a s k nx ny post prev x y i = cond (fed a s nx ny x y i) (takes a s k post prev x y i) (prev x y i)
