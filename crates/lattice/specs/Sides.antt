-- The four faces of a grid by axis and side: the inward normal, the tangent, and which directions come in.
use Rattle.std.specs.Prelude.{Bool, true, false, ℕ, zero, suc, ℤ, pos, negsuc, ◌+ℤ◌, ◌*ℤ◌, Float}
use Rattle.std.specs.Float.{binary64}
use Rattle.std.specs.Float.Ieee.{of_int}
use Rattle.number.specs.Number.{◌⊕◌, ◌⊗◌}
use Rattle.lattice.specs.declared.Axis.{Axis}
use Rattle.lattice.specs.declared.Axis.TheVariants.{X, Y}
use Rattle.lattice.specs.Lattice.{E}
use Rattle.lattice.specs.declared.Frame.{Frame}
use Rattle.lattice.specs.declared.Side.{Side}
use Rattle.lattice.specs.declared.Side.TheVariants.{Min, Max}

-- THE INWARD NORMAL n, component by component: (1, 0), (-1, 0), (0, 1) and (0, -1)
abbrev pub sign : Side → ℤ
sign Min = pos 1
sign Max = negsuc 0

abbrev pub normal : Axis → Side → Axis → ℤ
normal X s X = sign s
normal X s Y = pos 0
normal Y s X = pos 0
normal Y s Y = sign s

-- the tangent t
abbrev pub tangent : Axis → Axis → ℤ
tangent X X = pos 0
tangent X Y = pos 1
tangent Y X = pos 1
tangent Y Y = pos 0

abbrev pub frame_of : Axis → Side → Frame
frame_of a s = record { n0 = normal a s X; n1 = normal a s Y; t0 = tangent a X; t1 = tangent a Y }

-- (u, v) along a vector of whole numbers
abbrev pub along : Float → Float → (Axis → ℤ) → Float
along u v g = u ⊗ of_int binary64 (g X) ⊕ v ⊗ of_int binary64 (g Y)

-- direction i comes in through the face: e · n > 0
abbrev pub above_zero : ℤ → Bool
above_zero (pos zero) = false
above_zero (pos (suc n)) = true
above_zero (negsuc n) = false

abbrev pub incoming : Axis → Side → ℕ → Bool
incoming a s i = above_zero (E i X *ℤ normal a s X +ℤ E i Y *ℤ normal a s Y)
