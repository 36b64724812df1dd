-- The frame of a face as the code has it: whole numbers that are read back from i32.
use mathlib.Core.Path.{◌≡◌, refl}
use lib.IntN.{ℤ}
use lib.Ieee.{Float, binary64, of_int}
use mir.Syntax.{w32}
use mir.Val.{to_z, of_z}
use Rattle.number.specs.Number.{◌⊕◌, ◌⊗◌}
use Rattle.lattice.specs.declared.Frame.{Frame}
use Rattle.lattice.specs.declared.Axis.{Axis}
use Rattle.lattice.specs.declared.Axis.TheVariants.{X, Y}
use Rattle.lattice.specs.declared.Side.{Side}
use Rattle.lattice.specs.declared.Side.TheVariants.{Min, Max}
use Rattle.lattice.specs.Sides.{sign, normal, tangent, frame_of, along}

-- a sign is read back from its bits
pub kept : (s : Side) {z : ℤ} → z ≡ sign s → to_z w32 (of_z w32 z) ≡ sign s
kept Min e = rw e
kept Max e = rw e

-- (u, v) along the i32 of two whole numbers
abbrev pub coded : Float → Float → ℤ → ℤ → Float
coded u v a b = u ⊗ of_int binary64 (to_z w32 (of_z w32 a)) ⊕ v ⊗ of_int binary64 (to_z w32 (of_z w32 b))

coded_normal : (a : Axis) (s : Side) (u v : Float) → coded u v (frame_of a s).n0 (frame_of a s).n1 ≡ along u v (normal a s)
coded_normal X Min u v = refl
coded_normal X Max u v = refl
coded_normal Y Min u v = refl
coded_normal Y Max u v = refl

coded_tangent : (a : Axis) (s : Side) (u v : Float) → coded u v (frame_of a s).t0 (frame_of a s).t1 ≡ along u v (tangent a)
coded_tangent X s u v = refl
coded_tangent Y s u v = refl

pub by_normal : (a : Axis) (s : Side) (u v : Float) {g : Frame} {p : Float} → g ≡ frame_of a s → p ≡ coded u v g.n0 g.n1 → p ≡ along u v (normal a s)
by_normal a s u v eg ep = rw (ep, eg) (coded_normal a s u v)

pub by_tangent : (a : Axis) (s : Side) (u v : Float) {g : Frame} {p : Float} → g ≡ frame_of a s → p ≡ coded u v g.t0 g.t1 → p ≡ along u v (tangent a)
by_tangent a s u v eg ep = rw (ep, eg) (coded_tangent a s u v)
