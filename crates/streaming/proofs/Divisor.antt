-- What number 5 tests of a Velocity face is the divisor of `zou_he`: where the faces are not refused, it is not 0.
use mathlib.Core.Path.{◌≡◌}
use mathlib.Core.Bool.{false, ◌||◌}
use lib.Ieee.{Float, eq}
use Rattle.number.specs.Number.{c0, c1, not_finite, ◌⊖◌}
use Rattle.lattice.specs.declared.Axis.{Axis}
use Rattle.lattice.specs.declared.Side.{Side}
use Rattle.lattice.specs.Sides.{normal, along}
use Rattle.settings.specs.declared.Face.TheVariants.{Velocity}
use Rattle.settings.specs.declared.Settings.{Settings}
use Rattle.settings.specs.Tests.{face_of, face_bad, faces_bad}
use Rattle.settings.proofs.Laws.{or_right}
use Rattle.streaming.proofs.Sides.{at_none}

pub no_zero_divisor : (s : Settings) → faces_bad s ≡ false → (a : Axis) (d : Side) (u v : Float) → face_of s a d ≡ Velocity u v
    → eq (c1 ⊖ along u v (normal a d)) c0 ≡ false
unfolding faces_bad face_bad
no_zero_divisor s ok a d u v e =
    or_right (not_finite u || not_finite v) _ (rw e at (at_none (λ a d. face_bad a d (face_of s a d)) ok a d))
