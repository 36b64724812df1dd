-- A test that none of the four faces meets is met at no axis and side.
use mathlib.Core.Path.{◌≡◌}
use mathlib.Core.Bool.{Bool, false, ◌||◌}
use Rattle.lattice.specs.declared.Axis.{Axis}
use Rattle.lattice.specs.declared.Axis.TheVariants.{X, Y}
use Rattle.lattice.specs.declared.Side.{Side}
use Rattle.lattice.specs.declared.Side.TheVariants.{Min, Max}
use Rattle.settings.specs.declared.Settings.{Settings}
use Rattle.settings.specs.Tests.{face_of, drives, driven}
use Rattle.settings.proofs.Laws.{or_left, or_right}

pub at_none : (g : Axis → Side → Bool) → g X Min || g X Max || g Y Min || g Y Max ≡ false → (a : Axis) (d : Side) → g a d ≡ false
at_none g h X Min = or_left _ _ (or_left _ _ (or_left _ _ h))
at_none g h X Max = or_right (g X Min) _ (or_left _ _ (or_left _ _ h))
at_none g h Y Min = or_right (g X Min || g X Max) _ (or_left _ _ h)
at_none g h Y Max = or_right (g X Min || g X Max || g Y Min) _ h

pub undriven : (s : Settings) → driven s ≡ false → (a : Axis) (d : Side) → drives (face_of s a d) ≡ false
unfolding driven
undriven s h = at_none (λ a d. drives (face_of s a d)) h
