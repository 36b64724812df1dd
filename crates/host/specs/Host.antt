-- The settings as a host lends them: twenty words of 64 bits, field by field those of the C struct.
use Rattle.std.specs.Prelude.{cond, List, ℕ, ◌+◌, eqb, get_or, Float}
use Rattle.std.specs.Float.{nan}
use Rattle.number.specs.Number.{value_of}
use Rattle.cell.specs.declared.Collision.{Collision}
use Rattle.cell.specs.declared.Collision.TheVariants.{Bgk, Mrt, Trt}
use Rattle.settings.specs.declared.Face.{Face}
use Rattle.settings.specs.declared.Face.TheVariants.{Periodic, NoSlip, MovingWall, Symmetry, Velocity, Pressure}
use Rattle.settings.specs.declared.Settings.{Settings}

-- a face from its kind and its numbers: 0 Periodic, 1 NoSlip, 2 MovingWall, 3 Symmetry, 4 Velocity, 5 Pressure;
-- any other kind is Pressure(NaN), which number 5 refuses
unfoldable pub face_of_kind : ℕ → Float → Float → Face
face_of_kind kind a b =
    cond (eqb kind 0) Periodic
    (cond (eqb kind 1) NoSlip
    (cond (eqb kind 2) (MovingWall a b)
    (cond (eqb kind 3) Symmetry
    (cond (eqb kind 4) (Velocity a b)
    (cond (eqb kind 5) (Pressure a)
    (Pressure nan))))))

-- a collision: 0 Bgk, 1 Mrt, 2 Trt; any other is Trt(NaN), which number 3 refuses
unfoldable pub collision_of_kind : ℕ → Float → Collision
collision_of_kind kind rate = cond (eqb kind 0) Bgk (cond (eqb kind 1) Mrt (cond (eqb kind 2) (Trt rate) (Trt nan)))

-- word k as a whole number, and as an f64
abbrev pub word_at : List ℕ → ℕ → ℕ
word_at w k = get_or w k 0

abbrev pub number_at : List ℕ → ℕ → Float
number_at w k = value_of (get_or w k 0)

-- the face of the three words from k on
abbrev pub face_at : List ℕ → ℕ → Face
face_at w k = face_of_kind (word_at w k) (number_at w (k + 1)) (number_at w (k + 2))

unfoldable pub settings_of : List ℕ → Settings
settings_of w = record {
  nx = word_at w 0;
  ny = word_at w 1;
  nu = number_at w 2;
  fx = number_at w 3;
  fy = number_at w 4;
  collision = collision_of_kind (word_at w 5) (number_at w 6);
  x_min = face_at w 7;
  x_max = face_at w 10;
  y_min = face_at w 13;
  y_max = face_at w 16;
  floor = number_at w 19;
}
