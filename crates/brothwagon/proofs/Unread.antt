-- The floor is not looked at where no velocity is read and nothing collides: with any other floor such a call has the same outcome.
use mathlib.Core.Path.{◌≡◌, refl}
use mathlib.Core.List.{List}
use Prim.Native.Nat.{ℕ}
use lib.Ieee.{Float}
use Rattle.settings.specs.declared.Obstacle.{Obstacle}
use Rattle.settings.specs.declared.Settings.{Settings}
use Rattle.settings.specs.Tests.{faces_bad, driven, lossy}
use Rattle.readings.specs.Readings.{initialized, density_read, mass_of, total_mass_read}
use Rattle.streaming.specs.Source.{enters, goes, target}
use Rattle.streaming.specs.Streaming.{next, next_buffer, streamed_with_faces}
use Rattle.lossless.specs.Lossless.{lowest, lossless_of, reversed, reverse_buffer, reversed_of}
use Rattle.obstacles.specs.Obstacles.{no_slip_set}
use Rattle.checkpoint.specs.Checkpoint.{checkpoint_written}
use Rattle.tally.specs.Tally.{tallied, entry_written}
use Rattle.brothwagon.specs.Exported.{plane_told}

module _ (s : Settings) (floor : Float) where
  -- the same settings with that floor
  abbrev other : Settings
  other = record {
    nx = s.nx;
    ny = s.ny;
    nu = s.nu;
    fx = s.fx;
    fy = s.fy;
    collision = s.collision;
    x_min = s.x_min;
    x_max = s.x_max;
    y_min = s.y_min;
    y_max = s.y_max;
    floor = floor;
  }

  pub initialize_unread : (table f : List ℕ) → initialized other table f ≡ initialized s table f
  initialize_unread table f = refl

  pub density_unread : (f : List ℕ) (x y : ℕ) → density_read other f x y ≡ density_read s f x y
  density_unread f x y = refl

  pub total_mass_unread : (f : List ℕ) → total_mass_read other f ≡ total_mass_read s f
  unfolding mass_of
  total_mass_unread f = refl

  pub plane_unread : (f : List ℕ) (i : ℕ) → plane_told other f i ≡ plane_told s f i
  plane_unread f i = refl

  pub stream_unread : (post f : List ℕ) → streamed_with_faces other post f ≡ streamed_with_faces s post f
  unfolding faces_bad next_buffer next
  stream_unread post f = refl

  pub lossless_unread : lossless_of other ≡ lossless_of s
  unfolding lossless_of faces_bad driven lossy lowest
  lossless_unread = refl

  pub reverse_unread : (f post : List ℕ) → reversed_of other f post ≡ reversed_of s f post
  unfolding faces_bad driven lossy reverse_buffer reversed target enters goes
  reverse_unread f post = refl

  pub no_slip_unread : (list : List Obstacle) (f : List ℕ) → no_slip_set other list f ≡ no_slip_set s list f
  no_slip_unread list f = refl

  pub checkpoint_unread : (step : ℕ) (f file : List ℕ) → checkpoint_written other step f file ≡ checkpoint_written s step f file
  checkpoint_unread step f file = refl

  pub tally_unread : (f : List ℕ) → tallied other f ≡ tallied s f
  tally_unread f = refl

  pub entry_unread : (x y i pattern : ℕ) (f t : List ℕ) → entry_written other x y i pattern f t ≡ entry_written s x y i pattern f t
  entry_unread x y i pattern f t = refl
