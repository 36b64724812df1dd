-- Over Periodic, NoSlip and Symmetry every final entry is a copy: the post-collision entry that it comes from, and the final
-- entry that one goes to.
use Rattle.std.specs.Prelude.{cond, ℕ, ◌<◌}
use Rattle.lattice.specs.declared.Axis.{Axis}
use Rattle.lattice.specs.declared.Axis.TheVariants.{X, Y}
use Rattle.lattice.specs.declared.Side.TheVariants.{Min, Max}
use Rattle.lattice.specs.Lattice.{OPP}
use Rattle.lattice.specs.Lookup.{mirror}
use Rattle.grid.specs.Grid.{Field, index}
use Rattle.settings.specs.declared.Face.{Face}
use Rattle.settings.specs.declared.Face.TheVariants.{Periodic}
use Rattle.settings.specs.declared.Settings.{Settings}
use Rattle.settings.specs.Tests.{face_of, is_periodic, is_symmetry}
use Rattle.streaming.specs.Travel.{part, against, moved}
use Rattle.streaming.specs.Faces.{fed}

-- ---- entries

pub record Entry : Type 0 where
  pub x : ℕ
  pub y : ℕ
  pub i : ℕ

abbrev pub entry : ℕ → ℕ → ℕ → Entry
entry x y i = record { x = x; y = y; i = i }

-- an entry of the grid
pub record On (nx ny : ℕ) (e : Entry) : Type 0 where
  pub x_in : e.x < nx
  pub y_in : e.y < ny
  pub i_in : e.i < 9

-- its index in a buffer, and what a field holds there
abbrev pub index_of : ℕ → ℕ → Entry → ℕ
index_of nx ny e = index nx ny e.x e.y e.i

abbrev pub held : Field → Entry → ℕ
held p e = p e.x e.y e.i

-- the entry of the same cell in the opposite direction
abbrev pub opposite : Entry → Entry
opposite e = entry e.x e.y (OPP e.i)

-- ---- the faces that an entry meets

-- the face across an axis that an entry comes in through, and Periodic where it comes in through none
unfoldable pub enters : Settings → Axis → Entry → Face
enters s a e =
    cond (fed a Min s.nx s.ny e.x e.y e.i) (face_of s a Min)
    (cond (fed a Max s.nx s.ny e.x e.y e.i) (face_of s a Max) Periodic)

-- the face that it goes out through: its opposite comes in there
abbrev pub leaves : Settings → Axis → Entry → Face
leaves s a e = enters s a (opposite e)

-- the direction that a face turns i to: Symmetry mirrors it, NoSlip turns it around
abbrev pub reflect : Axis → Face → ℕ → ℕ
reflect a k i = cond (is_symmetry k) (mirror a i) (OPP i)

-- e turned back by a face that is not periodic, and else o
abbrev pub turned_back : Axis → Face → Entry → Entry → Entry
turned_back a k e o = cond (is_periodic k) o (entry e.x e.y (reflect a k e.i))

-- ---- from where, and to where

-- the neighbours, wrapped on both axes: (x - ex, y - ey) and (x + ex, y + ey)
unfoldable pub came : Settings → Entry → Entry
came s e = entry (moved (against (part X e.i)) s.nx e.x) (moved (against (part Y e.i)) s.ny e.y) e.i

unfoldable pub goes : Settings → Entry → Entry
goes s e = entry (moved (part X e.i) s.nx e.x) (moved (part Y e.i) s.ny e.y) e.i

-- THE SOURCE of a final entry: y settles corners
unfoldable pub source : Settings → Entry → Entry
source s e = turned_back Y (enters s Y e) e (turned_back X (enters s X e) e (came s e))

-- THE TARGET of a post-collision entry
unfoldable pub target : Settings → Entry → Entry
target s e = turned_back Y (leaves s Y e) e (turned_back X (leaves s X e) e (goes s e))
