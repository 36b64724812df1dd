-- Which face an edge is.
use Rattle.std.specs.Prelude.{◌≡◌, Bool, ◌*◌}
use Rattle.lattice.specs.declared.Axis.{Axis}
use Rattle.lattice.specs.declared.Side.{Side}
use Rattle.settings.specs.declared.Settings.{Settings}
use Rattle.settings.specs.Tests.{face_of}
use Rattle.streaming.specs.declared.edge.Edge.{Edge}
use Rattle.streaming.specs.Lines.{line_of}
use Rattle.streaming.specs.Read.{stretch}

pub record IsFace (s : Settings) (a : Axis) (d : Side) (back : Bool) (e : Edge) : Type 0 where
  pub axis : e.axis ≡ a
  pub side : e.side ≡ d
  pub kind : e.kind ≡ face_of s a d
  pub way : e.back ≡ back
  pub line : stretch e.line ≡ line_of a d s.nx s.ny
  pub cells : e.line.cells ≡ s.nx * s.ny
