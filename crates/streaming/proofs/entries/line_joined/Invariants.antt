use mathlib.Core.Path.{◌≡◌}
use Rattle.streaming.specs.Carried.{plane_along}
use Rattle.streaming.specs.Read.{stretch}
use Rattle.number.specs.Joined.{joined_to}
use Rattle.streaming.proofs.entries.line_joined.Given as goal

abbrev pub invariant-loop-k : goal.invariant-loop-k
invariant-loop-k l = l.bits ≡ joined_to (plane_along l.b l.line.cells (stretch l.line) l.i.index) l.k
