-- What `carry` answers, as a number: all that was streamed and all that came in through the faces, raised and joined.
use Rattle.std.specs.Prelude.{Bool, cond, List, ℕ, ◌*◌}
use Rattle.std.specs.Int.Bits.{bit_or}
use Rattle.number.specs.Joined.{joined_to}
use Rattle.lattice.specs.declared.Axis.{Axis}
use Rattle.lattice.specs.declared.Axis.TheVariants.{X, Y}
use Rattle.lattice.specs.declared.Side.{Side}
use Rattle.lattice.specs.declared.Side.TheVariants.{Min, Max}
use Rattle.grid.specs.Grid.{buffer_of}
use Rattle.grid.specs.Finite.{joined_buffer}
use Rattle.settings.specs.declared.Settings.{Settings}
use Rattle.settings.specs.Tests.{face_of, is_periodic}
use Rattle.streaming.specs.Travel.{streamed}
use Rattle.streaming.specs.Faces.{names}
use Rattle.streaming.specs.Turned.{facing, turned, seen, carried}
use Rattle.streaming.specs.Three.{each}
use Rattle.streaming.specs.Lines.{Stretch, line_of, spot, incoming_of, entry_at}

-- plane i along a line
abbrev pub plane_along : List ℕ → ℕ → Stretch → ℕ → ℕ → ℕ
plane_along b n l i k = entry_at b n (spot l k) i

abbrev pub line_join : List ℕ → ℕ → Stretch → ℕ → ℕ
line_join b n l i = joined_to (plane_along b n l i) l.count

-- the three planes that come in through a face, along its cells; a periodic face lets nothing in that streaming had not
-- copied
unfoldable pub face_join : Bool → Settings → Axis → Side → List ℕ → ℕ
face_join back s a d b =
    let into = each (facing back) (incoming_of (names a d)) in
    let along = line_join b (s.nx * s.ny) (line_of a d s.nx s.ny) in
    cond (is_periodic (face_of s a d)) 0 (bit_or (bit_or (along into.n) (along into.np)) (along into.nm))

unfoldable pub faces_join : Bool → Settings → List ℕ → ℕ
faces_join back s b =
    let x = bit_or (face_join back s X Min b) (face_join back s X Max b) in
    bit_or (bit_or x (face_join back s Y Min b)) (face_join back s Y Max b)

-- the buffer that streaming leaves, before the faces
unfoldable pub streamed_buffer : Bool → Settings → List ℕ → List ℕ
streamed_buffer back s post =
    let nx = s.nx in
    let ny = s.ny in
    buffer_of nx ny (turned back (streamed nx ny (seen back nx ny post)))

-- what `carry` answers: all that was streamed, and what the four faces let in
unfoldable pub carried_join : Bool → Settings → List ℕ → ℕ
carried_join back s post = bit_or (joined_buffer (streamed_buffer back s post)) (faces_join back s (carried back s post))
