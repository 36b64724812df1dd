-- Streaming with faces: the rule, and the outcome of the operation.
use Rattle.std.specs.Prelude.{List, ℕ, length}
use Rattle.lattice.specs.declared.Axis.TheVariants.{X, Y}
use Rattle.lattice.specs.declared.Side.TheVariants.{Min, Max}
use Rattle.grid.specs.Grid.{Field, field_of, buffer_of}
use Rattle.settings.specs.declared.Settings.{Settings}
use Rattle.settings.specs.Refusals.{refusal, stream_with_faces}
use Rattle.settings.specs.Outcome.{Written, written}
use Rattle.streaming.specs.Travel.{streamed}
use Rattle.streaming.specs.Faces.{face}

-- the faces in their order, from the post-collision field and the field before them: a later face writes over an earlier one
abbrev pub bounded : Settings → Field → Field → Field
bounded s post f0 =
    let nx = s.nx in
    let ny = s.ny in
    let f1 = face X Min s.x_min nx ny post f0 in
    let f2 = face X Max s.x_max nx ny post f1 in
    let f3 = face Y Min s.y_min nx ny post f2 in
    face Y Max s.y_max nx ny post f3

-- STREAMING WITH FACES: streaming, then x min, x max, y min, y max
unfoldable pub next : Settings → Field → Field
next s post = bounded s post (streamed s.nx s.ny post)

-- the next population buffer
unfoldable pub next_buffer : Settings → List ℕ → List ℕ
next_buffer s post = buffer_of s.nx s.ny (next s (field_of s.nx s.ny post))

-- the operation's outcome: the number, and the next population buffer; refused, the population buffer as it was
abbrev pub streamed_with_faces : Settings → List ℕ → List ℕ → Written
streamed_with_faces s post f = written (refusal (stream_with_faces s (length post) (length f))) f (next_buffer s post)
