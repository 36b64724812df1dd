-- The travel turned round, which the code for both ways speaks of: opposite directions change places. No public contract needs it.
use Rattle.std.specs.Prelude.{Bool, cond, List, ℕ}
use Rattle.lattice.specs.Lattice.{OPP}
use Rattle.grid.specs.Grid.{Field, field_of, buffer_of}
use Rattle.settings.specs.declared.Settings.{Settings}
use Rattle.streaming.specs.Streaming.{next}

abbrev pub facing : Bool → ℕ → ℕ
facing back i = cond back (OPP i) i

abbrev pub turned : Bool → Field → Field
turned back p x y i = p x y (facing back i)

-- the field that a buffer holds, seen so
abbrev pub seen : Bool → ℕ → ℕ → List ℕ → Field
seen back nx ny b = turned back (field_of nx ny b)

-- what the code carries: the next population buffer, and with the travel turned round the same of the field with opposite
-- directions in each other's place, put back
unfoldable pub carried : Bool → Settings → List ℕ → List ℕ
carried back s b =
    let nx = s.nx in
    let ny = s.ny in
    buffer_of nx ny (turned back (next s (seen back nx ny b)))
