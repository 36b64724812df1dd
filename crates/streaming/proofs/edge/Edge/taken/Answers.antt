-- `Edge::taken` meets its contract: kind by kind, the entries are what the rule says.
use mathlib.Core.Path.{◌≡◌, ap}
use mathlib.Core.List.{List}
use Prim.Native.Nat.{ℕ}
use lib.Ieee.{Float}
use Rattle.std.proofs.Common.{rules}
use Rattle.number.specs.Number.{pattern_of}
use Rattle.grid.specs.Grid.{cell_of}
use Rattle.settings.specs.Tests.{drives}
use Rattle.streaming.specs.declared.three.Three.{Three}
use Rattle.streaming.specs.declared.zou_he.Prescribed.{Prescribed}
use Rattle.streaming.specs.Faces.{Names, by_velocity, by_pressure, known_sum, zou_he, zou_he_at, takes}
use Rattle.streaming.specs.Three.{each}
use Rattle.streaming.specs.Lines.{incoming_of}
use Rattle.streaming.specs.Read.{names_in}
use Rattle.streaming.proofs.Turned.{not_back}
use Rattle.streaming.proofs.edge.Edge.taken.Goals as goal

-- what `zou_he` gives, by the rule's names and the cell as the rule has it
by_rule : (prescribe : Float → Prescribed) {d names : Names} {f cell : List Float} {w : Prescribed} {q : Three ℕ} → d ≡ names → f ≡ cell → w ≡ prescribe (known_sum d f)
    → q ≡ each (λ i. pattern_of (zou_he d w f i)) (incoming_of d)
    → q ≡ each (λ i. pattern_of (zou_he names (prescribe (known_sum names cell)) cell i)) (incoming_of names)
by_rule prescribe is-names is-cell is-w is = rw (is, is-w, is-names, is-cell)

pub returns-in-Velocity : goal.returns-in-Velocity
unfolding takes zou_he_at cell_of
returns-in-Velocity c =
    let e = c.args.self in
    let back = not_back e.back (drives e.kind) e.calm (ap drives c.in-Velocity.is) in
    let z = c.zou_he.ensures in
    let w : z.0 ≡ by_velocity c.along_normal-un.result c.along_tangent-ut.result (known_sum (names_in e.names) c.gather.result) = search rules in
    rw (back, c.in-Velocity.is, ← c.along_normal-un.ensures, ← c.along_tangent-ut.ensures)
    (by_rule (by_velocity c.along_normal-un.result c.along_tangent-ut.result) e.named c.gather.ensures w z.2)

pub returns-in-Pressure : goal.returns-in-Pressure
unfolding takes zou_he_at cell_of
returns-in-Pressure c =
    let e = c.args.self in
    let back = not_back e.back (drives e.kind) e.calm (ap drives c.in-Pressure.is) in
    let z = c.zou_he-in-Pressure.ensures in
    let w : z.0 ≡ by_pressure c.in-Pressure.rho (known_sum (names_in e.names) c.gather-in-Pressure.result) = search rules in
    rw (back, c.in-Pressure.is) (by_rule (by_pressure c.in-Pressure.rho) e.named c.gather-in-Pressure.ensures w z.2)
