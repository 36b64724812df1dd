-- `Edge::push_entries` meets its contract: the three entries, with one density of the cell.
use mathlib.Core.Path.{ap, ◌∙◌}
use Rattle.std.proofs.Common.{false, rules}
use Rattle.grid.specs.Grid.{cell_of}
use Rattle.streaming.specs.Faces.{Names, pushed}
use Rattle.streaming.specs.Three.{each}
use Rattle.streaming.specs.Lines.{incoming_of, alone}
use Rattle.streaming.proofs.Mapped.{mapped}
use Rattle.streaming.proofs.edge.Edge.push_entries.Goals as goal

pub returns : goal.returns
unfolding pushed cell_of
returns c =
    let a = c.args in
    let p = pushed a.u a.v (alone false a.post.now a.self.line.cells a.c) 0 0 in
    mapped (λ i. p i.index) c.map.ensures (λ i x h. search rules)
    ∙ ap (λ (d : Names). each p (incoming_of d)) a.self.named
