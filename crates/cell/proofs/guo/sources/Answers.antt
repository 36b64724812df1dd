-- `cell::guo::sources` meets its contract: with a force the nine entries are the nine calls'.
use mathlib.Core.Path.{◌≡◌}
use mathlib.Core.Bool.{true}
use borrow.Author.Rules.{rules}
use Rattle.lattice.proofs.Results.{nine_by}
use Rattle.cell.specs.Cell.{guo_at, guo_sources, forced_by, sources_of}
use Rattle.cell.proofs.guo.sources.Goals as goal

pub returns-then-this-ne0 : goal.returns-then-this-ne0
unfolding sources_of guo_sources
returns-then-this-ne0 g c =
    let a = c.args in
    let acts : forced_by a.force.x a.force.y ≡ true = search rules in
    rw acts (nine_by (λ i. guo_at i a.m a.force.x a.force.y) c.nine.ensures (λ i x h. search rules))
