-- `cell::equilibrium::equilibria` meets its contract: the nine entries are the nine calls'.
use borrow.Author.Rules.{rules}
use Rattle.lattice.proofs.Results.{nine_by}
use Rattle.cell.specs.Cell.{equilibrium_at, equilibria_of}
use Rattle.cell.proofs.equilibrium.equilibria.Goals as goal

pub returns : goal.returns
unfolding equilibria_of
returns c = nine_by (λ i. equilibrium_at i c.args.m) c.nine.ensures (λ i x h. search rules)
