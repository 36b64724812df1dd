-- `lattice::nine` meets its contract: each entry is what the call for its direction returned.
use Rattle.lattice.proofs.Results.{gives}
use Rattle.lattice.proofs.rule.nine.Goals as goal

pub returns : goal.returns
returns g c = gives _ c.of.ensures c.of-2.ensures c.of-3.ensures c.of-4.ensures c.of-5.ensures c.of-6.ensures c.of-7.ensures c.of-8.ensures c.of-9.ensures
