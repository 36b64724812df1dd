-- `settings::unpaired` meets its contract: the two faces are told apart by which is periodic.
use mathlib.Core.Bool.{xor}
use Rattle.std.proofs.Common.{rules}
use Rattle.settings.specs.Tests.{unpaired}
use Rattle.settings.proofs.unpaired.Goals as goal

pub returns : goal.returns
unfolding unpaired xor
returns c = search rules
