-- `line::put_number` meets its contract: the digits that `io::decimal` finds are those of the definition.
use mathlib.Core.Path.{ap, ◌∙◌}
use native.Mathlib.Omega.{arith}
use lib.ListN.{length}
use Rattle.std.proofs.lemmas.Grind.{common_steps}
use Rattle.line.proofs.Decimal.{fewest_decimal}
use Rattle.line.proofs.put_number.Goals as goal

pub put-requires-2 : goal.put-requires-2
put-requires-2 c =
    let digits = c.decimal-k.ensures in
    let said = digits.digits ∙ fewest_decimal _ _ digits.len in
    grind (arith, common_steps, ap length said)

pub returns : goal.returns
returns c =
    let digits = c.decimal-k.ensures in
    let said = digits.digits ∙ fewest_decimal _ _ digits.len in
    grind (arith, common_steps, said)
