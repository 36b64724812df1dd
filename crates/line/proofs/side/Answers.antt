-- `line::side` meets its contract: one digit more is said.
use mathlib.Core.Path.{sym, ◌∙◌}
use Rattle.line.proofs.Sides.{said_more}
use Rattle.line.proofs.side.Goals as goal

pub loop-b-preserved : goal.loop-b-preserved
loop-b-preserved c =
    said_more _ _ _ c.loop-b.invariant _ c.loop-b-test.true (sym c.is_ascii_digit.ensures.value ∙ c.if-not-is_ascii_digit.false) c.from.ensures
