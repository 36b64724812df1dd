-- `travel::plane` meets its contract. The loop's invariant: the first y rows are copied.
use native.Mathlib.Omega.{arith}
use Rattle.number.proofs.Joined.{joined_none, joined_to_length}
use Rattle.grid.proofs.Writes.{none, to_length}
use Rattle.streaming.proofs.Rows.{row_more}
use Rattle.streaming.proofs.travel.plane.Goals as goal

pub loop-y-init : goal.loop-y-init
loop-y-init c = (to_length (none _ _ _) (omega arith), joined_to_length _ (joined_none _) (omega arith))

pub loop-y-preserved : goal.loop-y-preserved
loop-y-preserved c =
    let a = c.args in
    row_more a.src.now _ _ _ a.t a.base c.loop-y.y c.wrap-from.result c.wrap-from.ensures.0 c.loop-y.invariant (c.row-bits.ensures.wrote, c.row-bits.ensures.joined)
