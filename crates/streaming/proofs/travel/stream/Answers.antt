-- `travel::stream` meets its contract. The loop's invariant: the first j planes are copied.
use mathlib.Core.Path.{◌≡◌}
use native.Mathlib.Omega.{arith}
use Rattle.number.proofs.Joined.{joined_none, joined_to_length}
use Rattle.grid.proofs.Writes.{none, to_length}
use Rattle.streaming.proofs.Rows.{plane_more, all_planes}
use Rattle.streaming.proofs.travel.stream.Goals as goal

pub loop-j-init : goal.loop-j-init
loop-j-init c = (to_length (none _ _ _) (omega arith), joined_to_length _ (joined_none _) (omega arith))

pub loop-j-preserved : goal.loop-j-preserved
loop-j-preserved c =
    let a = c.args in
    plane_more a.back a.src.now _ a.nx a.ny _ _ c.loop-j.j c.facing-i.result.index c.step_back-sx.result c.step_back-sy.result
    c.facing-i.ensures
    c.step_back-sx.ensures.0
    c.step_back-sy.ensures.0
    c.loop-j.invariant
    (c.plane-bits.ensures.wrote, c.plane-bits.ensures.joined)

pub returns : goal.returns
returns c =
    let nine : c.loop-j.j ≡ 9 = omega arith in
    let both = all_planes c.args.back c.args.src.now _ c.args.nx c.args.ny _ c.requires.written (rw nine at c.loop-j.invariant) in
    record { became = both.0; joined = both.1 }
