-- `tally::tally` meets its contract: zeros where it is refused, and else the tally.
use Rattle.std.proofs.Common.{sym, length, arith}
use Rattle.settings.specs.Refusals as Call
use Rattle.settings.proofs.Laws.{known}
use Rattle.tally.proofs.Outcomes.{tallied_done, tallied_refused}
use Rattle.tally.proofs.tally.Goals as goal

pub returns-in_err-check_tally : goal.returns-in_err-check_tally
returns-in_err-check_tally c = tallied_refused c.args.s _ _ _ c.from_residual.ensures.1 c.in_err-check_tally.ensures

pub overflow_mul-s : goal.overflow_mul-s
overflow_mul-s c =
    let a = c.args in
    let k = known (Call.tally a.s (length a.f.now)) (sym c.in_ok-check_tally.ensures) in omega (arith, k.0.few)

pub fresh-requires : goal.fresh-requires
fresh-requires c =
    let a = c.args in
    let k = known (Call.tally a.s (length a.f.now)) (sym c.in_ok-check_tally.ensures) in (k.0.few, k.1.0.size)

pub returns : goal.returns
returns c = tallied_done c.args.s _ _ c.in_ok-check_tally.ensures c.fresh.ensures
