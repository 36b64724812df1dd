-- `tally::write_entry` meets its contract: a refusal leaves populations and tally, and else one entry and two numbers are changed.
use Rattle.std.proofs.Common.{arith}
use Rattle.settings.proofs.Outcome.{refused_by}
use Rattle.tally.specs.Tally.{entered}
use Rattle.tally.proofs.Outcomes.{allowed, entry_done}
use Rattle.tally.proofs.write_entry.Goals as goal

pub returns-in_err-check_write_entry : goal.returns-in_err-check_write_entry
returns-in_err-check_write_entry c =
    let a = c.args in
    refused_by _ (λ n. entered n a.f.now a.t.now) _ _ c.from_residual.ensures.1 c.in_err-check_write_entry.ensures

pub place-requires : goal.place-requires
place-requires c =
    let k = allowed c.args.s _ _ _ _ c.in_ok-check_write_entry.ensures in (k.grid, k.column, k.row, k.direction)

pub offset_bounds-f-place : goal.offset_bounds-f-place
offset_bounds-f-place c = let k = allowed c.args.s _ _ _ _ c.in_ok-check_write_entry.ensures in omega (arith, k.grid.few)

pub bounds-f-place : goal.bounds-f-place
bounds-f-place c = let k = allowed c.args.s _ _ _ _ c.in_ok-check_write_entry.ensures in omega (arith, k.size)

pub returns : goal.returns
returns c =
    entry_done c.args.s _ _ _ _ _ _ _ _ _ _ c.in_ok-check_write_entry.ensures c.place.ensures.entry c.replace-old.ensures.value
    c.replace-old.ensures.after c.shift.ensures
