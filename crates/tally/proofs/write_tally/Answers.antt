-- `tally::write_tally` meets its contract: a refusal leaves the bytes, and past it the file has the room that its parts take.
use Rattle.std.proofs.Common.{sym, refl, ap, ℕ, List, length}
use Rattle.settings.specs.Refusals as Call
use Rattle.settings.specs.Outcome.{outcome}
use Rattle.settings.proofs.Laws.{known}
use Rattle.settings.proofs.Outcome.{answered, refused_by}
use Rattle.tally.proofs.write_tally.Goals as goal

pub returns-in_err-check_write_tally : goal.returns-in_err-check_write_tally
returns-in_err-check_write_tally c =
    refused_by _ (λ n. outcome n c.args.file.now) _ _ c.from_residual.ensures.1 c.in_err-check_write_tally.ensures

pub write_file-requires : goal.write_file-requires
write_file-requires c =
    let a = c.args in
    (known (Call.write_tally a.t.now (length a.file.now)) (sym c.in_ok-check_write_tally.ensures)).1.0

pub returns : goal.returns
returns c = answered _ c.in_ok-check_write_tally.ensures refl (ap (λ (file : List ℕ). outcome 0 file) c.write_file.ensures)
