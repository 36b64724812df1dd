-- `checkpoint::write_checkpoint` meets its contract: past the refusal the file has room for the head and every entry.
use Rattle.std.proofs.Common.{sym, refl, ap, List, ℕ, length}
use Rattle.settings.specs.Refusals as Call
use Rattle.settings.specs.Outcome.{outcome}
use Rattle.settings.proofs.Laws.{known}
use Rattle.settings.proofs.Outcome.{answered, refused_by}
use Rattle.checkpoint.proofs.write_checkpoint.Goals as goal

pub returns-in_err-check_write_checkpoint : goal.returns-in_err-check_write_checkpoint
returns-in_err-check_write_checkpoint c =
    refused_by _ (λ n. outcome n c.args.file.now) _ _ c.from_residual.ensures.1 c.in_err-check_write_checkpoint.ensures

pub write_file-requires : goal.write_file-requires
write_file-requires c =
    let a = c.args in
    let k = known (Call.write_checkpoint a.s (length a.f.now) (length a.file.now)) (sym c.in_ok-check_write_checkpoint.ensures) in
    (k.0, k.1.0.size, k.1.1.0)

pub returns : goal.returns
returns c = answered _ c.in_ok-check_write_checkpoint.ensures refl (ap (λ (file : List ℕ). outcome 0 file) c.write_file.ensures)
