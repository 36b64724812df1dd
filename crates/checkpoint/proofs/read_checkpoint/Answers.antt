-- `checkpoint::read_checkpoint` meets its contract: past the refusal the file has an entry for each of the lent buffer.
use Rattle.std.proofs.Common.{◌∙◌, sym, ap, length, arith}
use Rattle.settings.specs.declared.Head.{Head}
use Rattle.settings.specs.Refusals as Call
use Rattle.settings.proofs.Laws.{known}
use Rattle.checkpoint.proofs.Told.{read_of, read_done, read_refused}
use Rattle.checkpoint.proofs.read_checkpoint.Goals as goal

pub returns-in_err-check_read_checkpoint : goal.returns-in_err-check_read_checkpoint
returns-in_err-check_read_checkpoint c =
    let a = c.args in
    read_refused c.head-h.result a.file.now a.f.now _ _ c.from_residual.ensures.1 c.in_err-check_read_checkpoint.ensures
    ∙ ap (read_of a.file.now a.f.now) c.head-h.ensures

pub read_entries-requires : goal.read_entries-requires
read_entries-requires c =
    let a = c.args in
    let k = known (Call.read_checkpoint c.head-h.result (length a.f.now)) (sym c.in_ok-check_read_checkpoint.ensures) in
    omega (arith, ap (λ (h : Head). h.length) c.head-h.ensures, k.1.1.1.1.0.size, k.1.1.1.1.1.0)

pub returns : goal.returns
returns c =
    let a = c.args in
    read_done c.head-h.result _ a.file.now a.f.now _ c.in_ok-check_read_checkpoint.ensures c.from.ensures c.read_entries.ensures
    ∙ ap (read_of a.file.now a.f.now) c.head-h.ensures
