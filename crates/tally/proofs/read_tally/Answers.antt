-- `tally::read_tally` meets its contract: a refusal leaves the lent tally, and else it holds the file's ten numbers.
use Rattle.std.proofs.Common.{◌∙◌, sym, refl, ap, ℕ, List, length}
use Rattle.settings.specs.Outcome.{outcome}
use Rattle.settings.proofs.Outcome.{answered, refused_by}
use Rattle.tally.proofs.Files.{accepted_as, asked, ten_length}
use Rattle.tally.proofs.read_tally.Goals as goal

pub returns-in_err-check_read_tally : goal.returns-in_err-check_read_tally
returns-in_err-check_read_tally c =
    let a = c.args in
    refused_by _ (λ n. outcome n a.t.now) _ _ c.from_residual.ensures.1
    (c.in_err-check_read_tally.ensures ∙ asked _ _ c.part-count.ensures c.part-version.ensures c.ten-numbers.ensures)

pub copy_from_slice-requires : goal.copy_from_slice-requires
copy_from_slice-requires c =
    let a = c.args in
    let zero = c.in_ok-check_read_tally.ensures ∙ asked _ _ c.part-count.ensures c.part-version.ensures c.ten-numbers.ensures in
    (accepted_as a.file.now (length a.t.now) (sym zero)).lent ∙ sym (ap length c.ten-numbers.ensures ∙ ten_length a.file.now)

pub returns : goal.returns
returns c =
    answered _ (c.in_ok-check_read_tally.ensures ∙ asked _ _ c.part-count.ensures c.part-version.ensures c.ten-numbers.ensures) refl
    (ap (λ (t : List ℕ). outcome 0 t) (c.copy_from_slice.ensures.after ∙ c.ten-numbers.ensures))
