-- `checkpoint::checkpoint_sides` meets its contract.
use Rattle.std.proofs.Common.{ap, ◌∙◌}
use Rattle.settings.specs.declared.Head.{Head}
use Rattle.settings.specs.Refusals as Call
use Rattle.settings.specs.Refusals.{refusal}
use Rattle.checkpoint.specs.Checkpoint.{told}
use Rattle.checkpoint.proofs.Told.{told_done, told_refused}
use Rattle.checkpoint.proofs.checkpoint_sides.Goals as goal

pub returns-in_err-check_checkpoint_sides : goal.returns-in_err-check_checkpoint_sides
returns-in_err-check_checkpoint_sides c =
    told_refused c.head-h.result _ _ c.from_residual.ensures.1 c.in_err-check_checkpoint_sides.ensures
    ∙ ap (λ (h : Head). told (refusal (Call.checkpoint_sides h)) h) c.head-h.ensures

pub returns : goal.returns
returns c =
    told_done c.head-h.result _ c.in_ok-check_checkpoint_sides.ensures c.from.ensures
    ∙ ap (λ (h : Head). told (refusal (Call.checkpoint_sides h)) h) c.head-h.ensures
