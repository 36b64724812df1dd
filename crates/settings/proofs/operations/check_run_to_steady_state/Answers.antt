-- `settings::operations::check_run_to_steady_state` meets its contract: what one test refuses, the whole list does.
use Rattle.std.proofs.Common.{[], ◌∷◌}
use Rattle.settings.specs.Refusals.{sides, lengths, rates, floor, force, faces, tolerance, steps}
use Rattle.settings.proofs.Numbers.{ended, went_on}
use Rattle.settings.proofs.operations.check_run_to_steady_state.Goals as goal

pub returns-in_err-lengths : goal.returns-in_err-lengths
returns-in_err-lengths c =
    let a = c.args in
    ended (sides a.s ∷ lengths a.s 9 a.f ∷ lengths a.s 9 a.post ∷ []) (lengths a.s 2 a.u ∷ [])
    (rates a.s ∷ floor a.s ∷ force a.s ∷ faces a.s ∷ tolerance a.t ∷ steps a.n ∷ []) _ _ c.from_residual-in_err-lengths.ensures.1
    c.in_ok-both_populations.ensures c.in_err-lengths.ensures

pub returns-in_err-stepping : goal.returns-in_err-stepping
returns-in_err-stepping c =
    let a = c.args in
    ended (sides a.s ∷ lengths a.s 9 a.f ∷ lengths a.s 9 a.post ∷ lengths a.s 2 a.u ∷ [])
    (rates a.s ∷ floor a.s ∷ force a.s ∷ faces a.s ∷ []) (tolerance a.t ∷ steps a.n ∷ []) _ _ c.from_residual-in_err-stepping.ensures.1
    (went_on (sides a.s ∷ lengths a.s 9 a.f ∷ lengths a.s 9 a.post ∷ []) (lengths a.s 2 a.u ∷ []) _ c.in_ok-both_populations.ensures
    c.in_ok-lengths.ensures) c.in_err-stepping.ensures
