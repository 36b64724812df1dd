-- `faults::sums_bad` meets its contract: the nine numbers are a part of the ten.
use Rattle.std.proofs.Common.{ap, refl, ℕ, ◌∙◌, get_or, not, eqb, arith}
use Rattle.sums.specs.Sums.{wrapped}
use Rattle.sums.proofs.Sums.{sum_part}
use Rattle.settings.specs.Tests.{sums_bad}
use Rattle.settings.proofs.faults.sums_bad.Goals as goal

pub returns : goal.returns
unfolding sums_bad
returns c =
    let t = c.args.t.now in
    ap (λ (n : ℕ). not (eqb n (get_or t 0 0))) (c.stretch.ensures ∙ ap wrapped (sum_part t 1 9 9 refl (omega (arith, c.type_inv.t))))
