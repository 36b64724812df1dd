-- `MrtRates::relaxed_moments` meets its contract: the nine entries are the nine calls', at the rows of M.
use mathlib.Core.List.{[]}
use lib.ListN.{get_or}
use Rattle.number.specs.Nine.{at}
use Rattle.number.proofs.Nine.{nine_of}
use Rattle.cell.specs.Cell.{moment_rates, relaxed_by, relaxed_moments}
use Rattle.cell.proofs.mrt.MrtRates.relaxed_moments.Goals as goal

pub returns : goal.returns
unfolding relaxed_moments moment_rates
returns c =
    let s = c.args in
    rw (← c.basis-m.ensures) (nine_of (λ k. relaxed_by (at (moment_rates s.self) k) (get_or c.basis-m.result k []) s.f s.feq s.src)
    c.relaxed.ensures
    c.relaxed-2.ensures
    c.relaxed-3.ensures
    c.relaxed-4.ensures
    c.relaxed-5.ensures
    c.relaxed-6.ensures
    c.relaxed-7.ensures
    c.relaxed-8.ensures
    c.relaxed-9.ensures)
