-- `runs::steady::steady_steps` meets its contract. The loop's invariant: the run is under way after `taken` steps.
use native.Mathlib.Omega.{arith}
use Rattle.runs.proofs.Stepwise.{first_told}
use Rattle.runs.proofs.Settling.{begun, on, ruined, settled}
use Rattle.runs.proofs.steady.steady_steps.Goals as goal

pub loop-taken-init : goal.loop-taken-init
loop-taken-init c = begun _ _ c.requires (first_told c.joined.ensures c.clear-finite.ensures)

pub loop-taken-preserved : goal.loop-taken-preserved
loop-taken-preserved c =
    on _ _ c.loop-taken.invariant c.loop-taken-test.true c.advance-finite.ensures.stepped c.advance-finite.ensures.told c.check_after.ensures c.in-GoesOn.is (omega arith)

pub returns-in-Bad : goal.returns-in-Bad
returns-in-Bad c =
    ruined _ _ c.loop-taken.invariant c.loop-taken-test.true c.advance-finite.ensures.stepped c.advance-finite.ensures.told c.check_after.ensures c.in-Bad.is

pub returns-in-Settles : goal.returns-in-Settles
returns-in-Settles c =
    settled _ _ c.loop-taken.invariant c.loop-taken-test.true c.advance-finite.ensures.stepped c.advance-finite.ensures.told c.check_after.ensures c.in-Settles.is
