-- `runs::steps::advance` meets its contract: what it collides into post it carries on into f, and the bits that it wrote tell of f.
use native.Mathlib.Omega.{arith}
use Rattle.runs.proofs.Stepwise.{one_step_lem, told_after}
use Rattle.runs.proofs.steps.advance.Goals as goal

pub carry-bits-requires : goal.carry-bits-requires
carry-bits-requires c =
    let ready = c.requires.0 in record { grid = ready.grid; read = omega arith; written = omega arith }

pub returns : goal.returns
returns c =
    record { stepped = one_step_lem _ _ c.collide.ensures c.carry-bits.ensures.is; told = told_after _ _ c.collide.ensures c.carry-bits.ensures.joined c.clear.ensures }
