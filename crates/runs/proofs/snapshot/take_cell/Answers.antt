-- `runs::snapshot::take_cell` meets its contract: both components are taken in before either is written.
use native.Mathlib.Omega.{arith}
use lib.ListN.{length-set}
use Rattle.runs.proofs.snapshot.take_cell.Goals as goal

pub returns : goal.returns
returns c =
    rw (c.pattern-2.ensures, c.pattern.ensures, c.take_in-max-2.ensures, c.value-2.ensures, c.take_in-max.ensures, c.value.ensures)

pub bounds-u-at-4 : goal.bounds-u-at-4
bounds-u-at-4 c = simp length-set (omega arith)

pub shape_of-u : goal.shape_of-u
shape_of-u c = simp length-set
