-- `runs::passes::collide` meets its contract: each kind's rates have its rule.
use Rattle.cell.specs.Cell.{collided_by}
use Rattle.runs.proofs.Cellwise.{all_cells}
use Rattle.runs.proofs.passes.collide.Goals as goal

pub returns-in-Bgk : goal.returns-in-Bgk
unfolding collided_by
returns-in-Bgk c = all_cells c.args.s c.args.f.now c.in-Bgk.is (rw (c.new.ensures, c.tau-tau.ensures)) c.collide_by.ensures

pub returns-in-Mrt : goal.returns-in-Mrt
unfolding collided_by
returns-in-Mrt c = all_cells c.args.s c.args.f.now c.in-Mrt.is (rw (c.new-in-Mrt.ensures, c.tau-tau.ensures)) c.collide_by-in-Mrt.ensures

pub returns-in-Trt : goal.returns-in-Trt
unfolding collided_by
returns-in-Trt c = all_cells c.args.s c.args.f.now c.in-Trt.is (rw (c.new-in-Trt.ensures, c.tau-tau.ensures)) c.collide_by-in-Trt.ensures
