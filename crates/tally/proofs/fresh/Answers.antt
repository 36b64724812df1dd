-- `tally::fresh` meets its contract. The loop's invariant: the first i planes' numbers stand in t.
use Rattle.std.proofs.Common.{◌*◌, ◌∙◌, ap, refl, arith}
use Rattle.sums.specs.Sums.{wrapped}
use Rattle.sums.proofs.Sums.{sum_part}
use Rattle.tally.specs.Tally.{plane}
use Rattle.tally.proofs.Planes.{planes_none, planes_more, planes_all, stretch_in}
use Rattle.tally.proofs.fresh.Goals as goal

pub loop-i-init : goal.loop-i-init
loop-i-init c = planes_none _ _ _ refl

pub overflow_mul-i : goal.overflow_mul-i
overflow_mul-i c = omega (arith, stretch_in c.args.n c.loop-i.i (omega arith), c.requires.0)

pub loop-i-preserved : goal.loop-i-preserved
unfolding plane
loop-i-preserved c =
    let a = c.args in
    let i = c.loop-i.i in
    let inside = stretch_in a.n i (omega arith) in
    planes_more _ _ _ i _ (omega arith) c.loop-i.invariant
    (c.stretch.ensures ∙ ap wrapped (sum_part a.f.now (i * a.n) _ a.n (omega arith) (omega (arith, inside, c.requires.1))))

pub returns : goal.returns
returns c =
    let before = c.loop-i.invariant in
    planes_all _ _ _ c.loop-i.i _ (omega arith) before
    (c.stretch-2.ensures ∙ ap wrapped (sum_part c.loop-i.t 1 9 9 refl (omega (arith, before.size))))
