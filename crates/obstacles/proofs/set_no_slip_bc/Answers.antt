-- `obstacles::set_no_slip_bc` meets its contract: what each of its three loops found or did is the operation's outcome.
use Rattle.std.proofs.Common.{sym, ◌∙◌}
use Rattle.obstacles.proofs.Lists.{none_left, none_falls, refused_place, refused_order}
use Rattle.obstacles.proofs.Writing.{turned_done}
use Rattle.obstacles.proofs.Outcome.{size_of, size_refuses, place_refuses, order_refuses, none_refuses}
use Rattle.obstacles.proofs.set_no_slip_bc.Goals as goal

pub returns-in_err-check_populations : goal.returns-in_err-check_populations
returns-in_err-check_populations c =
    let a = c.args in size_refuses a.s a.list.now a.f.now _ _ c.from_residual.ensures.1 c.in_err-check_populations.ensures

pub returns-in_err-check_place : goal.returns-in_err-check_place
returns-in_err-check_place c =
    let a = c.args in
    place_refuses a.s a.list.now a.f.now _ _ c.from_residual-in_err-check_place.ensures.1 c.in_ok-check_populations.ensures
    (refused_place a.s.nx a.s.ny a.list.now c.loop-o.o-index _ c.loop-o-test.true c.loop-o.invariant c.in_err-check_place.ensures)

pub returns-in_err-next : goal.returns-in_err-next
returns-in_err-next c =
    let a = c.args in
    let within = c.loop-o.invariant ∙ none_left a.s.nx a.s.ny a.list.now c.loop-o.o-index c.loop-o-test.false in
    order_refuses a.s a.list.now a.f.now _ _ c.from_residual-in_err-next.ensures.1 c.in_ok-check_populations.ensures within
    (refused_order a.s.nx c.loop-o-2.next a.list.now c.loop-o-2.o-index _ c.loop-o-2-test.true c.loop-o-2.invariant c.in_err-next.ensures.order)

pub bounce-requires-clause-f_len : goal.bounce-requires-clause-f_len
bounce-requires-clause-f_len c = c.loop-o-3.auto.f ∙ size_of c.args.s _ c.in_ok-check_populations.ensures

pub returns : goal.returns
returns c =
    let a = c.args in
    let within = c.loop-o.invariant ∙ none_left a.s.nx a.s.ny a.list.now c.loop-o.o-index c.loop-o-test.false in
    let ascending = c.loop-o-2.invariant ∙ none_falls a.s.nx c.loop-o-2.next a.list.now c.loop-o-2.o-index c.loop-o-2-test.false in
    let turned = turned_done a.s.nx a.s.ny a.list.now c.loop-o-3.f c.loop-o-3.o-index c.loop-o-3-test.false in
    none_refuses a.s a.list.now a.f.now c.loop-o-3.f c.in_ok-check_populations.ensures within ascending (sym turned ∙ c.loop-o-3.invariant)
