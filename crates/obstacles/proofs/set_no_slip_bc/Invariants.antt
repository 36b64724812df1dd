use Rattle.std.proofs.Common.{◌≡◌, drop}
use Rattle.settings.specs.Tests.{outside, falls}
use Rattle.obstacles.proofs.Ascent.{falls_from}
use Rattle.obstacles.proofs.Writing.{one_by_one}
use Rattle.obstacles.proofs.set_no_slip_bc.Given as goal

-- the places that were passed are inside
abbrev pub invariant-loop-o : goal.invariant-loop-o
invariant-loop-o l = outside l.s.nx l.s.ny l.list ≡ outside l.s.nx l.s.ny (drop l.o-index l.list)

-- the obstacles that were passed ascend, to below `next`
abbrev pub invariant-loop-o-2 : goal.invariant-loop-o-2
invariant-loop-o-2 l = falls l.s.nx l.list ≡ falls_from l.s.nx l.next (drop l.o-index l.list)

-- what is left of the list makes of f what the whole list makes of the populations before
abbrev pub invariant-loop-o-3 : goal.invariant-loop-o-3
invariant-loop-o-3 l = one_by_one l.s.nx l.s.ny l.f (drop l.o-index l.list) ≡ one_by_one l.s.nx l.s.ny l.initial.f l.list
