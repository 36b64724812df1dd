-- `grid::copy` meets its contract. The loop's invariant: the first k entries are copied and joined.
use Rattle.std.proofs.Common.{rules, sym, refl, arith, get_or}
use Rattle.std.proofs.lemmas.List.{take_more, take_more_set}
use Rattle.number.proofs.Joined.{joined_none, joined_more}
use Rattle.grid.proofs.copy.Goals as goal

pub loop-k-init : goal.loop-k-init
loop-k-init c = record { size = sym c.requires; copied = refl; joined = joined_none _ }

pub loop-k-preserved : goal.loop-k-preserved
loop-k-preserved c =
    let before = c.loop-k.invariant in
    let k = c.loop-k.k in
    let src = c.args.src.now in
    record {
      size = search rules;
      copied = grind (arith, take_more_set c.loop-k.dst k (get_or src k 0), take_more src k 0);
      joined = joined_more _ _ _ _ before.joined c.raised-bits.ensures;
    }
