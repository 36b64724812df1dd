-- `grid::joined` meets its contract: the fold over the entries joins them.
use Rattle.std.proofs.Common.{◌≡◌, ◌∙◌, rules}
use Rattle.std.specs.List.{fold}
use Rattle.std.specs.Int.Bits.{bit_or}
use Rattle.number.specs.Joined.{raised_of}
use Rattle.grid.proofs.Finite.{joined_folded}
use Rattle.grid.proofs.joined.Goals as goal

pub returns : goal.returns
returns c =
    let e : c.fold.result ≡ fold (λ r x. bit_or r (raised_of x)) 0 c.args.b.now = search rules in e ∙ joined_folded c.args.b.now
