-- `sums::stretch` meets its contract: the fold over the entries is their sum, wrapped once.
use Rattle.std.proofs.Common.{◌≡◌, ◌+◌, ◌∙◌, rules}
use Rattle.std.specs.List.{fold}
use Rattle.sums.specs.Sums.{wrapped}
use Rattle.sums.proofs.Sums.{all_folded}
use Rattle.sums.proofs.stretch.Goals as goal

pub returns : goal.returns
returns c =
    let e : c.fold.result ≡ fold (λ s x. wrapped (s + x)) 0 c.args.entries.now = search rules in
    e ∙ all_folded c.args.entries.now
