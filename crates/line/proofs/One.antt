-- Any two outcomes that a contract allows on the same input coincide.
use mathlib.Core.Path.{◌≡◌, sym, ◌∙◌}
use contract.Lifetimes.{Lfts}
use denote.Triple.Clauses.{AtExit}
use borrow.Fn.World.{ArgsD, ResD}
use Rattle.line.specs.contracts.reply
use Rattle.line.proofs.reply.Reads as replies

module _ (κs : Lfts 1) (a : ArgsD reply.signature κs) where
  pub reply_one : (r q : ResD reply.signature κs) (t u : AtExit reply.ended κs) → replies.Post κs a r t → replies.Post κs a q u → r ≡ q
  reply_one r q t u p p' = p.0 ∙ sym p'.0
