-- Any two outcomes that the contract of a public operation allows on the same input coincide: the answer, and the lent buffer.
use mathlib.Core.Path.{◌≡◌, sym, ap, ◌∙◌}
use contract.Lifetimes.{Lfts}
use denote.Triple.Clauses.{AtExit}
use borrow.Fn.World.{ArgsD, ResD}
use Rattle.settings.proofs.Same.{same_answer}
use Rattle.settings.proofs.Outcome.{both}
use Rattle.lossless.specs.Lossless.{Reply}
use Rattle.lossless.proofs.Outcomes.{same_answers}
use Rattle.lossless.specs.contracts.lossless
use Rattle.lossless.proofs.lossless.Reads as answers
use Rattle.lossless.specs.contracts.reverse
use Rattle.lossless.proofs.reverse.Reads as reverses

module _ (κs : Lfts 0) (a : ArgsD lossless.signature κs) where
  pub lossless_one : (r q : ResD lossless.signature κs) (t u : AtExit lossless.ended κs) → answers.Post κs a r t → answers.Post κs a q u → r ≡ q
  lossless_one r q t u p p' = same_answers r q (ap (λ (w : Reply). w.answer) (p ∙ sym p'))

module _ (κs : Lfts 2) (a : ArgsD reverse.signature κs) where
  pub reverse_one : (r q : ResD reverse.signature κs) (s t : AtExit reverse.ended κs) → reverses.Post κs a r s → reverses.Post κs a q t → (r ≡ q) × (s.1.1.0.now ≡ t.1.1.0.now)
  reverse_one r q s t p p' = let e = both (p ∙ sym p') in (same_answer r q e.0, e.1)
