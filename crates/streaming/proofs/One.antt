-- Any two outcomes that the contract of a public operation allows on the same input coincide: the answer, and the lent buffer.
use mathlib.Core.Path.{◌≡◌, sym, ◌∙◌}
use contract.Lifetimes.{Lfts}
use denote.Triple.Clauses.{AtExit}
use borrow.Fn.World.{ArgsD, ResD}
use Rattle.settings.proofs.Same.{same_answer}
use Rattle.settings.proofs.Outcome.{both}
use Rattle.streaming.specs.contracts.stream_with_faces
use Rattle.streaming.proofs.stream_with_faces.Reads as reads

module _ (κs : Lfts 2) (a : ArgsD stream_with_faces.signature κs) where
  pub stream_with_faces_one : (r q : ResD stream_with_faces.signature κs) (s t : AtExit stream_with_faces.ended κs) → reads.Post κs a r s → reads.Post κs a q t → (r ≡ q) × (s.1.1.0.now ≡ t.1.1.0.now)
  stream_with_faces_one r q s t p p' = let e = both (p ∙ sym p') in (same_answer r q e.0, e.1)
