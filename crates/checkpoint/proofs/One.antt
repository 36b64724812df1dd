-- Any two outcomes that a contract, as the checker reads it (`Post`), allows on the same input coincide: what is returned and the buffer that is written.
use mathlib.Core.Path.{◌≡◌, sym, ap, ◌∙◌}
use contract.Lifetimes.{Lfts}
use denote.Triple.Clauses.{AtExit}
use borrow.Fn.World.{ArgsD, ResD}
use Rattle.settings.proofs.Same.{same_answer}
use Rattle.settings.proofs.Outcome.{both}
use Rattle.checkpoint.specs.Checkpoint.{Read}
use Rattle.checkpoint.proofs.Told.{same_told}
use Rattle.checkpoint.specs.contracts.write_checkpoint
use Rattle.checkpoint.proofs.write_checkpoint.Reads as write-checkpoint-reads
use Rattle.checkpoint.specs.contracts.checkpoint_sides
use Rattle.checkpoint.proofs.checkpoint_sides.Reads as checkpoint-sides-reads
use Rattle.checkpoint.specs.contracts.read_checkpoint
use Rattle.checkpoint.proofs.read_checkpoint.Reads as read-checkpoint-reads

pub write_checkpoint_one : (κs : Lfts 2) (a : ArgsD write_checkpoint.signature κs) (r q : ResD write_checkpoint.signature κs) (s t : AtExit write_checkpoint.ended κs)
    → write-checkpoint-reads.Post κs a r s → write-checkpoint-reads.Post κs a q t → (r ≡ q) × (s.1.1.1.0.now ≡ t.1.1.1.0.now)
write_checkpoint_one κs a r q s t p p' = let e = both (p ∙ sym p') in (same_answer r q e.0, e.1)

pub checkpoint_sides_one : (κs : Lfts 1) (a : ArgsD checkpoint_sides.signature κs) (r q : ResD checkpoint_sides.signature κs) (s t : AtExit checkpoint_sides.ended κs)
    → checkpoint-sides-reads.Post κs a r s → checkpoint-sides-reads.Post κs a q t → r ≡ q
checkpoint_sides_one κs a r q s t p p' = same_told r q (p ∙ sym p')

pub read_checkpoint_one : (κs : Lfts 2) (a : ArgsD read_checkpoint.signature κs) (r q : ResD read_checkpoint.signature κs) (s t : AtExit read_checkpoint.ended κs)
    → read-checkpoint-reads.Post κs a r s → read-checkpoint-reads.Post κs a q t → (r ≡ q) × (s.1.0.now ≡ t.1.0.now)
read_checkpoint_one κs a r q s t p p' =
    let e = p ∙ sym p' in (same_told r q (ap (λ (d : Read). d.stored) e), ap (λ (d : Read). d.f) e)
