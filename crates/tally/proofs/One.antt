-- Any two outcomes that a contract, as the checker reads it (`Post`), allows on the same input coincide: what is returned, and what is lent and written.
use mathlib.Core.Path.{◌≡◌, sym, ap, ◌∙◌}
use contract.Lifetimes.{Lfts}
use denote.Triple.Clauses.{AtExit}
use borrow.Fn.World.{ArgsD, ResD}
use Rattle.settings.proofs.Same.{same_answer}
use Rattle.settings.proofs.Outcome.{both}
use Rattle.tally.proofs.Outcomes.{same_tallied}
use Rattle.tally.specs.Tally.{Entered}
use Rattle.tally.specs.contracts.tally
use Rattle.tally.proofs.tally.Reads as tally-reads
use Rattle.tally.specs.contracts.write_entry
use Rattle.tally.proofs.write_entry.Reads as write-entry-reads
use Rattle.tally.specs.contracts.write_tally
use Rattle.tally.proofs.write_tally.Reads as write-tally-reads
use Rattle.tally.specs.contracts.read_tally
use Rattle.tally.proofs.read_tally.Reads as read-tally-reads

pub tally_one : (κs : Lfts 1) (a : ArgsD tally.signature κs) (r q : ResD tally.signature κs) (s t : AtExit tally.ended κs)
    → tally-reads.Post κs a r s → tally-reads.Post κs a q t → r ≡ q
tally_one κs a r q s t p p' = same_tallied r q (p ∙ sym p')

pub write_entry_one : (κs : Lfts 2) (a : ArgsD write_entry.signature κs) (r q : ResD write_entry.signature κs) (s t : AtExit write_entry.ended κs)
    → write-entry-reads.Post κs a r s → write-entry-reads.Post κs a q t
    → (r ≡ q) × (s.1.1.1.1.1.0.now ≡ t.1.1.1.1.1.0.now) × (s.1.1.1.1.1.1.0.now ≡ t.1.1.1.1.1.1.0.now)
write_entry_one κs a r q s t p p' =
    let e = p ∙ sym p' in
    (same_answer r q (ap (λ (w : Entered). w.number) e), ap (λ (w : Entered). w.f) e, ap (λ (w : Entered). w.tally) e)

pub write_tally_one : (κs : Lfts 2) (a : ArgsD write_tally.signature κs) (r q : ResD write_tally.signature κs) (s t : AtExit write_tally.ended κs)
    → write-tally-reads.Post κs a r s → write-tally-reads.Post κs a q t → (r ≡ q) × (s.1.0.now ≡ t.1.0.now)
write_tally_one κs a r q s t p p' = let e = both (p ∙ sym p') in (same_answer r q e.0, e.1)

pub read_tally_one : (κs : Lfts 2) (a : ArgsD read_tally.signature κs) (r q : ResD read_tally.signature κs) (s t : AtExit read_tally.ended κs)
    → read-tally-reads.Post κs a r s → read-tally-reads.Post κs a q t → (r ≡ q) × (s.1.0.now ≡ t.1.0.now)
read_tally_one κs a r q s t p p' = let e = both (p ∙ sym p') in (same_answer r q e.0, e.1)
