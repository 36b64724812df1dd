-- Any two outcomes that a contract, as the checker reads it (`Post`), allows on the same input coincide: what is returned and the buffer that is written.
use mathlib.Core.Path.{◌≡◌, sym, ap, ◌∙◌}
use native.Mathlib.Omega.{arith}
use contract.Lifetimes.{Lfts}
use denote.Triple.Clauses.{AtExit}
use borrow.Fn.World.{ArgsD, ResD}
use Rattle.std.specs.Prelude.{Float, Result, Ok, Err}
use Rattle.settings.proofs.Outcome.{both}
use Rattle.settings.proofs.Numbers.{some_number}
use Rattle.settings.proofs.Same.{same_refusal, same_answer}
use Rattle.settings.specs.declared.refused.Refusal.{Refusal}
use Rattle.readings.specs.declared.answers.Velocity.{Velocity}
use Rattle.readings.specs.Readings.{Reading, reading_of, VelocityReading, velocity_reading_of}
use Rattle.readings.specs.contracts.initialize
use Rattle.readings.proofs.initialize.Reads as initialize-reads
use Rattle.readings.specs.contracts.density
use Rattle.readings.proofs.density.Reads as density-reads
use Rattle.readings.specs.contracts.velocity
use Rattle.readings.proofs.velocity.Reads as velocity-reads
use Rattle.readings.specs.contracts.velocity_field
use Rattle.readings.proofs.velocity_field.Reads as velocity-field-reads
use Rattle.readings.specs.contracts.total_mass
use Rattle.readings.proofs.total_mass.Reads as total-mass-reads
use Rattle.readings.specs.contracts.kinetic_energy
use Rattle.readings.proofs.kinetic_energy.Reads as kinetic-energy-reads
use Rattle.readings.specs.contracts.plane_refusal
use Rattle.readings.proofs.plane_refusal.Reads as plane-refusal-reads
use Rattle.readings.specs.contracts.plane
use Rattle.readings.proofs.plane.Reads as plane-reads

-- ---- what is answered is known by what it is read as

same_reading : (r q : Result Float Refusal) → reading_of r ≡ reading_of q → r ≡ q
same_reading (Ok x) (Ok y) e = ap (λ (w : Reading). Ok w.value) e
same_reading (Ok x) (Err why) e = let some = some_number why in absurd (omega (arith, ap (λ (w : Reading). w.number) e))
same_reading (Err why) (Ok y) e = let some = some_number why in absurd (omega (arith, ap (λ (w : Reading). w.number) e))
same_reading (Err why) (Err other) e = ap Err (same_refusal why other (ap (λ (w : Reading). w.number) e))

same_velocity : (r q : Result Velocity Refusal) → velocity_reading_of r ≡ velocity_reading_of q → r ≡ q
same_velocity (Ok u) (Ok v) e = ap (λ (w : VelocityReading). Ok (record { ux = w.ux; uy = w.uy })) e
same_velocity (Ok u) (Err why) e = let some = some_number why in absurd (omega (arith, ap (λ (w : VelocityReading). w.number) e))
same_velocity (Err why) (Ok v) e = let some = some_number why in absurd (omega (arith, ap (λ (w : VelocityReading). w.number) e))
same_velocity (Err why) (Err other) e = ap Err (same_refusal why other (ap (λ (w : VelocityReading). w.number) e))

-- ---- a number is returned, or a record

pub density_one : (κs : Lfts 1) (a : ArgsD density.signature κs) (r q : ResD density.signature κs) (s t : AtExit density.ended κs)
    → density-reads.Post κs a r s → density-reads.Post κs a q t → r ≡ q
density_one κs a r q s t p p' = same_reading r q (p ∙ sym p')

pub velocity_one : (κs : Lfts 1) (a : ArgsD velocity.signature κs) (r q : ResD velocity.signature κs) (s t : AtExit velocity.ended κs)
    → velocity-reads.Post κs a r s → velocity-reads.Post κs a q t → r ≡ q
velocity_one κs a r q s t p p' = same_velocity r q (p ∙ sym p')

pub total_mass_one : (κs : Lfts 1) (a : ArgsD total_mass.signature κs) (r q : ResD total_mass.signature κs) (s t : AtExit total_mass.ended κs)
    → total-mass-reads.Post κs a r s → total-mass-reads.Post κs a q t → r ≡ q
total_mass_one κs a r q s t p p' = same_reading r q (p ∙ sym p')

pub kinetic_energy_one : (κs : Lfts 1) (a : ArgsD kinetic_energy.signature κs) (r q : ResD kinetic_energy.signature κs) (s t : AtExit kinetic_energy.ended κs)
    → kinetic-energy-reads.Post κs a r s → kinetic-energy-reads.Post κs a q t → r ≡ q
kinetic_energy_one κs a r q s t p p' = same_reading r q (p ∙ sym p')

-- ---- a buffer is written

pub initialize_one : (κs : Lfts 2) (a : ArgsD initialize.signature κs) (r q : ResD initialize.signature κs) (s t : AtExit initialize.ended κs)
    → initialize-reads.Post κs a r s → initialize-reads.Post κs a q t → (r ≡ q) × (s.1.1.0.now ≡ t.1.1.0.now)
initialize_one κs a r q s t p p' = let e = both (p ∙ sym p') in (same_answer r q e.0, e.1)

pub velocity_field_one : (κs : Lfts 2) (a : ArgsD velocity_field.signature κs) (r q : ResD velocity_field.signature κs) (s t : AtExit velocity_field.ended κs)
    → velocity-field-reads.Post κs a r s → velocity-field-reads.Post κs a q t → (r ≡ q) × (s.1.1.0.now ≡ t.1.1.0.now)
velocity_field_one κs a r q s t p p' = let e = both (p ∙ sym p') in (same_answer r q e.0, e.1)

-- ---- a plane: why it is refused, and the part

pub plane_refusal_one : (κs : Lfts 1) (a : ArgsD plane_refusal.signature κs) (r q : Result Unit Refusal) (s t : AtExit plane_refusal.ended κs)
    → plane-refusal-reads.Post κs a r s → plane-refusal-reads.Post κs a q t → r ≡ q
plane_refusal_one κs a r q s t p p' = same_answer r q (p ∙ sym p')

-- the part: where it lies, and what it holds
pub plane_one : (κs : Lfts 1) (a : ArgsD plane.signature κs) (r q : ResD plane.signature κs) (s t : AtExit plane.ended κs)
    → plane-reads.Post κs a r s → plane-reads.Post κs a q t → (r.ref_ptr ≡ q.ref_ptr) × (r.now ≡ q.now)
plane_one κs a r q s t p p' =
    let block = p.block ∙ sym p'.block in
    let place = p.place ∙ sym p'.place in
    ((λ i. (block i, place i)), p.holds ∙ sym p'.holds)
