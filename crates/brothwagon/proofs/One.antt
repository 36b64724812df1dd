-- Any two outcomes that the contract of an exported function allows on the same input coincide: the number, and all that a host lent.
use mathlib.Core.Path.{◌≡◌, refl, sym, ap, ◌∙◌}
use Prim.Native.Nat.{ℕ}
use seplogic.Ra.Ura.{Ura}
use base.Logic.{SProp}
use prog.Memory.{Memory}
use prog.Routine.{Routine}
use types.Logic.{Logic}
use contract.Lifetimes.{Lfts}
use contract.Monad.{Fun, fact}
use denote.Triple.Clauses.{AtExit}
use borrow.Fn.World.{ArgsD}
use Rattle.settings.specs.Outcome.{outcome}
use Rattle.settings.proofs.Outcome.{both}
use Rattle.tally.specs.Tally.{Entered}
use Rattle.runs.proofs.One.{all_stepped}
use Rattle.obstacles.specs.Obstacles.{no_slip_set}
use Rattle.host.specs.Host.{settings_of}
use Rattle.brothwagon.specs.Exported.{ReadTold, SteadyTold}
use Rattle.brothwagon.specs.contracts.brothwagon_initialize
use Rattle.brothwagon.proofs.brothwagon_initialize.Reads as initialize-reads
use Rattle.brothwagon.specs.contracts.brothwagon_density
use Rattle.brothwagon.proofs.brothwagon_density.Reads as density-reads
use Rattle.brothwagon.specs.contracts.brothwagon_velocity
use Rattle.brothwagon.proofs.brothwagon_velocity.Reads as velocity-reads
use Rattle.brothwagon.specs.contracts.brothwagon_velocity_field
use Rattle.brothwagon.proofs.brothwagon_velocity_field.Reads as velocity-field-reads
use Rattle.brothwagon.specs.contracts.brothwagon_total_mass
use Rattle.brothwagon.proofs.brothwagon_total_mass.Reads as total-mass-reads
use Rattle.brothwagon.specs.contracts.brothwagon_kinetic_energy
use Rattle.brothwagon.proofs.brothwagon_kinetic_energy.Reads as kinetic-energy-reads
use Rattle.brothwagon.specs.contracts.brothwagon_plane
use Rattle.brothwagon.proofs.brothwagon_plane.Reads as plane-reads
use Rattle.brothwagon.specs.contracts.brothwagon_stream_with_faces
use Rattle.brothwagon.proofs.brothwagon_stream_with_faces.Reads as stream-with-faces-reads
use Rattle.brothwagon.specs.contracts.brothwagon_lossless
use Rattle.brothwagon.proofs.brothwagon_lossless.Reads as lossless-reads
use Rattle.brothwagon.specs.contracts.brothwagon_reverse
use Rattle.brothwagon.proofs.brothwagon_reverse.Reads as reverse-reads
use Rattle.brothwagon.specs.contracts.brothwagon_step
use Rattle.brothwagon.proofs.brothwagon_step.Reads as step-reads
use Rattle.brothwagon.specs.contracts.brothwagon_run
use Rattle.brothwagon.proofs.brothwagon_run.Reads as run-reads
use Rattle.brothwagon.specs.contracts.brothwagon_run_to_steady_state
use Rattle.brothwagon.proofs.brothwagon_run_to_steady_state.Reads as run-to-steady-state-reads
use Rattle.brothwagon.specs.contracts.brothwagon_set_no_slip_bc
use Rattle.brothwagon.specs.contracts.brothwagon_write_checkpoint
use Rattle.brothwagon.proofs.brothwagon_write_checkpoint.Reads as write-checkpoint-reads
use Rattle.brothwagon.specs.contracts.brothwagon_checkpoint_sides
use Rattle.brothwagon.proofs.brothwagon_checkpoint_sides.Reads as checkpoint-sides-reads
use Rattle.brothwagon.specs.contracts.brothwagon_read_checkpoint
use Rattle.brothwagon.proofs.brothwagon_read_checkpoint.Reads as read-checkpoint-reads
use Rattle.brothwagon.specs.contracts.brothwagon_tally
use Rattle.brothwagon.proofs.brothwagon_tally.Reads as tally-reads
use Rattle.brothwagon.specs.contracts.brothwagon_write_entry
use Rattle.brothwagon.proofs.brothwagon_write_entry.Reads as write-entry-reads
use Rattle.brothwagon.specs.contracts.brothwagon_write_tally
use Rattle.brothwagon.proofs.brothwagon_write_tally.Reads as write-tally-reads
use Rattle.brothwagon.specs.contracts.brothwagon_read_tally
use Rattle.brothwagon.proofs.brothwagon_read_tally.Reads as read-tally-reads

-- ---- the number, and a buffer

pub initialize_one : (κs : Lfts 3) (a : ArgsD brothwagon_initialize.signature κs) (r q : ℕ) (s t : AtExit brothwagon_initialize.ended κs)
    → initialize-reads.Post κs a r s → initialize-reads.Post κs a q t → (r ≡ q) × (s.1.1.0.now ≡ t.1.1.0.now)
initialize_one κs a r q s t p p' = both (p ∙ sym p')

pub density_one : (κs : Lfts 3) (a : ArgsD brothwagon_density.signature κs) (r q : ℕ) (s t : AtExit brothwagon_density.ended κs)
    → density-reads.Post κs a r s → density-reads.Post κs a q t → (r ≡ q) × (s.1.1.1.1.0.now ≡ t.1.1.1.1.0.now)
density_one κs a r q s t p p' = both (p ∙ sym p')

pub velocity_one : (κs : Lfts 3) (a : ArgsD brothwagon_velocity.signature κs) (r q : ℕ) (s t : AtExit brothwagon_velocity.ended κs)
    → velocity-reads.Post κs a r s → velocity-reads.Post κs a q t → (r ≡ q) × (s.1.1.1.1.0.now ≡ t.1.1.1.1.0.now)
velocity_one κs a r q s t p p' = both (p ∙ sym p')

pub velocity_field_one : (κs : Lfts 3) (a : ArgsD brothwagon_velocity_field.signature κs) (r q : ℕ) (s t : AtExit brothwagon_velocity_field.ended κs)
    → velocity-field-reads.Post κs a r s → velocity-field-reads.Post κs a q t → (r ≡ q) × (s.1.1.0.now ≡ t.1.1.0.now)
velocity_field_one κs a r q s t p p' = both (p ∙ sym p')

pub total_mass_one : (κs : Lfts 3) (a : ArgsD brothwagon_total_mass.signature κs) (r q : ℕ) (s t : AtExit brothwagon_total_mass.ended κs)
    → total-mass-reads.Post κs a r s → total-mass-reads.Post κs a q t → (r ≡ q) × (s.1.1.0.now ≡ t.1.1.0.now)
total_mass_one κs a r q s t p p' = both (p ∙ sym p')

pub kinetic_energy_one : (κs : Lfts 3) (a : ArgsD brothwagon_kinetic_energy.signature κs) (r q : ℕ) (s t : AtExit brothwagon_kinetic_energy.ended κs)
    → kinetic-energy-reads.Post κs a r s → kinetic-energy-reads.Post κs a q t → (r ≡ q) × (s.1.1.0.now ≡ t.1.1.0.now)
kinetic_energy_one κs a r q s t p p' = both (p ∙ sym p')

pub plane_one : (κs : Lfts 3) (a : ArgsD brothwagon_plane.signature κs) (r q : ℕ) (s t : AtExit brothwagon_plane.ended κs)
    → plane-reads.Post κs a r s → plane-reads.Post κs a q t → (r ≡ q) × (s.1.1.1.0.now ≡ t.1.1.1.0.now)
plane_one κs a r q s t p p' = both (p ∙ sym p')

pub stream_with_faces_one : (κs : Lfts 3) (a : ArgsD brothwagon_stream_with_faces.signature κs) (r q : ℕ) (s t : AtExit brothwagon_stream_with_faces.ended κs)
    → stream-with-faces-reads.Post κs a r s → stream-with-faces-reads.Post κs a q t → (r ≡ q) × (s.1.1.0.now ≡ t.1.1.0.now)
stream_with_faces_one κs a r q s t p p' = both (p ∙ sym p')

pub lossless_one : (κs : Lfts 2) (a : ArgsD brothwagon_lossless.signature κs) (r q : ℕ) (s t : AtExit brothwagon_lossless.ended κs)
    → lossless-reads.Post κs a r s → lossless-reads.Post κs a q t → (r ≡ q) × (s.1.0.now ≡ t.1.0.now)
lossless_one κs a r q s t p p' = both (p ∙ sym p')

pub reverse_one : (κs : Lfts 3) (a : ArgsD brothwagon_reverse.signature κs) (r q : ℕ) (s t : AtExit brothwagon_reverse.ended κs)
    → reverse-reads.Post κs a r s → reverse-reads.Post κs a q t → (r ≡ q) × (s.1.1.0.now ≡ t.1.1.0.now)
reverse_one κs a r q s t p p' = both (p ∙ sym p')

-- What the function ensures, written out: `no_slip_ensures_is` holds it to the clauses.
module _ (κs : Lfts 3) (a : ArgsD brothwagon_set_no_slip_bc.signature κs) where
  abbrev pub NoSlipEnsures : ℕ → AtExit brothwagon_set_no_slip_bc.ended κs → Type 0
  NoSlipEnsures r s = outcome r s.1.1.0.now ≡ no_slip_set (settings_of a.0.now) a.1.0.now a.1.1.0.now

  pub no_slip_ensures_is : {M : Type 1} {𝓤 : Ura M} (𝓛 : Logic 𝓤) (mem : Memory → SProp 𝓤) (run : Routine → Fun 𝓤)
      (r : ℕ) (s : AtExit brothwagon_set_no_slip_bc.ended κs)
      → (brothwagon_set_no_slip_bc.clauses 𝓛 mem run κs a).ensures tt r s ≡ fact 𝓤 (NoSlipEnsures r s)
  no_slip_ensures_is 𝓛 mem run r s = refl

  pub set_no_slip_bc_one : (r q : ℕ) (s t : AtExit brothwagon_set_no_slip_bc.ended κs) → NoSlipEnsures r s → NoSlipEnsures q t
      → (r ≡ q) × (s.1.1.0.now ≡ t.1.1.0.now)
  set_no_slip_bc_one r q s t p p' = both (p ∙ sym p')

pub write_checkpoint_one : (κs : Lfts 3) (a : ArgsD brothwagon_write_checkpoint.signature κs) (r q : ℕ) (s t : AtExit brothwagon_write_checkpoint.ended κs)
    → write-checkpoint-reads.Post κs a r s → write-checkpoint-reads.Post κs a q t → (r ≡ q) × (s.1.1.1.0.now ≡ t.1.1.1.0.now)
write_checkpoint_one κs a r q s t p p' = both (p ∙ sym p')

pub checkpoint_sides_one : (κs : Lfts 2) (a : ArgsD brothwagon_checkpoint_sides.signature κs) (r q : ℕ) (s t : AtExit brothwagon_checkpoint_sides.ended κs)
    → checkpoint-sides-reads.Post κs a r s → checkpoint-sides-reads.Post κs a q t → (r ≡ q) × (s.1.0.now ≡ t.1.0.now)
checkpoint_sides_one κs a r q s t p p' = both (p ∙ sym p')

pub tally_one : (κs : Lfts 3) (a : ArgsD brothwagon_tally.signature κs) (r q : ℕ) (s t : AtExit brothwagon_tally.ended κs)
    → tally-reads.Post κs a r s → tally-reads.Post κs a q t → (r ≡ q) × (s.1.1.0.now ≡ t.1.1.0.now)
tally_one κs a r q s t p p' = both (p ∙ sym p')

pub write_tally_one : (κs : Lfts 2) (a : ArgsD brothwagon_write_tally.signature κs) (r q : ℕ) (s t : AtExit brothwagon_write_tally.ended κs)
    → write-tally-reads.Post κs a r s → write-tally-reads.Post κs a q t → (r ≡ q) × (s.1.0.now ≡ t.1.0.now)
write_tally_one κs a r q s t p p' = both (p ∙ sym p')

pub read_tally_one : (κs : Lfts 2) (a : ArgsD brothwagon_read_tally.signature κs) (r q : ℕ) (s t : AtExit brothwagon_read_tally.ended κs)
    → read-tally-reads.Post κs a r s → read-tally-reads.Post κs a q t → (r ≡ q) × (s.1.0.now ≡ t.1.0.now)
read_tally_one κs a r q s t p p' = both (p ∙ sym p')

-- ---- the number, and two buffers

pub write_entry_one : (κs : Lfts 3) (a : ArgsD brothwagon_write_entry.signature κs) (r q : ℕ) (s t : AtExit brothwagon_write_entry.ended κs)
    → write-entry-reads.Post κs a r s → write-entry-reads.Post κs a q t
    → (r ≡ q) × (s.1.1.1.1.1.0.now ≡ t.1.1.1.1.1.0.now) × (s.1.1.1.1.1.1.0.now ≡ t.1.1.1.1.1.1.0.now)
write_entry_one κs a r q s t p p' =
    let e = p ∙ sym p' in
    (ap (λ (w : Entered). w.number) e, ap (λ (w : Entered). w.f) e, ap (λ (w : Entered). w.tally) e)

pub read_checkpoint_one : (κs : Lfts 3) (a : ArgsD brothwagon_read_checkpoint.signature κs) (r q : ℕ) (s t : AtExit brothwagon_read_checkpoint.ended κs)
    → read-checkpoint-reads.Post κs a r s → read-checkpoint-reads.Post κs a q t → (r ≡ q) × (s.1.1.0.now ≡ t.1.1.0.now) × (s.1.0.now ≡ t.1.0.now)
read_checkpoint_one κs a r q s t p p' =
    let e = p ∙ sym p' in
    (ap (λ (w : ReadTold). w.number) e, ap (λ (w : ReadTold). w.answer) e, ap (λ (w : ReadTold). w.f) e)

pub step_one : (κs : Lfts 3) (a : ArgsD brothwagon_step.signature κs) (r q : ℕ) (s t : AtExit brothwagon_step.ended κs)
    → step-reads.Post κs a r s → step-reads.Post κs a q t → (r ≡ q) × (s.1.0.now ≡ t.1.0.now) × (s.1.1.0.now ≡ t.1.1.0.now)
step_one κs a r q s t p p' = all_stepped (p ∙ sym p')

pub run_one : (κs : Lfts 3) (a : ArgsD brothwagon_run.signature κs) (r q : ℕ) (s t : AtExit brothwagon_run.ended κs)
    → run-reads.Post κs a r s → run-reads.Post κs a q t → (r ≡ q) × (s.1.1.0.now ≡ t.1.1.0.now) × (s.1.1.1.0.now ≡ t.1.1.1.0.now)
run_one κs a r q s t p p' = all_stepped (p ∙ sym p')

-- ---- the number, the answer, and three buffers

pub run_to_steady_state_one : (κs : Lfts 5) (a : ArgsD brothwagon_run_to_steady_state.signature κs) (r q : ℕ) (s t : AtExit brothwagon_run_to_steady_state.ended κs)
    → run-to-steady-state-reads.Post κs a r s → run-to-steady-state-reads.Post κs a q t → (r ≡ q) × (s.1.1.1.1.1.1.1.0.now ≡ t.1.1.1.1.1.1.1.0.now) × (s.1.1.1.1.0.now ≡ t.1.1.1.1.0.now) × (s.1.1.1.1.1.0.now ≡ t.1.1.1.1.1.0.now) × (s.1.1.1.1.1.1.0.now ≡ t.1.1.1.1.1.1.0.now)
run_to_steady_state_one κs a r q s t p p' =
    let e = p ∙ sym p' in (
      ap (λ (w : SteadyTold). w.number) e,
      ap (λ (w : SteadyTold). w.answer) e,
      ap (λ (w : SteadyTold). w.f) e,
      ap (λ (w : SteadyTold). w.post) e,
      ap (λ (w : SteadyTold). w.u) e,
    )
