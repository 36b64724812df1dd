-- Any two outcomes that the contract of the operation, as the checker reads it (`Post`), allows on the same input coincide: what is returned, and the lent populations.
use mathlib.Core.Path.{◌≡◌, refl, sym, ◌∙◌}
use seplogic.Ra.Ura.{Ura}
use base.Logic.{SProp}
use prog.Memory.{Memory}
use prog.Routine.{Routine}
use types.Logic.{Logic}
use contract.Monad.{Fun, fact}
use Rattle.settings.specs.Outcome.{outcome}
use Rattle.settings.specs.Refused.{number_of}
use Rattle.obstacles.specs.Obstacles.{no_slip_set}
use contract.Lifetimes.{Lfts}
use denote.Triple.Clauses.{AtExit}
use borrow.Fn.World.{ArgsD, ResD}
use Rattle.settings.proofs.Outcome.{both}
use Rattle.settings.proofs.Same.{same_answer}
use Rattle.obstacles.specs.contracts.set_no_slip_bc
use Rattle.obstacles.proofs.set_no_slip_bc.Reads as reads

pub set_no_slip_bc_one : (κs : Lfts 2) (a : ArgsD set_no_slip_bc.signature κs) (r q : ResD set_no_slip_bc.signature κs) (s t : AtExit set_no_slip_bc.ended κs)
    → reads.Post κs a r s → reads.Post κs a q t → (r ≡ q) × (s.1.1.0.now ≡ t.1.1.0.now)
set_no_slip_bc_one κs a r q s t p p' = let e = both (p ∙ sym p') in (same_answer r q e.0, e.1)

-- `Post`, written out
module _ (κs : Lfts 2) (a : ArgsD set_no_slip_bc.signature κs) where
  pub post_is : {M : Type 1} {𝓤 : Ura M} (𝓛 : Logic 𝓤) (mem : Memory → SProp 𝓤) (run : Routine → Fun 𝓤)
      (r : ResD set_no_slip_bc.signature κs) (s : AtExit set_no_slip_bc.ended κs)
      → (set_no_slip_bc.clauses 𝓛 mem run κs a).ensures tt r s
      ≡ fact 𝓤 (outcome (number_of r) s.1.1.0.now ≡ no_slip_set a.0 a.1.0.now a.1.1.0.now)
  post_is 𝓛 mem run r s = refl
