-- What is known of a call that is not refused, and the operation's outcome in both cases.
use Rattle.std.proofs.Common.{◌≡◌, refl, sym, ◌∙◌, ◌*◌, length, arith}
use mathlib.Core.Path.{subst}
use borrow.Author.Tests.{ne_eqb}
use Rattle.std.proofs.lemmas.Result.{err_from_is_err_and}
use native.Mathlib.Decide.{ℕ_discrete}
use Rattle.std.specs.Prelude.{Bool, true, false, cond, eqb, List, [], ◌∷◌, ℕ, Result}
use Rattle.std.specs.Result.{IsErrAnd}
use Rattle.grid.specs.Grid.{Grid}
use Rattle.settings.specs.declared.Obstacle.{Obstacle}
use Rattle.settings.specs.declared.Settings.{Settings}
use Rattle.settings.specs.declared.refused.Refusal.{Refusal}
use Rattle.settings.specs.Refused.{number, number_of}
use Rattle.settings.specs.Tests.{sides_bad, length_bad, outside, falls}
use Rattle.settings.specs.Refusals.{first, sides, lengths, places, ascent, refusal, total_mass, set_no_slip_bc}
use Rattle.settings.specs.Outcome.{outcome}
use Rattle.settings.proofs.Laws.{known}
use Rattle.settings.proofs.Numbers.{some_number}
use Rattle.settings.proofs.Outcome.{answered, refused}
use Rattle.obstacles.specs.Obstacles.{bounced_buffer, no_slip_set}
use Rattle.obstacles.proofs.Ascent.{falls_from_lem}
use Rattle.obstacles.proofs.Writing.{one_by_one, turned_all}

-- what the tests find, the sides and the length first, then every place, then the order, is the number that refuses the call
pub tested_number : (s : Settings) (list : List Obstacle) (len : ℕ) →
    let m : ℕ = first (sides s ∷ lengths s 9 len ∷ []) 0 in
    let p : ℕ = first (places s list ∷ []) 0 in
    let q : ℕ = first (ascent s list ∷ []) 0 in
    cond (eqb m 0) (cond (eqb p 0) q p) m ≡ refusal (set_no_slip_bc s list len)
tested_number s list len = go (sides_bad s.nx s.ny) (length_bad s.nx s.ny 9 len) (outside s.nx s.ny list) (falls s.nx list)
  where
    go : (a b c d : Bool) →
        let m : ℕ = cond a 1 (cond b 2 0) in
        let p : ℕ = cond c 6 0 in
        let q : ℕ = cond d 16 0 in
        cond (eqb m 0) (cond (eqb p 0) q p) m ≡ cond a 1 (cond b 2 (cond c 6 (cond d 16 0)))
    go true b c d = refl
    go false true c d = refl
    go false false true d = refl
    go false false false d = refl

pub tested : (s : Settings) (len : ℕ) → 0 ≡ first (sides s ∷ lengths s 9 len ∷ []) 0 → Grid s.nx s.ny
tested s len e = (known (total_mass s len) (sym e)).0

pub size_of : (s : Settings) (len : ℕ) → 0 ≡ first (sides s ∷ lengths s 9 len ∷ []) 0 → len ≡ 9 * (s.nx * s.ny)
size_of s len e = (known (total_mass s len) (sym e)).1.0.size

-- a number that is 0
pub record Accepted (s : Settings) (list : List Obstacle) (len : ℕ) : Type 0 where
  pub grid : Grid s.nx s.ny
  pub size : len ≡ 9 * (s.nx * s.ny)
  pub within : outside s.nx s.ny list ≡ false
  pub ascending : falls s.nx list ≡ false

pub accepted : (s : Settings) (list : List Obstacle) (len : ℕ) → 0 ≡ refusal (set_no_slip_bc s list len) → Accepted s list len
accepted s list len e =
    let k = known (set_no_slip_bc s list len) (sym e) in
    record { grid = k.0; size = k.1.0.size; within = k.1.1.0; ascending = k.1.1.1.0 }

pub done : (s : Settings) (list : List Obstacle) (f e : List ℕ) → 0 ≡ refusal (set_no_slip_bc s list (length f))
    → e ≡ bounced_buffer s.nx s.ny list f → outcome 0 e ≡ no_slip_set s list f
done s list f e zero q = answered (outcome (refusal (set_no_slip_bc s list (length f))) f) zero refl (λ i. outcome 0 (q i))

-- THE OPERATION'S OUTCOME, of any number and buffer: the number is the one that refuses the call, and only where it is 0 the cells are swapped
pub obstructs : (s : Settings) (list : List Obstacle) (f : List ℕ) {n : ℕ} {e : List ℕ} → n ≡ refusal (set_no_slip_bc s list (length f))
    → (n ≡ 0 → e ≡ bounced_buffer s.nx s.ny list f) → ((n ≡ 0 → ⊥) → e ≡ f) → outcome n e ≡ no_slip_set s list f
obstructs s list f {n} {e} q swaps keeps = go (ℕ_discrete n 0)
  where
    go : Dec (n ≡ 0) → outcome n e ≡ no_slip_set s list f
    go (yes z) = rw z (done s list f e (sym z ∙ q) (swaps z))
    go (no d) = rw (keeps d) (refused (outcome 0 (bounced_buffer s.nx s.ny list f)) (λ n. outcome n f) q d)

-- ---- the exits of the operation, each by what its tests found

module _ (s : Settings) (list : List Obstacle) (f : List ℕ) where
  abbrev by_size : ℕ
  by_size = first (sides s ∷ lengths s 9 (length f) ∷ []) 0

  abbrev by_place : ℕ
  by_place = first (places s list ∷ []) 0

  abbrev by_order : ℕ
  by_order = first (ascent s list ∷ []) 0

  -- the number that the tests found, in their order, is the one that refuses the call
  found : (m p q : ℕ) → m ≡ by_size → p ≡ by_place → q ≡ by_order
      → cond (eqb m 0) (cond (eqb p 0) q p) m ≡ refusal (set_no_slip_bc s list (length f))
  found m p q em ep eq = rw (em, ep, eq) (tested_number s list (length f))

  -- a refused call
  stopped : (r : Result Unit Refusal) (why : Refusal) → IsErrAnd r (λ e. e ≡ why)
      → number why ≡ refusal (set_no_slip_bc s list (length f))
      → outcome (number_of r) f ≡ no_slip_set s list f
  stopped r why is e =
      let p = err_from_is_err_and r is in
      let some = some_number why in
      rw (p.1, p.2) (obstructs s list f e (λ zero. absurd (omega arith)) (λ d. refl))

  pub size_refuses : (r : Result Unit Refusal) (why : Refusal) → IsErrAnd r (λ e. e ≡ why) → number why ≡ by_size
      → outcome (number_of r) f ≡ no_slip_set s list f
  size_refuses r why is e =
      let some = some_number why in
      let n = ne_eqb (number why) 0 (λ zero. absurd (omega arith)) in
      stopped r why is (subst (λ (t : Bool). cond t (cond (eqb by_place 0) by_order by_place) (number why) ≡ refusal (set_no_slip_bc s list (length f))) n (found (number why) by_place by_order e refl refl))

  pub place_refuses : (r : Result Unit Refusal) (why : Refusal) → IsErrAnd r (λ e. e ≡ why) → 0 ≡ by_size → number why ≡ by_place
      → outcome (number_of r) f ≡ no_slip_set s list f
  place_refuses r why is z e =
      let some = some_number why in
      let n = ne_eqb (number why) 0 (λ zero. absurd (omega arith)) in
      stopped r why is (subst (λ (t : Bool). cond t by_order (number why) ≡ refusal (set_no_slip_bc s list (length f))) n (found 0 (number why) by_order z e refl))

  pub order_refuses : (r : Result Unit Refusal) (why : Refusal) → IsErrAnd r (λ e. e ≡ why) → 0 ≡ by_size
      → outside s.nx s.ny list ≡ false → number why ≡ by_order
      → outcome (number_of r) f ≡ no_slip_set s list f
  order_refuses r why is z within e = stopped r why is (found 0 0 (number why) z (rw within) e)

  -- a call that nothing refuses: the cells were turned one after the other
  pub none_refuses : (e : List ℕ) → 0 ≡ by_size → outside s.nx s.ny list ≡ false → falls s.nx list ≡ false
      → e ≡ one_by_one s.nx s.ny f list → outcome 0 e ≡ no_slip_set s list f
  none_refuses e z within ascending q =
      let zero = found 0 0 0 z (rw within) (rw ascending) in
      let ok = accepted s list (length f) zero in
      obstructs s list f zero (λ i. q ∙ turned_all s.nx s.ny 0 list f ok.size within (sym (falls_from_lem s.nx list) ∙ ascending))
      (λ d. absurd (d refl))
