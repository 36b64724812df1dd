-- At the ends of an axis, once for both axes and both sides: what goes out through one face comes in at the other end, is turned back, or strays.
use mathlib.Core.Path.{◌≡◌, refl, sym, ◌∙◌}
use mathlib.Core.Bool.{Bool, true, false, not, cond, ◌&&◌, ◌||◌, true≢false, false≢true, or-true}
use mathlib.Core.Logic.{⊎_elim}
use Prim.Native.Nat.{ℕ, ◌+◌, ◌-◌, ◌≤◌, ◌<◌}
use native.Mathlib.Omega.{arith}
use lib.Dec.{eqb}
use borrow.Author.Tests.{eqb-true, eqb-false, eq-eqb, ne_eqb, not-true}
use Rattle.grid.proofs.Radix.{lt_or_ge}
use Rattle.lattice.specs.declared.Side.{Side}
use Rattle.lattice.specs.declared.Side.TheVariants.{Min, Max}
use Rattle.settings.specs.declared.Face.{Face}
use Rattle.settings.specs.declared.Face.TheVariants.{Periodic, NoSlip, MovingWall, Symmetry, Velocity, Pressure}
use Rattle.settings.specs.Tests.{is_periodic, is_symmetry}
use Rattle.streaming.specs.Travel.{Step, stay, up, down, against, turn, moved}
use Rattle.streaming.specs.Faces.{on_face}
use Rattle.streaming.proofs.Dirs.{entering}
use Rattle.streaming.proofs.Ring.{mod_once, before_seam}
use Rattle.lossless.specs.Lossless.{strays}

-- ---- two tests

pub and_split : (a b : Bool) → (a && b) ≡ true → (a ≡ true) × (b ≡ true)
and_split true b p = (refl, p)
and_split false b p = absurd (false≢true p)

pub unless : (a b : Bool) → (not a && b) ≡ false → b ≡ true → a ≡ true
unless true b p q = refl
unless false b p q = absurd (true≢false (sym q ∙ p))

-- ---- A STEP FROM THE FACE AHEAD LIES ON THE FACE BEHIND, and no other does

-- a step around the end of the side
turn_over : (n t k : ℕ) → n ≤ k + t → k + t < n + n → turn n t k ≡ k + t - n
unfolding turn
turn_over n t k h l = mod_once (k + t) n h l

-- a test that says the same as another
same_test : (a b c d : ℕ) → (a ≡ b → c ≡ d) → (c ≡ d → a ≡ b) → eqb a b ≡ eqb c d
same_test a b c d f g = go (eqb a b) refl
  where
    go : (t : Bool) → eqb a b ≡ t → eqb a b ≡ eqb c d
    go true h = h ∙ sym (eq-eqb c d (f (eqb-true a b h)))
    go false h = h ∙ sym (ne_eqb c d (λ q. eqb-false a b h (g q)))

wraps_up : (n k : ℕ) → k < n → on_face Min n (moved up n k) ≡ on_face Max n k
wraps_up n k h =
    same_test (moved up n k) 0 (k + 1) n
    (λ z. ⊎_elim (λ l. absurd (omega (arith, before_seam n 1 k l))) (λ g. omega arith) (lt_or_ge (k + 1) n))
    (λ z. omega (arith, turn_over n 1 k (omega arith) (omega arith)))

wraps_down : (n k : ℕ) → k < n → on_face Max n (moved down n k) ≡ on_face Min n k
wraps_down n k h =
    same_test (moved down n k + 1) n k 0
    (λ z. ⊎_elim (λ l. omega arith) (λ g. absurd (omega (arith, turn_over n (n - 1) k g (omega arith)))) (lt_or_ge (k + (n - 1)) n))
    (λ z. omega (arith, before_seam n (n - 1) k (omega arith)))

-- ---- a face, met or not

symmetry_shut : (k : Face) → is_symmetry k ≡ true → is_periodic k ≡ false
symmetry_shut Periodic h = sym h
symmetry_shut NoSlip h = refl
symmetry_shut (MovingWall u v) h = refl
symmetry_shut Symmetry h = refl
symmetry_shut (Velocity u v) h = refl
symmetry_shut (Pressure r) h = refl

shows : (t : Bool) (k : Face) → is_symmetry (cond t k Periodic) ≡ true → is_symmetry k ≡ true
shows true k h = h
shows false k h = absurd (false≢true h)

pub hides : (t : Bool) (k : Face) → is_symmetry k ≡ false → is_symmetry (cond t k Periodic) ≡ false
hides true k h = h
hides false k h = refl

opens : (t : Bool) (k : Face) → is_periodic k ≡ true → is_periodic (cond t k Periodic) ≡ true
opens true k h = h
opens false k h = refl

-- the face a behind and the face b ahead
module _ (a b : Face) where
  pass : (t : Bool) → strays a b ≡ false → is_periodic (cond t b Periodic) ≡ true → is_periodic (cond t a Periodic) ≡ true
  pass true s p = unless (is_periodic a) (is_periodic b) s p
  pass false s p = refl

  turn_back : (t : Bool) → strays b a ≡ false → is_symmetry (cond t b Periodic) ≡ true → is_periodic (cond t a Periodic) ≡ false
  turn_back true s p = rw (symmetry_shut b p) at s
  turn_back false s p = absurd (false≢true p)

-- ---- what the faces across an axis make of a step

-- the face that a step into the coordinate k of a side of n comes in through, and Periodic where it comes in through none
abbrev pub through : (Side → Face) → ℕ → ℕ → Step → Face
through f n k e = cond (entering Min e && on_face Min n k) (f Min) (cond (entering Max e && on_face Max n k) (f Max) Periodic)

-- the side that a step goes out through
abbrev pub ahead : Step → Side
ahead stay = Min
ahead up = Max
ahead down = Min

-- what goes out ahead comes in through a face that is not periodic
abbrev pub strayed : (Side → Face) → Step → Bool
strayed f stay = false
strayed f up = strays (f Min) (f Max)
strayed f down = strays (f Max) (f Min)

module _ (f : Side → Face) (n k : ℕ) where
  -- a Symmetry face that is met is there
  pub mirrors : (e : Step) → is_symmetry (through f n k e) ≡ true → (is_symmetry (f Min) || is_symmetry (f Max)) ≡ true
  mirrors stay p = absurd (false≢true p)
  mirrors up p = rw (shows (on_face Min n k) (f Min) p)
  mirrors down p = rw (shows (on_face Max n k) (f Max) p) (or-true (is_symmetry (f Min)))

  -- across a periodic axis none is met
  pub unmet : (e : Step) → is_periodic (f Min) ≡ true → is_periodic (f Max) ≡ true → is_periodic (through f n k e) ≡ true
  unmet stay p q = refl
  unmet up p q = opens (on_face Min n k) (f Min) p
  unmet down p q = opens (on_face Max n k) (f Max) q

module _ (f : Side → Face) (n k : ℕ) (h : k < n) where
  -- what does not stray and goes out through no face comes in through none
  pub passes : (e : Step) → strayed f e ≡ false → is_periodic (through f n k (against e)) ≡ true → is_periodic (through f n (moved e n k) e) ≡ true
  passes stay s p = refl
  passes up s p = rw (wraps_up n k h) (pass (f Min) (f Max) (on_face Max n k) s p)
  passes down s p = rw (wraps_down n k h) (pass (f Max) (f Min) (on_face Min n k) s p)

  -- nor does what does not come to the end
  pub passes_up : k + 1 < n → is_periodic (through f n (moved up n k) up) ≡ true
  passes_up l = rw (wraps_up n k h, ne_eqb (k + 1) n (λ z. omega arith))

  -- what strays goes out through no face, and comes in through one
  pub goes_astray : (e : Step) → strayed f e ≡ true → on_face (ahead e) n k ≡ true
      → (is_periodic (through f n k (against e)) ≡ true) × (is_periodic (through f n (moved e n k) e) ≡ false)
  goes_astray stay s t = absurd (false≢true s)
  goes_astray up s t = let q = and_split _ _ s in (rw t q.1, rw (wraps_up n k h, t) (not-true _ q.0))
  goes_astray down s t = let q = and_split _ _ s in (rw t q.1, rw (wraps_down n k h, t) (not-true _ q.0))

  -- where a Symmetry face turns a step back, a step comes in through a face at the other end
  pub turned_back_lem : (e : Step) → strayed f (against e) ≡ false → is_symmetry (through f n k (against e)) ≡ true
      → is_periodic (through f n (moved e n k) e) ≡ false
  turned_back_lem stay s p = absurd (false≢true p)
  turned_back_lem up s p = rw (wraps_up n k h) (turn_back (f Min) (f Max) (on_face Max n k) s p)
  turned_back_lem down s p = rw (wraps_down n k h) (turn_back (f Max) (f Min) (on_face Min n k) s p)
