-- A list that ascends strictly, taken from its head: each place stands at or above the lowest that may come next.
use mathlib.Core.Path.{◌≡◌, refl, sym, ◌∙◌}
use mathlib.Core.Bool.{Bool, true, false, ◌||◌}
use mathlib.Core.List.{List, [], ◌∷◌}
use Prim.Native.Nat.{ℕ, zero, suc, ◌+◌, ◌<◌}
use lib.ListN.{length, get_or, drop}
use native.Mathlib.Omega.{arith}
use lib.Dec.{leb, ltb}
use borrow.Author.Tests.{leb-true, leb-false, lt-ltb, le-ltb}
use Rattle.settings.specs.declared.Obstacle.{Obstacle}
use Rattle.settings.specs.Tests.{place_of, falls}
use Rattle.settings.proofs.Laws.{or_right}

below_next : (a c : ℕ) → ltb a (c + 1) ≡ leb a c
below_next a c = go (leb a c) refl
  where
    go : (p : Bool) → leb a c ≡ p → ltb a (c + 1) ≡ leb a c
    go true e = let h = leb-true a c e in lt-ltb a (c + 1) (omega arith) ∙ sym e
    go false e = let h = leb-false a c e in le-ltb a (c + 1) (omega arith) ∙ sym e

abbrev pub nowhere : Obstacle
nowhere = record { x = 0; y = 0 }

module _ (nx : ℕ) where
  -- the list falls below cell m, or falls within itself
  abbrev pub falls_from : ℕ → List Obstacle → Bool
  falls_from m [] = false
  falls_from m (o ∷ rest) = ltb (place_of nx o) m || falls_from (place_of nx o + 1) rest

  falls_after : (o : Obstacle) (rest : List Obstacle) → falls nx (o ∷ rest) ≡ falls_from (place_of nx o + 1) rest
  unfolding falls
  falls_after o [] = refl
  falls_after o (p ∷ rest) = rw (below_next (place_of nx p) (place_of nx o), falls_after p rest)

  pub falls_from_lem : (list : List Obstacle) → falls nx list ≡ falls_from 0 list
  unfolding falls
  falls_from_lem [] = refl
  falls_from_lem (o ∷ rest) = rw (le-ltb (place_of nx o) 0 (omega arith)) (falls_after o rest)
