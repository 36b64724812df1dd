-- A list of obstacles that is taken from its head: what one of them tells of the whole list, and the whole list of one of them.
use Rattle.std.proofs.Common.{◌≡◌, ◌+◌, ◌*◌, ◌<◌, ◌≤◌, length, get_or, drop, drop-cons, add-one, arith}
use Rattle.std.specs.Prelude.{Bool, true, false, cond, ◌||◌, List, [], ◌∷◌, ℕ, zero, suc}
use lib.ListN.{drop_of_length-le}
use lib.Dec.{leb, ltb}
use borrow.Author.Tests.{leb-false, lt-ltb}
use Rattle.grid.proofs.Radix.{within}
use Rattle.settings.specs.declared.Obstacle.{Obstacle}
use Rattle.settings.specs.declared.refused.Refusal.{Refusal}
use Rattle.settings.specs.Refused.{number}
use Rattle.settings.specs.Tests.{place_bad, outside, place_of, falls}
use Rattle.settings.proofs.Laws.{or_left, or_right}
use Rattle.settings.proofs.Numbers.{some_number}
use Rattle.obstacles.proofs.Ascent.{nowhere, falls_from, falls_from_lem}

module _ (nx ny : ℕ) where
  -- ---- places

  -- the k-th, after k that are inside
  pub outside_from : (list : List Obstacle) (k : ℕ) → k < length list
      → outside nx ny (drop k list) ≡ (let o = get_or list k nowhere in place_bad nx ny o.x o.y || outside nx ny (drop (k + 1) list))
  unfolding outside
  outside_from list k h = rw (drop-cons list k nowhere h, add-one)

  pub none_left : (list : List Obstacle) (k : ℕ) → length list ≤ k → outside nx ny (drop k list) ≡ false
  unfolding outside
  none_left list k h = rw (drop_of_length-le list h)

  -- the k-th is refused, and so the list is
  pub refused_place : (list : List Obstacle) (k : ℕ) (why : Refusal) → k < length list
      → outside nx ny list ≡ outside nx ny (drop k list)
      → (let o = get_or list k nowhere in number why ≡ cond (place_bad nx ny o.x o.y) 6 0)
      → number why ≡ cond (outside nx ny list) 6 0
  refused_place list k why h same e =
      let o = get_or list k nowhere in
      rw (same, outside_from list k h) (go (place_bad nx ny o.x o.y) (outside nx ny (drop (k + 1) list)) e)
    where
      go : (bad later : Bool) → number why ≡ cond bad 6 0 → number why ≡ cond (bad || later) 6 0
      go true later q = q
      go false later q = let some = some_number why in absurd (omega arith)

  -- an obstacle on the grid
  pub record On (o : Obstacle) : Type 0 where
    pub column : o.x < nx
    pub row : o.y < ny
    pub cell : place_of nx o < nx * ny

  pub on : (list : List Obstacle) → outside nx ny list ≡ false → (k : ℕ) → k < length list → On (get_or list k nowhere)
  unfolding outside
  on [] e k h = absurd (omega arith)
  on (o ∷ rest) e zero h =
      let inside = or_left (place_bad nx ny o.x o.y) (outside nx ny rest) e in
      let x = leb-false nx o.x (or_left (leb nx o.x) (leb ny o.y) inside) in
      let y = leb-false ny o.y (or_right (leb nx o.x) (leb ny o.y) inside) in
      record { column = x; row = y; cell = within o.x o.y nx ny x y }
  on (o ∷ rest) e (suc k) h = on rest (or_right (place_bad nx ny o.x o.y) (outside nx ny rest) e) k (omega arith)

-- ---- the order

-- the k-th falls below what may come next, and so the list falls
pub falls_here : (nx next : ℕ) (list : List Obstacle) (k : ℕ) → k < length list → place_of nx (get_or list k nowhere) < next
    → falls_from nx next (drop k list) ≡ true
falls_here nx next list k h l = rw (drop-cons list k nowhere h, lt-ltb (place_of nx (get_or list k nowhere)) next l)

-- after the last there is none that falls
pub none_falls : (nx next : ℕ) (list : List Obstacle) (k : ℕ) → length list ≤ k → falls_from nx next (drop k list) ≡ false
none_falls nx next list k h = rw (drop_of_length-le list h)

-- the k-th is refused, and so the list is
pub refused_order : (nx next : ℕ) (list : List Obstacle) (k : ℕ) (why : Refusal) → k < length list
    → falls nx list ≡ falls_from nx next (drop k list)
    → number why ≡ cond (ltb (place_of nx (get_or list k nowhere)) next) 16 0
    → number why ≡ cond (falls nx list) 16 0
refused_order nx next list k why h same e =
    let o = get_or list k nowhere in
    rw (same, drop-cons list k nowhere h) (go (ltb (place_of nx o) next) (falls_from nx (place_of nx o + 1) (drop (suc k) list)) e)
  where
    go : (bad later : Bool) → number why ≡ cond bad 16 0 → number why ≡ cond (bad || later) 16 0
    go true later q = q
    go false later q = let some = some_number why in absurd (omega arith)

-- what the loop that tests the order cites
pub ruleset order = (falls_from_lem, falls_here, on)
