-- Where the list ascends, the cells that are turned one after the other are as the rule says of all of them.
use mathlib.Core.Path.{◌≡◌, refl, sym, ◌∙◌, subst}
use mathlib.Core.Bool.{Bool, true, false, cond, ◌&&◌, ◌||◌}
use mathlib.Core.List.{List, [], ◌∷◌}
use Prim.Native.Nat.{ℕ, ◌+◌, ◌*◌, ◌≤◌, ◌<◌}
use native.Mathlib.Omega.{arith}
use lib.Dec.{T, eqb, ltb}
use lib.ListN.{length, get_or, drop, drop_of_length-le}
use lib.Seq.{drop-cons}
use native.Mathlib.Numerals.{add-one}
use borrow.Author.Tests.{eqb-true, ltb-false}
use Rattle.lattice.specs.Lattice.{OPP}
use Rattle.lattice.proofs.Tables.{opposite_small}
use Rattle.grid.specs.Grid.{Field, field_of, buffer_of}
use Rattle.grid.proofs.Fields.{buffer_length, field_of_buffer, buffer_of_field, same_buffer}
use Rattle.settings.specs.declared.Obstacle.{Obstacle}
use Rattle.settings.specs.Tests.{outside, place_bad, place_of}
use Rattle.settings.proofs.Laws.{or_left, or_right}
use Rattle.obstacles.specs.Obstacles.{is_named, bounced, bounced_buffer}
use Rattle.obstacles.proofs.Ascent.{nowhere, falls_from}

abbrev hit : Obstacle → ℕ → ℕ → Bool
hit o x y = eqb o.x x && eqb o.y y

-- a cell that is hit is the obstacle's
hit_place : (nx : ℕ) (o : Obstacle) (x y : ℕ) (p q : Bool) → eqb o.x x ≡ p → eqb o.y y ≡ q → p && q ≡ true
    → place_of nx o ≡ x + y * nx
hit_place nx o x y true true ex ey h =
    let px = eqb-true o.x x ex in
    let py = eqb-true o.y y ey in
    rw (px, py)
hit_place nx o x y true false ex ey h = absurd (subst T (sym h) tt)
hit_place nx o x y false q ex ey h = absurd (subst T (sym h) tt)

-- a cell that an ascending list names stands at or above where it begins
named_above : (nx m : ℕ) (list : List Obstacle) (x y : ℕ) → falls_from nx m list ≡ false → is_named list x y ≡ true
    → m ≤ x + y * nx
unfolding is_named
named_above nx m [] x y up is = absurd (subst T (sym is) tt)
named_above nx m (o ∷ rest) x y up is =
    go (named_above nx (place_of nx o + 1) rest x y (or_right (ltb (place_of nx o) m) _ up)) (hit o x y) refl is
  where
    above : m ≤ place_of nx o
    above = ltb-false (place_of nx o) m (or_left (ltb (place_of nx o) m) (falls_from nx (place_of nx o + 1) rest) up)

    go : (is_named rest x y ≡ true → place_of nx o + 1 ≤ x + y * nx)
        → (h : Bool) → hit o x y ≡ h → h || is_named rest x y ≡ true → m ≤ x + y * nx
    go later true e i =
        let at = hit_place nx o x y (eqb o.x x) (eqb o.y y) refl refl e in omega (arith, above, at)
    go later false e i = omega (arith, above, later i)

-- one cell, and then the others, of which it is none
one_and_others : (nx : ℕ) (o : Obstacle) (rest : List Obstacle) (p r : Field) (x y i : ℕ)
    → falls_from nx (place_of nx o + 1) rest ≡ false
    → r x y i ≡ bounced (o ∷ []) p x y i
    → r x y (OPP i) ≡ bounced (o ∷ []) p x y (OPP i)
    → bounced rest r x y i ≡ bounced (o ∷ rest) p x y i
unfolding bounced is_named
one_and_others nx o rest p r x y i up here there = go (hit o x y) (is_named rest x y) refl refl
  where
    go : (h n : Bool) → hit o x y ≡ h → is_named rest x y ≡ n
        → cond (is_named rest x y) (r x y (OPP i)) (r x y i)
        ≡ cond (hit o x y || is_named rest x y) (p x y (OPP i)) (p x y i)
    go true true e n =
        let at = hit_place nx o x y (eqb o.x x) (eqb o.y y) refl refl e in
        absurd (omega (arith, named_above nx (place_of nx o + 1) rest x y up n, at))
    go true false e n = rw (e, n) (here ∙ rw e)
    go false true e n = rw (e, n) (there ∙ rw e)
    go false false e n = rw (e, n) (here ∙ rw e)

none_named : (p : Field) (x y i : ℕ) → bounced [] p x y i ≡ p x y i
unfolding bounced is_named
none_named p x y i = refl

module _ (nx ny : ℕ) where
  one_more : (o : Obstacle) (rest : List Obstacle) (b : List ℕ) → falls_from nx (place_of nx o + 1) rest ≡ false
      → bounced_buffer nx ny rest (bounced_buffer nx ny (o ∷ []) b) ≡ bounced_buffer nx ny (o ∷ rest) b
  unfolding bounced_buffer
  one_more o rest b up =
      let p = field_of nx ny b in
      let s = field_of_buffer nx ny (bounced (o ∷ []) p) in
      same_buffer nx ny _ _
      (record {
        here = λ x y i hx hy hi.
            one_and_others nx o rest p (field_of nx ny (buffer_of nx ny (bounced (o ∷ []) p))) x y i up
            (s.here x y i hx hy hi) (s.here x y (OPP i) hx hy (opposite_small i hi));
      })

  -- a list of none
  none_turned : (b : List ℕ) → length b ≡ 9 * (nx * ny) → bounced_buffer nx ny [] b ≡ b
  unfolding bounced_buffer
  none_turned b size =
      same_buffer nx ny _ _ (record { here = λ x y i hx hy hi. none_named (field_of nx ny b) x y i })
      ∙ buffer_of_field nx ny b size

  -- ---- the cells are turned one after the other, from any buffer and any place that may come next

  abbrev pub one_by_one : List ℕ → List Obstacle → List ℕ
  one_by_one b [] = b
  one_by_one b (o ∷ rest) = one_by_one (bounced_buffer nx ny (o ∷ []) b) rest

  -- after k obstacles
  pub turned_more : (list : List Obstacle) (b : List ℕ) (k : ℕ) → k < length list
      → one_by_one (bounced_buffer nx ny (get_or list k nowhere ∷ []) b) (drop (k + 1) list) ≡ one_by_one b (drop k list)
  turned_more list b k h = rw (add-one k, drop-cons list k nowhere h)

  -- after the last
  pub turned_done : (list : List Obstacle) (b : List ℕ) (k : ℕ) → length list ≤ k → one_by_one b (drop k list) ≡ b
  turned_done list b k h = rw (drop_of_length-le list h)

  pub turned_all : (m : ℕ) (list : List Obstacle) (b : List ℕ) → length b ≡ 9 * (nx * ny) → outside nx ny list ≡ false
      → falls_from nx m list ≡ false
      → one_by_one b list ≡ bounced_buffer nx ny list b
  unfolding outside bounced_buffer
  turned_all m [] b size ins up = sym (none_turned b size)
  turned_all m (o ∷ rest) b size ins up =
      let bad = place_bad nx ny o.x o.y in
      let above = or_right (ltb (place_of nx o) m) (falls_from nx (place_of nx o + 1) rest) up in
      turned_all (place_of nx o + 1) rest (bounced_buffer nx ny (o ∷ []) b) (buffer_length nx ny (bounced (o ∷ []) (field_of nx ny b)))
      (or_right bad (outside nx ny rest) ins) above
      ∙ one_more o rest b above
