-- The part of a list before its first mark and the part after it: what a scan byte by byte finds, and where each stands in the list.
use mathlib.Core.Path.{◌≡◌, refl, sym, ap, ◌∙◌}
use mathlib.Core.Bool.{Bool, true, false, cond}
use mathlib.Core.List.{List, [], ◌∷◌, ◌++◌}
use Prim.Native.Nat.{ℕ, zero, suc, ◌+◌, ◌-◌, ◌≤◌, ◌<◌, min}
use native.Mathlib.Numerals.{add-one}
use native.Mathlib.Omega.{arith}
use lib.Dec.{eqb}
use lib.ListN.{length, get_or, take, drop, drop_of_length-le}
use lib.Seq.{take_all}
use Rattle.std.specs.Prelude.{Some, None, position, nat_lt}
use Rattle.std.specs.List.{position_or_len}
use Rattle.std.proofs.lemmas.Option.{cond_some}
use Rattle.std.proofs.lemmas.List.{length-take, get_or-take}
use Rattle.std.proofs.lemmas.Slice.{between_to_end}
use borrow.Author.Tests.{eq-eqb, ltb-true, ltb-false}
use Rattle.std.specs.Prelude.{replicate}
use Rattle.std.proofs.Math.Seq.{take-append_seam}
use Rattle.line.specs.declared.Text.{Text}
use Rattle.line.specs.Line.{before, after}
use Rattle.line.specs.Text.{room, text_of, items}

module _ (mark : ℕ) where
  -- ---- where the first mark stands

  abbrev place : List ℕ → ℕ
  place s = position_or_len (λ b. eqb b mark) s

  next : (n : ℕ) → suc n ≡ 1 + n
  next n = omega arith

  before_place : (s : List ℕ) → before mark s ≡ take (place s) s
  unfolding before
  before_place [] = refl
  before_place (b ∷ rest) = go (eqb b mark) refl (before_place rest)
    where
      go : (t : Bool) → eqb b mark ≡ t → before mark rest ≡ take (place rest) rest → before mark (b ∷ rest) ≡ take (place (b ∷ rest)) (b ∷ rest)
      go true e more = rw e
      go false e more = rw e (ap (λ (l : List ℕ). b ∷ l) more ∙ ap (λ (n : ℕ). take n (b ∷ rest)) (next (place rest)))

  after_place : (s : List ℕ) → after mark s ≡ drop (suc (place s)) s
  unfolding after
  after_place [] = refl
  after_place (b ∷ rest) = go (eqb b mark) refl (after_place rest)
    where
      go : (t : Bool) → eqb b mark ≡ t → after mark rest ≡ drop (suc (place rest)) rest → after mark (b ∷ rest) ≡ drop (suc (place (b ∷ rest))) (b ∷ rest)
      go true e more = rw e
      go false e more = rw e (more ∙ ap (λ (n : ℕ). drop n rest) (next (place rest)))

  placed : (s : List ℕ) (k : ℕ) → position (λ b. eqb b mark) s ≡ Some k → (place s ≡ k) × (k < length s)
  placed s k e =
      let is = cond_some (nat_lt (place s) (length s)) (place s) k e in
      (is.1, omega (arith, ltb-true (place s) (length s) is.0, is.1))

  -- cut there, a list is in its two parts
  pub first_part : (s : List ℕ) (k : ℕ) → position (λ b. eqb b mark) s ≡ Some k → take k s ≡ before mark s
  first_part s k e = sym (before_place s ∙ ap (λ (n : ℕ). take n s) (placed s k e).0)

  pub second_part : (s : List ℕ) (k : ℕ) → position (λ b. eqb b mark) s ≡ Some k → take (length s - (k + 1)) (drop (k + 1) s) ≡ after mark s
  second_part s k e =
      let is = placed s k e in
      between_to_end s (k + 1) (length s) (omega arith) ∙ rw add-one (sym (after_place s ∙ ap (λ (n : ℕ). drop (suc n) s) is.0))

  -- and where there is no mark, all of it stands before
  pub unparted : (s : List ℕ) → position (λ b. eqb b mark) s ≡ None → (before mark s ≡ s) × (after mark s ≡ [])
  unparted s e = go (nat_lt (place s) (length s)) refl e
    where
      go : (t : Bool) → nat_lt (place s) (length s) ≡ t → cond t (Some (place s)) None ≡ None → (before mark s ≡ s) × (after mark s ≡ [])
      go true q n = absurd (cc)
      go false q n =
          let past : length s ≤ place s = ltb-false (place s) (length s) q in
          (before_place s ∙ take_all (place s) s past, after_place s ∙ drop_of_length-le s {i = suc (place s)} (omega arith))

  before_length : (s : List ℕ) → length (before mark s) ≡ min (place s) (length s)
  before_length s = ap length (before_place s) ∙ length-take (place s) s

  pub before_short : (s : List ℕ) → length (before mark s) ≤ length s
  before_short s = omega (arith, before_length s)

  -- a byte before the mark stands where it stands in the list
  pub before_at : (s : List ℕ) (k : ℕ) → k < length (before mark s) → get_or s k 0 ≡ get_or (before mark s) k 0
  before_at s k h = rw (before_place s) (sym (get_or-take (place s) s k 0 (omega (arith, before_length s))))

  -- ---- parts of an input

  -- the part before the mark, cut, is that of the input that is cut
  pub before_take : (n : ℕ) (s : List ℕ) → before mark (take n s) ≡ take n (before mark s)
  unfolding before
  before_take zero s = refl
  before_take (suc n) [] = refl
  before_take (suc n) (b ∷ rest) = go (eqb b mark) refl (before_take n rest)
    where
      go : (t : Bool) → eqb b mark ≡ t → before mark (take n rest) ≡ take n (before mark rest)
          → before mark (b ∷ take n rest) ≡ take (suc n) (before mark (b ∷ rest))
      go true e more = rw e
      go false e more = rw e (ap (λ (l : List ℕ). b ∷ l) more)

  -- what follows a mark changes nothing, and neither does the mark
  pub before_ended : (s rest : List ℕ) → before mark (s ++ mark ∷ rest) ≡ before mark s
  unfolding before
  before_ended [] rest = rw (eq-eqb mark mark refl)
  before_ended (b ∷ s) rest = go (eqb b mark) refl (before_ended s rest)
    where
      go : (t : Bool) → eqb b mark ≡ t → before mark (s ++ mark ∷ rest) ≡ before mark s → before mark (b ∷ s ++ mark ∷ rest) ≡ before mark (b ∷ s)
      go true e more = rw e
      go false e more = rw e (ap (λ (l : List ℕ). b ∷ l) more)

-- ---- an answer in its room

-- what is written of it is what was put there
pub items_of : (t : Text) (s : List ℕ) → t ≡ text_of s → items t ≡ s
items_of t s e = ap (λ (t : Text). items t) e ∙ take-append_seam s (drop (length s) (replicate room 0))
