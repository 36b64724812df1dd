-- What a readable line tells of its letters and sides.
use mathlib.Core.Path.{◌≡◌, sym}
use mathlib.Core.Bool.{true, false, ◌&&◌}
use mathlib.Core.List.{List, []}
use Prim.Native.Nat.{ℕ, ◌≤◌, ◌<◌}
use native.Mathlib.Omega.{arith}
use Rattle.std.specs.Prelude.{cond, Some, None}
use Rattle.std.proofs.Math.Bool.{and-false}
use Rattle.std.proofs.lemmas.Option.{cond_some}
use lib.Dec.{eqb, leb}
use lib.ListN.{length, get_or}
use borrow.Author.Tests.{eqb-true, leb-true, le-leb}
use Rattle.settings.specs.declared.Face.{Face}
use Rattle.settings.specs.declared.Face.TheVariants.{Periodic}
use Rattle.lossless.specs.Lossless.{faced}
use Rattle.line.specs.Line.{space, before, after, is_letter, are_letters, is_side, are_sides, most_bytes, readable, faces_of, decimal_of, asked}
use Rattle.line.proofs.Words.{before_at}
use Rattle.line.proofs.Sides.{both}

pub record Readable (line : List ℕ) : Type 0 where
  pub few : length line ≤ most_bytes
  pub letters : are_letters (before space line) ≡ true
  pub sides : are_sides (after space line) ≡ true

pub told : (line : List ℕ) → readable line ≡ true → Readable line
unfolding readable
told line e =
    let q = both (leb (length line) most_bytes && are_letters (before space line)) (are_sides (after space line)) e in
    let p = both (leb (length line) most_bytes) (are_letters (before space line)) q.0 in
    record { few = leb-true (length line) most_bytes p.0; letters = p.1; sides = q.1 }

pub both_sides : (bs : List ℕ) → are_sides bs ≡ true → (is_side (before space bs) ≡ true) × (is_side (after space bs) ≡ true)
unfolding are_sides
both_sides bs e = both (is_side (before space bs)) (is_side (after space bs)) e

pub record Letters (bs : List ℕ) : Type 0 where
  pub size : length bs ≡ 4
  pub each : is_letter (get_or bs 0 0) && is_letter (get_or bs 1 0) && is_letter (get_or bs 2 0) && is_letter (get_or bs 3 0) ≡ true

pub letters_told : (bs : List ℕ) → are_letters bs ≡ true → Letters bs
unfolding are_letters
letters_told bs e =
    let q = both (eqb (length bs) 4) _ e in
    record { size = eqb-true (length bs) 4 q.0; each = q.1 }

-- ---- a line that is told in its parts

-- with nothing after the letters, it is not readable
pub no_sides : (line : List ℕ) → after space line ≡ [] → readable line ≡ false
unfolding readable are_sides is_side before
no_sides line e = rw e (and-false (leb (length line) most_bytes && are_letters (before space line)))

-- what its parts say is what it asks
pub asks : (line : List ℕ) {letters sides xs ys : List ℕ} {fs : List Face} {x y : ℕ} → length line ≤ most_bytes
    → letters ≡ before space line → sides ≡ after space line → xs ≡ before space sides → ys ≡ after space sides
    → Some fs ≡ cond (are_letters letters) (Some (faces_of letters)) None
    → Some x ≡ cond (is_side xs) (Some (decimal_of xs)) None
    → Some y ≡ cond (is_side ys) (Some (decimal_of ys)) None
    → Some (faced x y (get_or fs 0 Periodic) (get_or fs 1 Periodic) (get_or fs 2 Periodic) (get_or fs 3 Periodic)) ≡ cond (readable line) (Some (asked line)) None
unfolding readable are_sides asked
asks line few l s a b p q r =
    let letters = cond_some _ _ _ (sym (rw l at p)) in
    let first = cond_some _ _ _ (sym (rw (a, s) at q)) in
    let second = cond_some _ _ _ (sym (rw (b, s) at r)) in
    let size = (letters_told (before space line) letters.0).size in
    let at : (k : ℕ) → k < 4 → get_or line k 0 ≡ get_or (before space line) k 0 = λ k h. before_at space line k (omega arith) in
    rw (
      le-leb (length line) most_bytes few,
      letters.0,
      first.0,
      second.0,
      ← letters.1,
      ← first.1,
      ← second.1,
      at 0 (omega arith),
      at 1 (omega arith),
      at 2 (omega arith),
      at 3 (omega arith),
    )
