-- How long the words of an answer are, and that every answer has room.
use mathlib.Core.Path.{◌≡◌, refl}
use mathlib.Core.Bool.{Bool, true, false, cond}
use mathlib.Core.List.{List}
use Prim.Native.Nat.{ℕ, ◌+◌, ◌^◌, ◌≤◌, ◌<◌}
use native.Mathlib.Omega.{arith}
use lib.ListN.{length, length-append}
use Rattle.settings.specs.declared.Settings.{Settings}
use Rattle.settings.specs.Tests.{sides_bad, driven, lossy}
use Rattle.settings.proofs.Laws.{sides_ok}
use Rattle.lossless.specs.Answer.{Lossy}
use Rattle.lossless.specs.Lossless.{lowest, lossy_at}
use Rattle.lossless.proofs.Whole.{is_lowest}
use lib.Chars.{codes}
use Rattle.line.specs.Text.{room}
use Rattle.line.specs.Line.{most_digits, readable, spaced, worded, answer_to}
use Rattle.line.proofs.Sides.{side_small}
use Rattle.line.proofs.Decimal.{side_digits}
use Rattle.line.proofs.Forms.{form_of, not_readable}
use Rattle.line.proofs.Question.{not_driven, written}

lossy_size : (x y i : ℕ) → length (worded (Lossy x y i)) ≡ length (spaced x) + length (spaced y) + length (spaced i) + 6
unfolding worded
lossy_size x y i = simp length-append (omega arith)

-- ---- every answer has room: what is lost lies on the grid, so its numbers are short

module _ (s : Settings) (calm : driven s ≡ false) (x : s.nx < 10 ^ most_digits) (y : s.ny < 10 ^ most_digits) where
  lossy_short : sides_bad s.nx s.ny ≡ false → lossy s ≡ true → length (worded (lossy_at (lowest s))) ≤ room
  lossy_short e l =
      let on = (is_lowest s calm (sides_ok s.nx s.ny e) l).on in
      let lost = lowest s in
      omega (
        arith,
        lossy_size lost.x lost.y lost.i,
        side_digits lost.x (omega arith),
        side_digits lost.y (omega arith),
        side_digits lost.i (omega arith),
      )

  by_case : (t u : Bool) → sides_bad s.nx s.ny ≡ t → lossy s ≡ u
      → length (cond t (codes "refused 1\n") (cond u (worded (lossy_at (lowest s))) (codes "lossless\n"))) ≤ room
  by_case true u e l = omega arith
  by_case false true e l = lossy_short e l
  by_case false false e l = omega arith

pub short : (line : List ℕ) → length (answer_to line) ≤ room
short line = go (readable line) refl
  where
    go : (t : Bool) → readable line ≡ t → length (answer_to line) ≤ room
    go true e =
        let f = form_of line e in
        rw (written line _ _ _ _ _ _ f)
        (by_case _ (not_driven _ _ _ _ _ _) (side_small _ f.x_side) (side_small _ f.y_side) _ _ refl refl)
    go false e = rw (not_readable line e) (omega arith)
