-- What a line asks is refused by 1 alone: its faces are never driven. And what a reader may leave unread changes no answer.
use mathlib.Core.Path.{◌≡◌, refl, sym, ap, ◌∙◌}
use mathlib.Core.Bool.{Bool, true, false, cond}
use mathlib.Core.List.{List, ◌∷◌, ◌++◌}
use Prim.Native.Nat.{ℕ, suc, ◌≤◌, ◌<◌}
use native.Mathlib.Decide.{dec_le}
use native.Mathlib.Omega.{arith}
use lib.Dec.{eqb}
use lib.ListN.{length, take}
use lib.Seq.{take_all, length-take-le}
use borrow.Author.Tests.{lt-leb}
use Rattle.lattice.specs.declared.Axis.{Axis}
use Rattle.lattice.specs.declared.Side.{Side}
use Rattle.settings.specs.declared.Face.{Face}
use Rattle.settings.specs.declared.Face.TheVariants.{Periodic, NoSlip, Symmetry}
use Rattle.settings.specs.declared.Settings.{Settings}
use Rattle.settings.specs.Tests.{sides_bad, face_bad, faces_bad, drives, driven, lossy}
use Rattle.settings.specs.Outcome.{answer}
use Rattle.lossless.specs.Answer.{Answer}
use Rattle.lossless.specs.Answer as The
use Rattle.lossless.specs.Lossless.{lowest, lossy_at, lossless_of}
use lib.Chars.{codes}
use Rattle.line.specs.Text.{decimal_in}
use Rattle.line.specs.Line.{newline, first_line, most_bytes, readable, face_of_letter, decimal_of, study, worded, answer_to, reply_to, Form}
use Rattle.line.proofs.Words.{before_take, before_ended}
use Rattle.line.proofs.Forms.{answered, not_readable}

-- ---- the faces of a line

-- what none of the three kinds is, no face of a line is
three_kinds : (p : Face → Bool) → p Periodic ≡ false → p NoSlip ≡ false → p Symmetry ≡ false → (l : ℕ) → p (face_of_letter l) ≡ false
unfolding face_of_letter
three_kinds p x y z l = go (eqb l 80) (eqb l 78)
  where
    go : (t u : Bool) → p (cond t Periodic (cond u NoSlip Symmetry)) ≡ false
    go true u = x
    go false true = y
    go false false = z

no_bad_face : (a : Axis) (d : Side) (l : ℕ) → face_bad a d (face_of_letter l) ≡ false
unfolding face_bad
no_bad_face a d = three_kinds (face_bad a d) refl refl refl

module _ (a b c d nx ny : ℕ) where
  faces_good : faces_bad (study a b c d nx ny) ≡ false
  unfolding faces_bad
  faces_good = rw (no_bad_face _ _ a, no_bad_face _ _ b, no_bad_face _ _ c, no_bad_face _ _ d)

  pub not_driven : driven (study a b c d nx ny) ≡ false
  unfolding driven
  not_driven = let calm = three_kinds drives refl refl refl in rw (calm a, calm b, calm c, calm d)

  -- the answer to what a line asks
  question : lossless_of (study a b c d nx ny)
      ≡ cond (sides_bad nx ny) (The.Refused 1) (cond (lossy (study a b c d nx ny)) (lossy_at (lowest (study a b c d nx ny))) The.Lossless)
  unfolding lossless_of answer
  question = rw (faces_good, not_driven) (go (sides_bad nx ny) _)
    where
      go : (t : Bool) (x : Answer) → cond (eqb (cond t 1 0) 0) x (The.Refused (cond t 1 0)) ≡ cond t (The.Refused 1) x
      go true x = refl
      go false x = refl

-- ---- what is written

module _ (line : List ℕ) (a b c d : ℕ) (xs ys : List ℕ) (f : Form line a b c d xs ys) where
  -- `refused 1` exactly where number 1 applies, else `lossless` or `lossy`
  pub written : let s = study a b c d (decimal_of xs) (decimal_of ys) in
      answer_to line
      ≡ cond (sides_bad s.nx s.ny) (codes "refused 1\n") (cond (lossy s) (worded (lossy_at (lowest s))) (codes "lossless\n"))
  unfolding worded decimal_in
  written =
      let s = study a b c d (decimal_of xs) (decimal_of ys) in
      answered line a b c d xs ys f ∙ rw (question a b c d (decimal_of xs) (decimal_of ys)) (go s (sides_bad s.nx s.ny) (lossy s))
    where
      go : (s : Settings) (t u : Bool)
          → worded (cond t (The.Refused 1) (cond u (lossy_at (lowest s)) The.Lossless))
          ≡ cond t (codes "refused 1\n") (cond u (worded (lossy_at (lowest s))) (codes "lossless\n"))
      go s true u = refl
      go s false true = refl
      go s false false = refl

-- ---- what need not be read: all that stands after one byte more than the longest line, or after a newline

too_long : (line : List ℕ) → most_bytes < length line → readable line ≡ false
unfolding readable
too_long line h = rw (lt-leb (length line) most_bytes h)

cut : (line : List ℕ) → answer_to (take (suc most_bytes) line) ≡ answer_to line
cut line = go (dec_le (length line) most_bytes)
  where
    start : List ℕ
    start = take (suc most_bytes) line

    go : Dec (length line ≤ most_bytes) → answer_to start ≡ answer_to line
    go (yes l) = ap answer_to (take_all (suc most_bytes) line (omega arith))
    go (no more) =
        let size = length-take-le (suc most_bytes) line (omega arith) in
        not_readable start (too_long start (omega arith)) ∙ sym (not_readable line (too_long line (omega arith)))

pub cut_input : (input : List ℕ) → reply_to (take (suc most_bytes) input) ≡ reply_to input
cut_input input = ap answer_to (before_take newline (suc most_bytes) input) ∙ cut (first_line input)

pub ended_input : (input rest : List ℕ) → reply_to (input ++ newline ∷ rest) ≡ reply_to input
ended_input input rest = ap answer_to (before_ended newline input rest)
