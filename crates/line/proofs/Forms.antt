-- A line of the form gets the answer to its question, and any other line gets `unreadable`.
use mathlib.Core.Path.{◌≡◌, refl, sym, ap, ◌∙◌}
use mathlib.Core.Bool.{Bool, true, false, not, ◌&&◌}
use mathlib.Core.List.{List, [], ◌∷◌, ◌++◌}
use mathlib.Core.Logic.{◌↔◌}
use Prim.Native.Nat.{ℕ, ◌≤◌}
use native.Mathlib.Omega.{arith}
use lib.Dec.{eqb}
use lib.ListN.{length, get_or, length-append}
use borrow.Author.Tests.{eqb-true, le-leb, not-true}
use Rattle.lossless.specs.Answer.{Answer}
use Rattle.lossless.specs.Answer.{Refused, Lossless, Lossy}
use Rattle.lossless.specs.Lossless.{Reply, reply, lossless_of}
use Rattle.settings.specs.declared.Settings.{Settings}
use Rattle.std.specs.Prelude.{cond, Some, None}
use Rattle.std.proofs.lemmas.Option.{cond_some}
use Rattle.line.specs.Line.{space, before, after, is_letter, are_letters, is_digit, are_digits, are_sides, most_bytes, readable, decimal_of, study, asked, worded, unreadable, answer_to, Form}
use Rattle.line.proofs.Words.{before_short}
use Rattle.line.proofs.Sides.{both, side_told}
use Rattle.line.proofs.Parts.{told, both_sides, letters_told}

-- ---- a word: no byte of it is a space

abbrev is_word : List ℕ → Bool
is_word [] = true
is_word (b ∷ rest) = not (eqb b space) && is_word rest

before_word : (ws rest : List ℕ) → is_word ws ≡ true → before space (ws ++ space ∷ rest) ≡ ws
unfolding before
before_word [] rest e = refl
before_word (b ∷ ws) rest e =
    let q = both (not (eqb b space)) (is_word ws) e in
    rw (not-true (eqb b space) q.0) (ap (λ (l : List ℕ). b ∷ l) (before_word ws rest q.1))

after_word : (ws rest : List ℕ) → is_word ws ≡ true → after space (ws ++ space ∷ rest) ≡ rest
unfolding after
after_word [] rest e = refl
after_word (b ∷ ws) rest e =
    let q = both (not (eqb b space)) (is_word ws) e in
    rw (not-true (eqb b space) q.0) (after_word ws rest q.1)

-- what passes a test that a space does not pass is no space
no_space : (p : ℕ → Bool) → p space ≡ false → (b : ℕ) → p b ≡ true → not (eqb b space) ≡ true
no_space p n b h = go (eqb b space) refl
  where
    go : (t : Bool) → eqb b space ≡ t → not t ≡ true
    go true e = sym n ∙ ap p (sym (eqb-true b space e)) ∙ h
    go false e = refl

digits_word : (bs : List ℕ) → are_digits bs ≡ true → is_word bs ≡ true
unfolding are_digits
digits_word [] e = refl
digits_word (b ∷ rest) e =
    let q = both (is_digit b) (are_digits rest) e in
    rw (no_space is_digit refl b q.0) (digits_word rest q.1)

letters_word : (a b c d : ℕ) → is_letter a && is_letter b && is_letter c && is_letter d ≡ true → is_word (a ∷ b ∷ c ∷ d ∷ []) ≡ true
letters_word a b c d e =
    let to-c = both (is_letter a && is_letter b && is_letter c) (is_letter d) e in
    let to-b = both (is_letter a && is_letter b) (is_letter c) to-c.0 in
    let to-a = both (is_letter a) (is_letter b) to-b.0 in
    rw (
      no_space is_letter refl a to-a.0,
      no_space is_letter refl b to-a.1,
      no_space is_letter refl c to-b.1,
      no_space is_letter refl d to-c.1,
    )

-- ---- a line of the form is readable, and asks what its parts say

module _ (line : List ℕ) (a b c d : ℕ) (xs ys : List ℕ) (f : Form line a b c d xs ys) where
  letters : before space line ≡ a ∷ b ∷ c ∷ d ∷ []
  letters = rw f.parts (before_word (a ∷ b ∷ c ∷ d ∷ []) (xs ++ space ∷ ys) (letters_word a b c d f.letters))

  sides : after space line ≡ xs ++ space ∷ ys
  sides = rw f.parts (after_word (a ∷ b ∷ c ∷ d ∷ []) (xs ++ space ∷ ys) (letters_word a b c d f.letters))

  first : before space (after space line) ≡ xs
  first = rw sides (before_word xs ys (digits_word xs (side_told xs f.x_side).digits))

  second : after space (after space line) ≡ ys
  second = rw sides (after_word xs ys (digits_word xs (side_told xs f.x_side).digits))

  few : length line ≤ most_bytes
  few = rw f.parts (omega (arith, length-append xs (space ∷ ys), (side_told xs f.x_side).few, (side_told ys f.y_side).few))

  is_readable : readable line ≡ true
  unfolding readable are_letters are_sides
  is_readable = rw (le-leb (length line) most_bytes few, letters, f.letters, first, second, f.x_side, f.y_side)

  is_asked : asked line ≡ study a b c d (decimal_of xs) (decimal_of ys)
  unfolding asked
  is_asked = rw (first, second, f.parts)

  -- ITS ANSWER is that to the question
  pub answered : answer_to line ≡ worded (lossless_of (study a b c d (decimal_of xs) (decimal_of ys)))
  unfolding answer_to
  answered = rw (is_readable, is_asked)

-- ---- a readable line is of the form

joined : (s : List ℕ) → 1 ≤ length (after space s) → s ≡ before space s ++ space ∷ after space s
unfolding before after
joined [] h = absurd (omega arith)
joined (b ∷ rest) h = go (eqb b space) refl h (joined rest)
  where
    go : (t : Bool) → eqb b space ≡ t → 1 ≤ length (after space (b ∷ rest)) → (1 ≤ length (after space rest) → rest ≡ before space rest ++ space ∷ after space rest)
        → b ∷ rest ≡ before space (b ∷ rest) ++ space ∷ after space (b ∷ rest)
    go true e h more = rw (e, eqb-true b space e)
    go false e h more = rw e (ap (λ (l : List ℕ). b ∷ l) (more (rw e at h)))

four_bytes : (bs : List ℕ) → length bs ≡ 4 → bs ≡ get_or bs 0 0 ∷ get_or bs 1 0 ∷ get_or bs 2 0 ∷ get_or bs 3 0 ∷ []
four_bytes [] h = absurd (omega arith)
four_bytes (a ∷ []) h = absurd (omega arith)
four_bytes (a ∷ b ∷ []) h = absurd (omega arith)
four_bytes (a ∷ b ∷ c ∷ []) h = absurd (omega arith)
four_bytes (a ∷ b ∷ c ∷ d ∷ []) h = refl
four_bytes (a ∷ b ∷ c ∷ d ∷ e ∷ rest) h = absurd (omega arith)

abbrev letter : List ℕ → ℕ → ℕ
letter line k = get_or (before space line) k 0

pub form_of : (line : List ℕ) → readable line ≡ true
    → Form line (letter line 0) (letter line 1) (letter line 2) (letter line 3) (before space (after space line)) (after space (after space line))
form_of line e =
    let r = told line e in
    let l = letters_told (before space line) r.letters in
    let s = both_sides (after space line) r.sides in
    let inner = joined (after space line) (side_told (after space (after space line)) s.1).some in
    let outer = joined line (omega (arith, before_short space (after space line), (side_told (before space (after space line)) s.0).some)) in
    record {
      parts =
          outer
          ∙ ap (λ (ls : List ℕ). ls ++ space ∷ after space line) (four_bytes (before space line) l.size)
          ∙ ap (λ (rest : List ℕ). letter line 0 ∷ letter line 1 ∷ letter line 2 ∷ letter line 3 ∷ space ∷ rest) inner;
      letters = l.each;
      x_side = s.0;
      y_side = s.1;
    }

-- ---- any other line, and no other, is unreadable

never : (r : Answer) → worded r ≡ unreadable → ⊥
unfolding worded
never (Refused number) e = absurd (omega (arith, ap (λ (l : List ℕ). get_or l 0 0) e))
never Lossless e = absurd (omega (arith, ap (λ (l : List ℕ). get_or l 0 0) e))
never (Lossy x y i) e = absurd (omega (arith, ap (λ (l : List ℕ). get_or l 0 0) e))

pub not_readable : (line : List ℕ) → readable line ≡ false → answer_to line ≡ unreadable
unfolding answer_to
not_readable line e = rw e

-- what the code finds of a line, and what it makes of that
pub is_answer : (line : List ℕ) {s : Settings} {r : Answer} → Some s ≡ cond (readable line) (Some (asked line)) None → reply r ≡ reply (lossless_of s)
    → worded r ≡ answer_to line
unfolding answer_to
is_answer line p q =
    let is = cond_some _ _ _ (sym p) in rw (is.0, is.1, ← ap (λ (w : Reply). w.answer) q)

pub is_unreadable : (line : List ℕ) → None ≡ cond (readable line) (Some (asked line)) None → unreadable ≡ answer_to line
is_unreadable line e = go (readable line) refl e
  where
    go : (t : Bool) → readable line ≡ t → None ≡ cond t (Some (asked line)) None → unreadable ≡ answer_to line
    go true r n = absurd (cc)
    go false r n = sym (not_readable line r)

pub readable_exactly_when : (line : List ℕ) → (answer_to line ≡ unreadable) ↔ ((a b c d : ℕ) (xs ys : List ℕ) → Form line a b c d xs ys → ⊥)
readable_exactly_when line = (
  λ e a b c d xs ys f. never _ (sym (answered line a b c d xs ys f) ∙ e),
  λ no-form. go no-form (readable line) refl,
)
  where
    go : ((a b c d : ℕ) (xs ys : List ℕ) → Form line a b c d xs ys → ⊥) → (t : Bool) → readable line ≡ t → answer_to line ≡ unreadable
    go no-form true e = absurd (no-form _ _ _ _ _ _ (form_of line e))
    go no-form false e = not_readable line e
