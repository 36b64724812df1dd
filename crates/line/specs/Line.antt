-- Which lines are readable, what each asks, and the bytes that are written for it.
use Rattle.std.specs.Prelude.{◌≡◌, Bool, true, cond, ◌&&◌, ◌||◌, List, [], ◌∷◌, ◌++◌, ℕ, ◌+◌, ◌*◌, ◌-◌, eqb, leb, length, get_or, codes}
use Prim.Native.Char.{code}
use Rattle.settings.specs.declared.Face.{Face}
use Rattle.settings.specs.declared.Face.TheVariants.{Periodic, NoSlip, Symmetry}
use Rattle.settings.specs.declared.Settings.{Settings}
use Rattle.lossless.specs.Answer.{Answer}
use Rattle.lossless.specs.Answer.{Refused, Lossless, Lossy}
use Rattle.lossless.specs.Lossless.{faced, lossless_of}
use Rattle.line.specs.Text.{decimal}

-- what stands before the first mark, and what stands after it
unfoldable pub before : ℕ → List ℕ → List ℕ
before mark [] = []
before mark (b ∷ rest) = cond (eqb b mark) [] (b ∷ before mark rest)

unfoldable pub after : ℕ → List ℕ → List ℕ
after mark [] = []
after mark (b ∷ rest) = cond (eqb b mark) rest (after mark rest)

-- ---- the line of an input, ended by a newline or the end of the input

abbrev pub newline : ℕ
newline = code "\n"

abbrev pub first_line : List ℕ → List ℕ
first_line input = before newline input

-- ---- the form of a line: four letters and two sides, one space before each side

abbrev pub space : ℕ
space = code " "

-- the letters are P, N and S
abbrev pub is_letter : ℕ → Bool
is_letter b = eqb b (code "P") || eqb b (code "N") || eqb b (code "S")

unfoldable pub are_letters : List ℕ → Bool
are_letters bs =
    eqb (length bs) 4
    && (is_letter (get_or bs 0 0) && is_letter (get_or bs 1 0) && is_letter (get_or bs 2 0) && is_letter (get_or bs 3 0))

abbrev pub is_digit : ℕ → Bool
is_digit b = leb (code "0") b && leb b (code "9")

unfoldable pub are_digits : List ℕ → Bool
are_digits [] = true
are_digits (b ∷ rest) = is_digit b && are_digits rest

-- a side is one to five decimal digits
abbrev pub most_digits : ℕ
most_digits = 5

unfoldable pub is_side : List ℕ → Bool
is_side bs = leb 1 (length bs) && leb (length bs) most_digits && are_digits bs

unfoldable pub are_sides : List ℕ → Bool
are_sides bs = is_side (before space bs) && is_side (after space bs)

abbrev pub most_bytes : ℕ
most_bytes = 64

unfoldable pub readable : List ℕ → Bool
readable line = leb (length line) most_bytes && are_letters (before space line) && are_sides (after space line)

-- ---- what it asks

-- P, N and S are Periodic, NoSlip and Symmetry
unfoldable pub face_of_letter : ℕ → Face
face_of_letter letter = cond (eqb letter (code "P")) Periodic (cond (eqb letter (code "N")) NoSlip Symmetry)

-- the faces that four letters name
abbrev pub faces_of : List ℕ → List Face
faces_of bs =
    face_of_letter (get_or bs 0 0) ∷ face_of_letter (get_or bs 1 0) ∷ face_of_letter (get_or bs 2 0)
    ∷ face_of_letter (get_or bs 3 0) ∷ []

-- the number that the digits bs say after those that say n
unfoldable pub number_after : ℕ → List ℕ → ℕ
number_after n [] = n
number_after n (b ∷ rest) = number_after (n * 10 + (b - code "0")) rest

-- the number that digits say: `decimal` is the way back
abbrev pub decimal_of : List ℕ → ℕ
decimal_of bs = number_after 0 bs

-- x min, x max, y min, y max, then the sides
abbrev pub study : ℕ → ℕ → ℕ → ℕ → ℕ → ℕ → Settings
study a b c d nx ny = faced nx ny (face_of_letter a) (face_of_letter b) (face_of_letter c) (face_of_letter d)

unfoldable pub asked : List ℕ → Settings
asked line =
    study (get_or line 0 0) (get_or line 1 0) (get_or line 2 0) (get_or line 3 0)
    (decimal_of (before space (after space line))) (decimal_of (after space (after space line)))

-- ---- what is written for it

-- a number in an answer has a space before it
abbrev pub spaced : ℕ → List ℕ
spaced n = space ∷ decimal n

unfoldable pub worded : Answer → List ℕ
worded (Refused number) = codes "refused" ++ spaced number ++ codes "\n"
worded Lossless = codes "lossless\n"
worded (Lossy x y i) = codes "lossy" ++ spaced x ++ spaced y ++ spaced i ++ codes "\n"

-- a line of any other form, or one that is too long
abbrev pub unreadable : List ℕ
unreadable = codes "unreadable\n"

unfoldable pub answer_to : List ℕ → List ℕ
answer_to line = cond (readable line) (worded (lossless_of (asked line))) unreadable

-- what is written for an input
abbrev pub reply_to : List ℕ → List ℕ
reply_to input = answer_to (first_line input)

-- ---- the form as one equation: what answer_to says of it is shown in proofs/Forms.antt

pub record Form (line : List ℕ) (a b c d : ℕ) (xs ys : List ℕ) : Type 0 where
  pub parts : line ≡ a ∷ b ∷ c ∷ d ∷ space ∷ xs ++ space ∷ ys
  pub letters : is_letter a && is_letter b && is_letter c && is_letter d ≡ true
  pub x_side : is_side xs ≡ true
  pub y_side : is_side ys ≡ true
