-- A number in decimal, as a list of bytes, and an answer in the room for it.
use Rattle.std.specs.Prelude.{cond, List, [], ◌∷◌, ◌++◌, ℕ, zero, suc, ◌+◌, ◌/◌, ◌%◌, ltb, length, take, drop, replicate}
use Prim.Native.Char.{code}
use Rattle.line.specs.declared.Text.{Text}

-- the byte of a number below 10
abbrev pub digit : ℕ → ℕ
digit n = code "0" + n

-- in decimal, with no zero in front: one digit, or the digits of n / 10 and after them the last; `most` is how many digits there may be
unfoldable pub decimal_in : ℕ → ℕ → List ℕ
decimal_in zero n = []
decimal_in (suc most) n = cond (ltb n 10) (digit n ∷ []) (decimal_in most (n / 10) ++ digit (n % 10) ∷ [])

-- no number has more digits than one above itself
abbrev pub decimal : ℕ → List ℕ
decimal n = decimal_in (suc n) n

-- room for any answer
abbrev pub room : ℕ
room = 32

-- the text at the start of zeros
abbrev pub text_of : List ℕ → Text
text_of text = record { bytes = text ++ drop (length text) (replicate room 0); count = length text }

-- what of it is written
abbrev pub items : Text → List ℕ
items t = take t.count t.bytes
