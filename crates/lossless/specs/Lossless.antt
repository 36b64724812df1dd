-- Which faces lose nothing, the lowest entry that is lost, and the reverse; then the outcomes of the two operations.
use Rattle.std.specs.Prelude.{◌≡◌, Result, Ok, Err, Bool, not, cond, ◌&&◌, List, [], ◌∷◌, ℕ, ◌-◌, ◌*◌, ◌^◌, ◌<◌, length, get_or}
use Rattle.number.specs.Number.{c0}
use Rattle.cell.specs.declared.Collision.TheVariants.{Bgk}
use Rattle.grid.specs.Grid.{Field, field_of, buffer_of}
use Rattle.settings.specs.declared.Face.{Face}
use Rattle.settings.specs.declared.Settings.{Settings}
use Rattle.settings.specs.Tests.{is_periodic, is_symmetry, lossy}
use Rattle.settings.specs.Refusals.{refusal, lossless, reverse}
use Rattle.settings.specs.Outcome.{answer, Written, written}
use Rattle.streaming.specs.Streaming.{next_buffer}
use Rattle.streaming.specs.Source.{Entry, entry, On, index_of, held, target}
use Rattle.settings.specs.declared.refused.Refusal.{Refusal}
use Rattle.settings.specs.Refused.{number}
use Rattle.lossless.specs.Answer.{Answer}
use Rattle.lossless.specs.Answer as The
use Rattle.lossless.specs.declared.Answer as Code
use Rattle.lossless.specs.declared.Answer.TheVariants as Variant

-- ---- THE QUESTION: no two different post-collision buffers give the same next buffer

-- settings of nx by ny with these faces: x min, x max, y min, y max. The question looks at nothing else
abbrev pub faced : ℕ → ℕ → Face → Face → Face → Face → Settings
faced nx ny a b c d = record {
  nx = nx;
  ny = ny;
  nu = c0;
  fx = c0;
  fy = c0;
  collision = Bgk;
  x_min = a;
  x_max = b;
  y_min = c;
  y_max = d;
  floor = c0;
}

-- a lent buffer: nine entries a cell, 64 bits an entry
pub record Buffer (nx ny : ℕ) (b : List ℕ) : Type 0 where
  pub size : length b ≡ 9 * (nx * ny)
  pub words : (k : ℕ) → get_or b k 0 < 2 ^ 64

pub record Lossless (s : Settings) : Type 0 where
  pub one : (p q : List ℕ) → Buffer s.nx s.ny p → Buffer s.nx s.ny q → next_buffer s p ≡ next_buffer s q → p ≡ q

-- ---- the smallest index that no final entry is copied from

-- some final entry is, whatever the post-collision buffer, a copy of its entry at index j
pub record Kept (s : Settings) (j : ℕ) : Type 0 where
  pub final : ℕ
  pub inside : final < 9 * (s.nx * s.ny)
  pub copy : (post : List ℕ) → Buffer s.nx s.ny post → get_or (next_buffer s post) final 0 ≡ get_or post j 0

-- e is lost: no final entry is a copy of it, and none depends on it; and every entry with a smaller index is kept
pub record Lowest (s : Settings) (e : Entry) : Type 0 where
  pub on : On s.nx s.ny e
  pub lost : Kept s (index_of s.nx s.ny e) → ⊥
  pub unseen : (p q : List ℕ) → ((k : ℕ) → (k ≡ index_of s.nx s.ny e → ⊥) → get_or p k 0 ≡ get_or q k 0)
      → next_buffer s p ≡ next_buffer s q
  pub least : (j : ℕ) → j < index_of s.nx s.ny e → Kept s j

-- what goes out through the periodic face b comes in through its opposite a, which is not periodic
abbrev pub strays : Face → Face → Bool
strays a b = not (is_periodic a) && is_periodic b

-- where that entry is, if the faces are lossy
unfoldable pub lowest : Settings → Entry
lowest s =
    cond (strays s.x_min s.x_max) (entry (s.nx - 1) 0 1)
    (cond (strays s.y_min s.y_max) (entry 0 (s.ny - 1) 2)
    (cond (strays s.x_max s.x_min) (entry 0 0 3)
    (cond (strays s.y_max s.y_min) (entry 0 0 4)
    (cond (is_symmetry s.x_max) (entry (s.nx - 1) 0 5) (entry 0 0 6)))))

-- ---- THE REVERSE: each entry is what stands at its target

unfoldable pub reversed : Settings → Field → Field
reversed s p x y i = held p (target s (entry x y i))

unfoldable pub reverse_buffer : Settings → List ℕ → List ℕ
reverse_buffer s f = buffer_of s.nx s.ny (reversed s (field_of s.nx s.ny f))

-- ---- outcomes

-- what an answer stands for: the number, and the values 1 if lossless, else 0 and x, y, i; zeros on a refusal
abbrev pub number_of : Answer → ℕ
number_of (The.Refused number) = number
number_of The.Lossless = 0
number_of (The.Lossy x y i) = 0

abbrev pub values_of : Answer → List ℕ
values_of (The.Refused number) = 0 ∷ 0 ∷ 0 ∷ 0 ∷ []
values_of The.Lossless = 1 ∷ 0 ∷ 0 ∷ 0 ∷ []
values_of (The.Lossy x y i) = 0 ∷ x ∷ y ∷ i ∷ []

-- an answer with its number and values
pub record Reply : Type 0 where
  pub answer : Answer
  pub number : ℕ
  pub values : List ℕ

abbrev pub reply : Answer → Reply
reply a = record { answer = a; number = number_of a; values = values_of a }

-- the answer that the code gives
abbrev pub answer_of : Result Code.Answer Refusal → Answer
answer_of (Ok Variant.Lossless) = The.Lossless
answer_of (Ok (Variant.Lossy x y i)) = The.Lossy x y i
answer_of (Err why) = The.Refused (number why)

-- the answer to the lossless question
abbrev pub lossy_at : Entry → Answer
lossy_at e = The.Lossy e.x e.y e.i

unfoldable pub lossless_of : Settings → Answer
lossless_of s =
    let number = refusal (lossless s) in
    answer number (cond (lossy s) (lossy_at (lowest s)) The.Lossless) (The.Refused number)

-- what an answer that is no refusal says
abbrev pub Says : Settings → Answer → Type 0
Says s (The.Refused number) = ⊥
Says s The.Lossless = Lossless s
Says s (The.Lossy x y i) = Lowest s (entry x y i)

-- what the reverse of f leaves in the post-collision buffer
abbrev pub reversed_of : Settings → List ℕ → List ℕ → Written
reversed_of s f post = written (refusal (reverse s (length f) (length post))) post (reverse_buffer s f)
