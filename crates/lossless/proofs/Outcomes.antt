-- What the two outcomes come to: the question's answer is right in every case, and the reverse leaves the one buffer that is streamed to f.
use mathlib.Core.Path.{◌≡◌, refl, sym, ap, ◌∙◌, subst}
use mathlib.Core.Bool.{Bool, true, false, cond}
use mathlib.Core.List.{List}
use mathlib.Core.Logic.{◌↔◌}
use Prim.Native.Nat.{ℕ, ◌*◌, ◌<◌}
use native.Mathlib.Decide.{ℕ_discrete}
use lib.ListN.{length}
use Rattle.std.specs.Prelude.{Result, Ok, Err}
use Rattle.grid.specs.Grid.{Grid}
use Rattle.settings.specs.declared.Settings.{Settings}
use Rattle.settings.specs.Tests.{driven, lossy}
use Rattle.settings.specs.Refusals.{refusal, lossless, reverse}
use Rattle.settings.specs.declared.refused.Refusal.{Refusal}
use Rattle.settings.specs.Outcome.{Written}
use Rattle.settings.proofs.Laws.{sides_ok, length_ok, known}
use Rattle.settings.proofs.Numbers.{some_number}
use Rattle.settings.proofs.Same.{same_refusal}
use Rattle.settings.proofs.Outcome.{answered, refused}
use Rattle.streaming.specs.Streaming.{next_buffer}
use Rattle.streaming.specs.Turned.{carried}
use Rattle.lossless.specs.Lossless.{reverse_buffer, lowest, lossy_at, number_of, answer_of, lossless_of, Says, reversed_of}
use Rattle.lossless.specs.Answer.{Answer}
use Rattle.lossless.specs.Answer as The
use Rattle.lossless.specs.declared.Answer as Code
use Rattle.lossless.specs.declared.Answer.TheVariants as Variant
use Rattle.lossless.proofs.Backward.{reverse_gives, reverse_only, reverse_is}
use Rattle.lossless.proofs.Whole.{lossless_exactly_when, is_lowest}

-- ---- the question

module _ (s : Settings) where
  settled : Grid s.nx s.ny → driven s ≡ false → (b : Bool) → lossy s ≡ b → Says s (cond b (lossy_at (lowest s)) The.Lossless)
  settled g calm true l = is_lowest s calm g l
  settled g calm false l = (lossless_exactly_when s calm g).1 l

  -- not refused, the answer says what is so
  pub says : refusal (lossless s) ≡ 0 → Says s (lossless_of s)
  unfolding lossless_of
  says z =
      let k = known (lossless s) z in
      subst (Says s) (answered _ refl z refl) (settled k.0 k.1.1.0 (lossy s) refl)

  -- refused or not, its number is the first that applies
  pub number_said : number_of (lossless_of s) ≡ refusal (lossless s)
  unfolding lossless_of
  number_said = go (ℕ_discrete (refusal (lossless s)) 0)
    where
      calm : (b : Bool) → number_of (cond b (lossy_at (lowest s)) The.Lossless) ≡ 0
      calm true = refl
      calm false = refl

      go : Dec (refusal (lossless s) ≡ 0) → number_of (lossless_of s) ≡ refusal (lossless s)
      go (yes z) = ap number_of (sym (answered _ refl z refl)) ∙ calm (lossy s) ∙ sym z
      go (no d) = ap number_of (sym (refused _ (λ n. The.Refused n) refl d))

-- one answer is the code's answer in one way
pub same_answers : (r q : Result Code.Answer Refusal) → answer_of r ≡ answer_of q → r ≡ q
same_answers (Ok Variant.Lossless) (Ok Variant.Lossless) e = refl
same_answers (Ok Variant.Lossless) (Ok (Variant.Lossy x y i)) e = cc
same_answers (Ok (Variant.Lossy x y i)) (Ok Variant.Lossless) e = cc
same_answers (Ok (Variant.Lossy x y i)) (Ok (Variant.Lossy a b j)) e = cc
same_answers (Ok Variant.Lossless) (Err why) e = cc
same_answers (Ok (Variant.Lossy x y i)) (Err why) e = cc
same_answers (Err why) (Ok Variant.Lossless) e = cc
same_answers (Err why) (Ok (Variant.Lossy x y i)) e = cc
same_answers (Err why) (Err other) e = ap Err (same_refusal why other (cc))

-- ---- the reverse

module _ (s : Settings) (f post : List ℕ) (z : refusal (reverse s (length f) (length post)) ≡ 0) where
  -- THE ONE buffer from which streaming with faces gives f, whatever post held
  pub the_one : (p : List ℕ) → length p ≡ 9 * (s.nx * s.ny) → (next_buffer s p ≡ f) ↔ (p ≡ (reversed_of s f post).buffer)
  the_one p size =
      let k = known (reverse s (length f) (length post)) z in
      let calm = k.1.1.1.1.0 in
      let whole = k.1.1.1.1.1.0 in
      let is : reverse_buffer s f ≡ (reversed_of s f post).buffer = ap (λ (w : Written). w.buffer) (answered _ refl z refl) in (
        λ h. reverse_only s calm whole p f size h ∙ is,
        λ h. ap (next_buffer s) (h ∙ sym is) ∙ reverse_gives s calm whole f k.1.0.size,
      )

  -- what the code leaves: f carried back
  pub reverse_done : (left : List ℕ) → left ≡ carried true s f → ◌≡◌ {A = Written} (record { number = 0; buffer = left }) (reversed_of s f post)
  reverse_done left e =
      let k = known (reverse s (length f) (length post)) z in
      answered _ refl z (ap (λ (b : List ℕ). record { number = 0; buffer = b }) (e ∙ reverse_is s k.1.1.1.1.0 f))

-- ---- what the two functions need: of a refusal, and of a call that is not refused

pub asked : (s : Settings) → 0 ≡ refusal (lossless s) → (0 < s.nx) × (0 < s.ny)
asked s e = let g = (known (lossless s) (sym e)).0 in (g.x_some, g.y_some)

pub ruleset answering = (some_number, asked)

pub ruleset reversing = (some_number, sides_ok, length_ok, reverse_done)
