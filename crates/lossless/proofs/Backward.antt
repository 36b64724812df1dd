-- The reverse: where the faces are lossless, streaming with faces gives f back from it, and from no other buffer; and it is what the code leaves.
use mathlib.Core.Path.{◌≡◌, sym, ap, ◌∙◌}
use mathlib.Core.Bool.{true, false}
use mathlib.Core.List.{List}
use Prim.Native.Nat.{ℕ, ◌*◌}
use lib.ListN.{length, get_or}
use Rattle.grid.specs.Grid.{Field, field_of, Same}
use Rattle.grid.proofs.Fields.{field_of_buffer, is_buffer, same_buffer}
use Rattle.settings.specs.declared.Settings.{Settings}
use Rattle.settings.specs.Tests.{driven, lossy}
use Rattle.streaming.specs.Streaming.{next, next_buffer}
use Rattle.streaming.specs.Turned.{turned, carried}
use Rattle.streaming.specs.Source.{Entry, entry, On, index_of, held, source, target}
use Rattle.streaming.proofs.Source.{copied, source_on, target_on, turned_around}
use Rattle.lossless.specs.Lossless.{reversed, reverse_buffer}
use Rattle.lossless.proofs.Criterion.{there, again}

-- what holds at each entry of the grid holds of the fields
pub by_entry : (nx ny : ℕ) (p q : Field) → ((e : Entry) → On nx ny e → held p e ≡ held q e) → Same nx ny p q
by_entry nx ny p q h = record { here = λ x y i hx hy hi. h (entry x y i) (record { x_in = hx; y_in = hy; i_in = hi }) }

pub at_entry : {nx ny : ℕ} {p q : Field} → Same nx ny p q → (e : Entry) → On nx ny e → held p e ≡ held q e
at_entry s e on = s.here e.x e.y e.i on.x_in on.y_in on.i_in

module _ (s : Settings) (calm : driven s ≡ false) where
  abbrev field : List ℕ → Field
  field b = field_of s.nx s.ny b

  -- an entry of the next buffer is that of the post-collision buffer at its source
  pub next_at : (post : List ℕ) (e : Entry) → On s.nx s.ny e
      → get_or (next_buffer s post) (index_of s.nx s.ny e) 0 ≡ get_or post (index_of s.nx s.ny (source s e)) 0
  unfolding next_buffer field_of
  next_at post e on = at_entry (field_of_buffer s.nx s.ny (next s (field post))) e on ∙ copied s calm (field post) e

  module _ (l : lossy s ≡ false) where
    -- STREAMING WITH FACES GIVES f FROM ITS REVERSE
    pub reverse_gives : (f : List ℕ) → length f ≡ 9 * (s.nx * s.ny) → next_buffer s (reverse_buffer s f) ≡ f
    unfolding next_buffer reverse_buffer reversed
    reverse_gives f size =
        sym (is_buffer s.nx s.ny f (next s (field (reverse_buffer s f))) size
        (by_entry s.nx s.ny (field f) _
        (λ e on.
        sym
        (copied s calm (field (reverse_buffer s f)) e
        ∙ at_entry (field_of_buffer s.nx s.ny (reversed s (field f))) (source s e) (source_on s e on)
        ∙ ap (held (field f)) (again s l e on)))))

    -- AND FROM NO OTHER
    pub reverse_only : (post f : List ℕ) → length post ≡ 9 * (s.nx * s.ny) → next_buffer s post ≡ f → post ≡ reverse_buffer s f
    unfolding reverse_buffer reversed field_of
    reverse_only post f size is =
        is_buffer s.nx s.ny post (reversed s (field f)) size
        (by_entry s.nx s.ny (field post) (reversed s (field f))
        (λ e on.
        ap (held (field post)) (sym (there s l e on))
        ∙ sym (next_at post (target s e) (target_on s e on))
        ∙ ap (λ (b : List ℕ). get_or b (index_of s.nx s.ny (target s e)) 0) is))

  -- ---- what the code carries: f with opposite directions swapped, carried on, and swapped back, is the reverse

  reverse_turned : (f : List ℕ) → Same s.nx s.ny (turned true (next s (turned true (field f)))) (reversed s (field f))
  unfolding reversed
  reverse_turned f = by_entry s.nx s.ny _ _ (λ e on. turned_around s e on calm (field f))

  pub reverse_is : (f : List ℕ) → carried true s f ≡ reverse_buffer s f
  unfolding reverse_buffer carried
  reverse_is f = same_buffer s.nx s.ny _ _ (reverse_turned f)
