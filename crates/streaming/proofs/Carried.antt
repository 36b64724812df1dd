-- Streaming and the four faces together: fields that the code reached one after the other are the rule's, and a buffer is told by its field.
use mathlib.Core.Path.{◌≡◌, refl, sym, ap, ap₂, ◌∙◌}
use mathlib.Core.Bool.{Bool, false}
use mathlib.Core.List.{List}
use Prim.Native.Nat.{ℕ, ◌*◌}
use lib.Bits.{bit_or}
use lib.ListN.{length}
use Rattle.lattice.specs.declared.Axis.TheVariants.{X, Y}
use Rattle.lattice.specs.declared.Side.TheVariants.{Min, Max}
use Rattle.grid.specs.Grid.{Field, field_of, buffer_of, Same}
use Rattle.grid.specs.Finite.{joined_buffer}
use Rattle.grid.proofs.Fields.{same_refl, same_trans, buffer_length, field_of_buffer, is_buffer}
use Rattle.settings.specs.declared.Settings.{Settings}
use Rattle.settings.proofs.Laws.{sides_ok, length_ok}
use Rattle.settings.proofs.Numbers.{some_number}
use Rattle.streaming.specs.Travel.{streamed}
use Rattle.streaming.specs.Rows.{Became, Streamed}
use Rattle.streaming.specs.Faces.{face}
use Rattle.streaming.specs.Carried.{faces_join, streamed_buffer, carried_join}
use Rattle.streaming.specs.Streaming.{bounded, next, next_buffer}
use Rattle.streaming.specs.Turned.{facing, turned, seen, carried}
use Rattle.streaming.proofs.Turned.{facing_small, facing_twice}
use Rattle.streaming.proofs.Faces.{face_same}

-- ---- the four faces

module _ (back : Bool) (s : Settings) (post : Field) where
  abbrev pub Then : List ℕ → List ℕ → (Field → Field) → Type 0
  Then d e g = Became back s.nx s.ny d e (g (seen back s.nx s.ny d))

  -- each face from the buffer before it
  pub four_faces : (f0 f1 f2 f3 f4 : List ℕ)
      → Then f0 f1 (face X Min s.x_min s.nx s.ny post)
      → Then f1 f2 (face X Max s.x_max s.nx s.ny post)
      → Then f2 f3 (face Y Min s.y_min s.nx s.ny post)
      → Then f3 f4 (face Y Max s.y_max s.nx s.ny post)
      → Then f0 f4 (bounded s post)
  four_faces f0 f1 f2 f3 f4 b1 b2 b3 b4 =
      let t2 = same_trans b2.field (face_same X Max s.x_max same_refl b1.field) in
      let t3 = same_trans b3.field (face_same Y Min s.y_min same_refl t2) in
      record {
        size = b4.size ∙ b3.size ∙ b2.size ∙ b1.size;
        field = same_trans b4.field (face_same Y Max s.y_max same_refl t3);
      }

  -- the faces after streaming
  pub then_faces : (f0 f1 f2 : List ℕ) → Became back s.nx s.ny f0 f1 (streamed s.nx s.ny post) → Then f1 f2 (bounded s post) → Became back s.nx s.ny f0 f2 (next s post)
  unfolding next
  then_faces f0 f1 f2 b1 b2 =
      let t1 = face_same X Min s.x_min same_refl b1.field in
      let t2 = face_same X Max s.x_max same_refl t1 in
      let t3 = face_same Y Min s.y_min same_refl t2 in
      record { size = b2.size ∙ b1.size; field = same_trans b2.field (face_same Y Max s.y_max same_refl t3) }

-- ---- the buffer

module _ (back : Bool) (s : Settings) (b : List ℕ) where
  pub carried_length : length (carried back s b) ≡ 9 * (s.nx * s.ny)
  unfolding carried
  carried_length = buffer_length s.nx s.ny _

  -- the field of the buffer that is carried to
  pub carried_field : Same s.nx s.ny (seen back s.nx s.ny (carried back s b)) (next s (seen back s.nx s.ny b))
  unfolding carried
  carried_field =
      let p = next s (seen back s.nx s.ny b) in
      record {
        here = λ x y i hx hy hi.
            (field_of_buffer s.nx s.ny (turned back p)).here x y (facing back i) hx hy (facing_small back i hi)
            ∙ ap (p x y) (facing_twice back i hi);
      }

  -- a buffer with a field seen so is that field's buffer, put back
  as_buffer : (p : Field) (d e : List ℕ) → length d ≡ 9 * (s.nx * s.ny) → Became back s.nx s.ny d e p → e ≡ buffer_of s.nx s.ny (turned back p)
  as_buffer p d e size w =
      is_buffer s.nx s.ny e _ (w.size ∙ size)
      (record {
        here = λ x y i hx hy hi.
            sym (ap (field_of s.nx s.ny e x y) (facing_twice back i hi)) ∙ w.field.here x y (facing back i) hx hy (facing_small back i hi);
      })

  pub is_carried : (d e : List ℕ) → length d ≡ 9 * (s.nx * s.ny) → Became back s.nx s.ny d e (next s (seen back s.nx s.ny b)) → e ≡ carried back s b
  unfolding carried
  is_carried = as_buffer (next s (seen back s.nx s.ny b))

  -- the joined bits, from what was streamed and what the faces let in
  pub carried_joined : (d e g : List ℕ) {r q : ℕ} → length d ≡ 9 * (s.nx * s.ny) → Streamed back s.nx s.ny b d e → r ≡ joined_buffer e → g ≡ carried back s b → q ≡ faces_join back s g
      → bit_or r q ≡ carried_join back s b
  unfolding carried_join streamed_buffer
  carried_joined d e g size w rs is qs =
      ap₂ bit_or (rs ∙ ap joined_buffer (as_buffer (streamed s.nx s.ny (seen back s.nx s.ny b)) d e size w)) (qs ∙ ap (faces_join back s) is)

-- forward it is the next population buffer
pub carried_forward : (s : Settings) (post : List ℕ) → carried false s post ≡ next_buffer s post
unfolding carried next_buffer
carried_forward s post = refl

-- what `carry` needs of its three calls
pub ruleset carrying = (then_faces, is_carried, carried_joined)

-- what the operation needs: of a refusal, of a call that is not refused, and of the carrying
pub ruleset outcome = (some_number, sides_ok, length_ok, carried_forward)
