-- Where the bits that `carry` answers are clear, every entry that it leaves is finite: an entry came in through a face and was looked
-- at, or is what streaming left.
use mathlib.Core.Path.{◌≡◌, refl, sym, ap, ◌∙◌}
use mathlib.Core.Bool.{Bool, true, false, ◌&&◌, false≢true}
use mathlib.Core.List.{List}
use mathlib.Core.Logic.{◌⊎◌, inl, inr, ⊎_elim}
use Prim.Native.Nat.{ℕ, ◌+◌, ◌*◌, ◌/◌, ◌%◌, ◌<◌}
use native.Mathlib.Omega.{arith}
use lib.Bits.{bit_or}
use lib.ListN.{length, get_or, get_or-eq_default}
use Rattle.number.specs.Joined.{finite_of, clear_of}
use Rattle.number.proofs.Joined.{or_clear, joined_finite}
use Rattle.lattice.specs.declared.Axis.{Axis}
use Rattle.lattice.specs.declared.Axis.TheVariants.{X, Y}
use Rattle.lattice.specs.declared.Side.{Side}
use Rattle.lattice.specs.declared.Side.TheVariants.{Min, Max}
use Rattle.lattice.specs.Sides.{incoming}
use Rattle.grid.specs.Grid.{Field, field_of}
use Rattle.grid.specs.Finite.{AllFinite, joined_buffer}
use Rattle.grid.proofs.Radix.{lt_or_ge, place_of_lem}
use Rattle.grid.proofs.Fields.{field_of_buffer}
use Rattle.grid.proofs.Finite.{all_finite}
use Rattle.settings.specs.declared.Settings.{Settings}
use Rattle.settings.specs.Tests.{face_of, is_periodic}
use Rattle.streaming.specs.Travel.{streamed}
use Rattle.streaming.specs.Turned.{facing, turned, seen, carried}
use Rattle.streaming.specs.Faces.{Names, size_of, coord_of, on_face, names, face}
use Rattle.streaming.specs.Streaming.{next}
use Rattle.streaming.specs.Lines.{line_of}
use Rattle.streaming.specs.Carried.{line_join, plane_along, face_join, faces_join, streamed_buffer, carried_join}
use Rattle.streaming.proofs.Turned.{facing_small, facing_twice}
use Rattle.streaming.proofs.Directions.{comes_in, One, is-n, is-np, is-nm, one_of}
use Rattle.streaming.proofs.Faces.{across, on_line, passed_by}
use Rattle.streaming.proofs.Carried.{carried_length, carried_field}

-- ---- bits that are clear together are clear

and_both : (s t : Bool) → (s && t) ≡ true → (s ≡ true) × (t ≡ true)
and_both true t h = (refl, h)
and_both false t h = absurd (false≢true h)

both_clear : (a b : ℕ) → clear_of (bit_or a b) ≡ true → (clear_of a ≡ true) × (clear_of b ≡ true)
both_clear a b h = and_both (clear_of a) (clear_of b) (sym (or_clear a b) ∙ h)

by_name : {P : Type 0} {i : ℕ} {d : Names} → One i d → (i ≡ d.n → P) → (i ≡ d.np → P) → (i ≡ d.nm → P) → P
by_name (is-n e) f g h = f e
by_name (is-np e) f g h = g e
by_name (is-nm e) f g h = h e

-- ---- one entry and one face

module _ (back : Bool) (s : Settings) (b : List ℕ) (x y i : ℕ) (hx : x < s.nx) (hy : y < s.ny) (hi : i < 9) (a : Axis) (d : Side) where
  abbrev Told : Type 0
  Told = finite_of (seen back s.nx s.ny b x y i) ≡ true

  -- the face leaves it as it was
  abbrev Left : Type 0
  Left = (p q : Field) → face a d (face_of s a d) s.nx s.ny p q x y i ≡ q x y i

  -- it came in, and was looked at
  came_in : is_periodic (face_of s a d) ≡ false → clear_of (face_join back s a d b) ≡ true → incoming a d i ≡ true → on_face d (size_of a s.nx s.ny) (coord_of a x y) ≡ true → Told
  unfolding face_join field_of
  came_in shut clear into on =
      let n = s.nx * s.ny in
      let l = line_of a d s.nx s.ny in
      let o = names a d in
      let at = on_line a d s.nx s.ny x y hx hy on in
      let join : ℕ → ℕ = λ j. line_join b n l (facing back j) in
      let three = both_clear (bit_or (join o.n) (join o.np)) (join o.nm) (rw shut at clear) in
      let two = both_clear (join o.n) (join o.np) three.0 in
      let told : (j : ℕ) → clear_of (join j) ≡ true → i ≡ j → Told =
      λ j h e. rw (e, at.cell) (joined_finite (plane_along b n l (facing back j)) l.count h (across a x y) at.below) in
      by_name (one_of i o (comes_in a d i hi ∙ into)) (told o.n two.0) (told o.np two.1) (told o.nm three.1)

  meets : clear_of (face_join back s a d b) ≡ true → Told ⊎ Left
  unfolding face
  meets clear = go (is_periodic (face_of s a d)) (incoming a d i) (on_face d (size_of a s.nx s.ny) (coord_of a x y)) refl refl refl
    where
      go : (t u v : Bool) → is_periodic (face_of s a d) ≡ t → incoming a d i ≡ u → on_face d (size_of a s.nx s.ny) (coord_of a x y) ≡ v → Told ⊎ Left
      go true u v et eu ev = inr (λ p q. passed_by a d (face_of s a d) s.nx s.ny p q x y i et)
      go false true true et eu ev = inl (came_in et clear eu ev)
      go false true false et eu ev = inr (λ p q. rw (eu, ev))
      go false false v et eu ev = inr (λ p q. rw eu)

-- ---- the whole buffer

module _ (back : Bool) (s : Settings) (post : List ℕ) (clear : clear_of (carried_join back s post) ≡ true) where
  told : (x y i : ℕ) → x < s.nx → y < s.ny → i < 9 → finite_of (seen back s.nx s.ny (carried back s post) x y i) ≡ true
  unfolding carried_join faces_join streamed_buffer next field_of
  told x y i hx hy hi =
      let nx = s.nx in
      let ny = s.ny in
      let b = carried back s post in
      let p = seen back nx ny post in
      let f = streamed nx ny p in
      let joined = streamed_buffer back s post in
      let all = both_clear (joined_buffer joined) (faces_join back s b) clear in
      let three = both_clear (bit_or (bit_or (face_join back s X Min b) (face_join back s X Max b)) (face_join back s Y Min b)) (face_join back s Y Max b) all.1 in
      let two = both_clear (bit_or (face_join back s X Min b) (face_join back s X Max b)) (face_join back s Y Min b) three.0 in
      let one = both_clear (face_join back s X Min b) (face_join back s X Max b) two.0 in
      let streamed-entry : get_or joined (x + y * nx + facing back i * (nx * ny)) 0 ≡ f x y i =
      (field_of_buffer nx ny (turned back f)).here x y (facing back i) hx hy (facing_small back i hi) ∙ ap (f x y) (facing_twice back i hi) in
      ⊎_elim (λ t. t)
      (λ y2. ⊎_elim (λ t. t)
      (λ y1. ⊎_elim (λ t. t)
      (λ x2. ⊎_elim (λ t. t)
      (λ x1. ap finite_of ((carried_field back s post).here x y i hx hy hi ∙ y2 p _ ∙ y1 p _ ∙ x2 p _ ∙ x1 p f ∙ sym streamed-entry) ∙ (all_finite joined all.0).entry _)
      (meets back s b x y i hx hy hi X Min one.0))
      (meets back s b x y i hx hy hi X Max one.1))
      (meets back s b x y i hx hy hi Y Min two.1))
      (meets back s b x y i hx hy hi Y Max three.1)

  -- WHERE THE BITS ARE CLEAR, EVERY ENTRY IS FINITE
  pub carried_finite : AllFinite (carried back s post)
  unfolding field_of
  carried_finite =
      let nx = s.nx in
      let ny = s.ny in
      let b = carried back s post in
      record {
        entry =
            λ k.
            ⊎_elim
            (λ inside.
            let q = place_of_lem nx ny k (omega (arith, carried_length back s post)) in
            let j = k / (nx * ny) in
            rw (facing_twice back j q.direction, q.back) at (told (k % (nx * ny) % nx) (k % (nx * ny) / nx) (facing back j) q.column q.row (facing_small back j q.direction)))
            (λ past. ap finite_of (get_or-eq_default b 0 past))
            (lt_or_ge k (length b));
      }
