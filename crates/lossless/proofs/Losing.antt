-- What makes an entry clear, so that it is kept, and what makes it gone, so that it is the source of none.
use mathlib.Core.Path.{◌≡◌, refl, sym, ap, ◌∙◌}
use mathlib.Core.Bool.{Bool, true, false, true≢false, false≢true}
use Prim.Native.Nat.{◌+◌, ◌≤◌, ◌<◌}
use native.Mathlib.Omega.{arith}
use borrow.Author.Tests.{eq-eqb, ne_eqb}
use Rattle.lattice.specs.declared.Axis.{Axis}
use Rattle.lattice.specs.declared.Axis.TheVariants.{X, Y}
use Rattle.settings.specs.declared.Settings.{Settings}
use Rattle.settings.specs.Tests.{face_of, is_periodic, is_symmetry}
use Rattle.streaming.specs.Travel.{stay, up, part, against}
use Rattle.streaming.specs.Faces.{on_face, size_of, coord_of}
use Rattle.streaming.specs.Source.{Entry, On, enters, leaves, goes, source}
use Rattle.lossless.proofs.Ends.{ahead, strayed, passes, goes_astray, turned_back_lem}
use Rattle.lossless.proofs.Turns.{bounced, met, enters_by, leaves_by, out_again, y_mirrored, arrives_by, goes_came}
use Rattle.lossless.proofs.Inverse.{by_y, by_x, by_none, Clear}

-- ---- WHAT MAKES AN ENTRY GONE

-- it goes out through no y face; through no x face, or through a Symmetry face, which turns it to an entry that a y face settles; and
-- a face settles the neighbour that it would come to
pub record Gone (s : Settings) (e : Entry) : Type 0 where
  pub y_out : is_periodic (leaves s Y e) ≡ true
  pub x_out : is_periodic (leaves s X e) ≡ false → (is_symmetry (leaves s X e) ≡ true) × (is_periodic (enters s Y e) ≡ false)
  pub taken : is_periodic (enters s X (goes s e)) ≡ true → is_periodic (enters s Y (goes s e)) ≡ true → ⊥

module _ (s : Settings) (e : Entry) (g : Gone s e) (q : Entry) (on : On s.nx s.ny q) where
  -- what a face turned q back to goes out there
  leaves_as : (a : Axis) → bounced a (enters s a q) q ≡ e → leaves s a e ≡ enters s a q
  leaves_as a is = ap (leaves s a) (sym is) ∙ out_again s q on a (enters s a q)

  not_y : is_periodic (enters s Y q) ≡ false → bounced Y (enters s Y q) q ≡ e → ⊥
  not_y p is = true≢false (sym g.y_out ∙ ap is_periodic (leaves_as Y is) ∙ p)

  not_x : is_periodic (enters s Y q) ≡ true → is_periodic (enters s X q) ≡ false → bounced X (enters s X q) q ≡ e → ⊥
  not_x p r is =
      let k = enters s X q in
      let out = g.x_out (ap is_periodic (leaves_as X is) ∙ r) in
      let mirrors : is_symmetry k ≡ true = sym (ap is_symmetry (leaves_as X is)) ∙ out.0 in
      false≢true (sym out.1 ∙ ap is_periodic (ap (enters s Y) (sym is) ∙ y_mirrored s q on k mirrors) ∙ p)

  -- no entry comes from it
  pub never : source s q ≡ e → ⊥
  never is = go (is_periodic (enters s Y q)) (is_periodic (enters s X q)) refl refl
    where
      go : (py px : Bool) → is_periodic (enters s Y q) ≡ py → is_periodic (enters s X q) ≡ px → ⊥
      go false px p r = not_y p (sym (by_y s q p) ∙ is)
      go true false p r = not_x p r (sym (by_x s q p r) ∙ is)
      go true true p r =
          let back : goes s e ≡ q = ap (goes s) (sym is ∙ by_none s q p r) ∙ goes_came s q on in
          g.taken (ap (λ (o : Entry). is_periodic (enters s X o)) back ∙ r) (ap (λ (o : Entry). is_periodic (enters s Y o)) back ∙ p)

-- ---- by the steps of an entry

module _ (s : Settings) (e : Entry) (on : On s.nx s.ny e) where
  coord_in : (a : Axis) → coord_of a e.x e.y < size_of a s.nx s.ny
  coord_in X = on.x_in
  coord_in Y = on.y_in

  -- a step that does not stray
  carried : (a : Axis) → strayed (face_of s a) (part a e.i) ≡ false → is_periodic (leaves s a e) ≡ true → is_periodic (enters s a (goes s e)) ≡ true
  carried a h p =
      ap is_periodic (arrives_by s e on a)
      ∙ passes (face_of s a) _ _ (coord_in a) (part a e.i) h (sym (ap is_periodic (leaves_by s e on a)) ∙ p)

  pub clear : ((a : Axis) → strayed (face_of s a) (part a e.i) ≡ false)
      → (is_periodic (leaves s Y e) ≡ true → is_symmetry (leaves s X e) ≡ true → is_periodic (enters s Y e) ≡ true) → Clear s e
  clear h corner = record { x_clear = carried X (h X); y_clear = carried Y (h Y); corner = corner }

  -- a step at rest meets no face
  pub rests : (a : Axis) → part a e.i ≡ stay → is_periodic (leaves s a e) ≡ true
  rests a h = ap is_periodic (leaves_by s e on a ∙ ap (λ c. met s a e (against c)) h)

  -- a step that strays, at the end ahead of it
  astray : (a : Axis) → strayed (face_of s a) (part a e.i) ≡ true
      → on_face (ahead (part a e.i)) (size_of a s.nx s.ny) (coord_of a e.x e.y) ≡ true
      → (is_periodic (leaves s a e) ≡ true) × (is_periodic (enters s a (goes s e)) ≡ false)
  astray a h t =
      let r = goes_astray (face_of s a) _ _ (coord_in a) (part a e.i) h t in
      (ap is_periodic (leaves_by s e on a) ∙ r.0, ap is_periodic (arrives_by s e on a) ∙ r.1)

  straight : is_periodic (leaves s X e) ≡ true → is_periodic (leaves s Y e) ≡ true
      → (is_periodic (enters s X (goes s e)) ≡ true → is_periodic (enters s Y (goes s e)) ≡ true → ⊥) → Gone s e
  straight px py t = record { y_out = py; x_out = λ q. absurd (true≢false (sym px ∙ q)); taken = t }

  pub gone_x : part Y e.i ≡ stay → strayed (face_of s X) (part X e.i) ≡ true → on_face (ahead (part X e.i)) s.nx e.x ≡ true → Gone s e
  gone_x z h t = let r = astray X h t in straight r.0 (rests Y z) (λ p _. true≢false (sym p ∙ r.1))

  pub gone_y : part X e.i ≡ stay → strayed (face_of s Y) (part Y e.i) ≡ true → on_face (ahead (part Y e.i)) s.ny e.y ≡ true → Gone s e
  gone_y z h t = let r = astray Y h t in straight (rests X z) r.0 (λ _ p. true≢false (sym p ∙ r.1))

  -- a Symmetry face across x turns an entry of the lowest row to one that a y face settles
  pub gone_corner : part Y e.i ≡ up → e.y ≡ 0 → 2 ≤ s.ny → is_periodic s.y_min ≡ false
      → strayed (face_of s X) (against (part X e.i)) ≡ false → is_symmetry (leaves s X e) ≡ true → Gone s e
  gone_corner z y0 two wall h m =
      let r = turned_back_lem (face_of s X) s.nx e.x on.x_in (part X e.i) h (sym (ap is_symmetry (leaves_by s e on X)) ∙ m) in
      record {
        y_out = ap is_periodic (leaves_by s e on Y) ∙ rw (z, ne_eqb (e.y + 1) s.ny (λ q. omega arith));
        x_out = λ _. (m, ap is_periodic (enters_by s Y e) ∙ rw (z, eq-eqb e.y 0 y0) wall);
        taken = λ p _. true≢false (sym p ∙ ap is_periodic (arrives_by s e on X) ∙ r);
      }
