-- `target` turns back `source` and `source` turns back `target`, where what an entry meets is clear.
use mathlib.Core.Path.{◌≡◌, refl, sym, ap, ◌∙◌}
use mathlib.Core.Bool.{Bool, true, false, cond}
use Rattle.lattice.specs.declared.Axis.{Axis}
use Rattle.lattice.specs.declared.Axis.TheVariants.{X, Y}
use Rattle.settings.specs.declared.Face.{Face}
use Rattle.settings.specs.declared.Settings.{Settings}
use Rattle.settings.specs.Tests.{is_periodic, is_symmetry}
use Rattle.streaming.specs.Source.{Entry, On, opposite, enters, leaves, came, goes, source, target}
use Rattle.streaming.proofs.Source.{opposite_on, opposite_opposite, source_on, conjugate}
use Rattle.lossless.proofs.Turns.{bounced, in_again, bounced_twice, y_mirrored, y_turned, came_goes}

-- ---- the source by the faces that an entry comes in through

module _ (s : Settings) (e : Entry) where
  pub by_y : is_periodic (enters s Y e) ≡ false → source s e ≡ bounced Y (enters s Y e) e
  unfolding source
  by_y p = rw p

  pub by_x : is_periodic (enters s Y e) ≡ true → is_periodic (enters s X e) ≡ false → source s e ≡ bounced X (enters s X e) e
  unfolding source
  by_x p q = rw (p, q)

  pub by_none : is_periodic (enters s Y e) ≡ true → is_periodic (enters s X e) ≡ true → source s e ≡ came s e
  unfolding source
  by_none p q = rw (p, q)

-- ---- what an entry needs, so that its target is copied from it

pub record Clear (s : Settings) (e : Entry) : Type 0 where
  pub x_clear : is_periodic (leaves s X e) ≡ true → is_periodic (enters s X (goes s e)) ≡ true
  pub y_clear : is_periodic (leaves s Y e) ≡ true → is_periodic (enters s Y (goes s e)) ≡ true
  pub corner : is_periodic (leaves s Y e) ≡ true → is_symmetry (leaves s X e) ≡ true → is_periodic (enters s Y e) ≡ true

module _ (s : Settings) (e : Entry) (on : On s.nx s.ny e) where
  -- turned back by the face that it goes out through, it comes from itself
  home : (a : Axis) → let b = bounced a (leaves s a e) e in source s b ≡ bounced a (enters s a b) b → source s b ≡ e
  home a p =
      let k = leaves s a e in
      p ∙ ap (λ (j : Face). bounced a j (bounced a k e)) (in_again s e on a k) ∙ bounced_twice s e on a k

  shut : (a : Axis) → is_periodic (leaves s a e) ≡ false → is_periodic (enters s a (bounced a (leaves s a e) e)) ≡ false
  shut a p = ap is_periodic (in_again s e on a (leaves s a e)) ∙ p

  module _ (c : Clear s e) where
    -- turned back across x, it meets no y face
    y-free : is_periodic (leaves s Y e) ≡ true → (t : Bool) → is_symmetry (leaves s X e) ≡ t → is_periodic (enters s Y (bounced X (leaves s X e) e)) ≡ true
    y-free p true q = ap is_periodic (y_mirrored s e on (leaves s X e) q) ∙ c.corner p q
    y-free p false q = ap is_periodic (y_turned s e on (leaves s X e) q) ∙ p

    pub source_target : source s (target s e) ≡ e
    unfolding target
    source_target = go (is_periodic (leaves s Y e)) (is_periodic (leaves s X e)) refl refl
      where
        go : (py px : Bool) → is_periodic (leaves s Y e) ≡ py → is_periodic (leaves s X e) ≡ px
            → source s (cond py (cond px (goes s e) (bounced X (leaves s X e) e)) (bounced Y (leaves s Y e) e)) ≡ e
        go false px p q = home Y (by_y s _ (shut Y p))
        go true false p q = home X (by_x s _ (y-free p (is_symmetry (leaves s X e)) refl) (shut X q))
        go true true p q = by_none s (goes s e) (c.y_clear p) (c.x_clear q) ∙ came_goes s e on

-- where every entry is its target's source, every entry is its source's target
pub target_source : (s : Settings) → ((e : Entry) → On s.nx s.ny e → source s (target s e) ≡ e)
    → (e : Entry) → On s.nx s.ny e → target s (source s e) ≡ e
target_source s there e on =
    let on- = opposite_on s.nx s.ny e on in
    let same = opposite_opposite s.nx s.ny e on in
    let t : target s (opposite e) ≡ opposite (source s e) = conjugate s (opposite e) on- ∙ ap (λ (q : Entry). opposite (source s q)) same in
    conjugate s (source s e) (source_on s e on) ∙ ap opposite (ap (source s) (sym t) ∙ there (opposite e) on-) ∙ same
