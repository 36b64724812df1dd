-- Which faces an entry meets when it is turned around, turned back by a face or carried on: what it meets depends on its steps alone.
use mathlib.Core.Path.{◌≡◌, sym, ap, ◌∙◌}
use mathlib.Core.Bool.{Bool, true, false, cond}
use Prim.Native.Nat.{ℕ, ◌<◌}
use Rattle.lattice.specs.declared.Axis.{Axis}
use Rattle.lattice.specs.declared.Axis.TheVariants.{X, Y}
use Rattle.lattice.specs.declared.Side.TheVariants.{Min, Max}
use Rattle.lattice.specs.Lattice.{OPP}
use Rattle.lattice.specs.Lookup.{mirror}
use Rattle.lattice.proofs.Tables.{opposite_twice, opposite_small, mirror_small, mirror_twice}
use Rattle.settings.specs.declared.Face.{Face}
use Rattle.settings.specs.declared.Settings.{Settings}
use Rattle.settings.specs.Tests.{face_of, is_symmetry}
use Rattle.streaming.specs.Travel.{Step, stay, up, down, part, against, moved}
use Rattle.streaming.specs.Faces.{size_of, coord_of}
use Rattle.streaming.specs.Source.{Entry, entry, On, opposite, enters, leaves, reflect, came, goes}
use Rattle.streaming.proofs.Dirs.{against_twice, opposite_part, mirror_part, mirror_other, incoming_by_step}
use Rattle.streaming.proofs.Ring.{there_and_back}
use Rattle.lossless.proofs.Ends.{through}

-- ---- what a face turns a direction to

module _ (a : Axis) (i : ℕ) (h : i < 9) where
  chosen_part : (t : Bool) → part a (cond t (mirror a i) (OPP i)) ≡ against (part a i)
  chosen_part true = mirror_part a i h
  chosen_part false = opposite_part a i h

  chosen_twice : (t : Bool) → cond t (mirror a (cond t (mirror a i) (OPP i))) (OPP (cond t (mirror a i) (OPP i))) ≡ i
  chosen_twice true = mirror_twice a i h
  chosen_twice false = opposite_twice i h

  chosen_small : (t : Bool) → cond t (mirror a i) (OPP i) < 9
  chosen_small true = mirror_small a i h
  chosen_small false = opposite_small i h

-- the entry that a face turns e back to
abbrev pub bounced : Axis → Face → Entry → Entry
bounced a k e = entry e.x e.y (reflect a k e.i)

back_and_there : (c : Step) (n k : ℕ) → k < n → moved c n (moved (against c) n k) ≡ k
back_and_there stay n k h = there_and_back stay n k h
back_and_there up n k h = there_and_back down n k h
back_and_there down n k h = there_and_back up n k h

-- ---- the faces that an entry meets

module _ (s : Settings) where
  -- the face that a step c into the place that an entry has along an axis comes in through
  abbrev pub met : Axis → Entry → Step → Face
  met a e c = through (face_of s a) (size_of a s.nx s.ny) (coord_of a e.x e.y) c

  pub enters_by : (a : Axis) (e : Entry) → enters s a e ≡ met a e (part a e.i)
  unfolding enters
  enters_by a e = rw (incoming_by_step a Min e.i, incoming_by_step a Max e.i)

  module _ (e : Entry) (on : On s.nx s.ny e) where
    pub leaves_by : (a : Axis) → leaves s a e ≡ met a e (against (part a e.i))
    leaves_by a = enters_by a (opposite e) ∙ ap (met a e) (opposite_part a e.i on.i_in)

    -- what a face turned back comes in where it went out, and the other way round
    pub in_again : (a : Axis) (k : Face) → enters s a (bounced a k e) ≡ leaves s a e
    in_again a k = enters_by a (bounced a k e) ∙ ap (met a e) (chosen_part a e.i on.i_in (is_symmetry k)) ∙ sym (leaves_by a)

    pub out_again : (a : Axis) (k : Face) → leaves s a (bounced a k e) ≡ enters s a e
    out_again a k =
        let i = e.i in
        let t = is_symmetry k in
        let back : part a (OPP (reflect a k i)) ≡ part a i =
        opposite_part a (reflect a k i) (chosen_small a i on.i_in t) ∙ ap against (chosen_part a i on.i_in t) ∙ against_twice (part a i) in
        enters_by a (opposite (bounced a k e)) ∙ ap (met a e) back ∙ sym (enters_by a e)

    pub bounced_twice : (a : Axis) (k : Face) → bounced a k (bounced a k e) ≡ e
    bounced_twice a k = ap (entry e.x e.y) (chosen_twice a e.i on.i_in (is_symmetry k))

    -- along y, a mirror across x changes nothing, and what is no mirror turns around
    pub y_mirrored : (k : Face) → is_symmetry k ≡ true → enters s Y (bounced X k e) ≡ enters s Y e
    y_mirrored k h =
        let m = entry e.x e.y (mirror X e.i) in
        rw h (enters_by Y m ∙ ap (met Y e) (mirror_other e.i on.i_in) ∙ sym (enters_by Y e))

    pub y_turned : (k : Face) → is_symmetry k ≡ false → enters s Y (bounced X k e) ≡ leaves s Y e
    y_turned k h = rw h

    -- carried on and back
    pub arrives_by : (a : Axis) → let n = size_of a s.nx s.ny in
        enters s a (goes s e) ≡ through (face_of s a) n (moved (part a e.i) n (coord_of a e.x e.y)) (part a e.i)
    unfolding goes
    arrives_by X = enters_by X (goes s e)
    arrives_by Y = enters_by Y (goes s e)

    pub came_goes : came s (goes s e) ≡ e
    unfolding came goes
    came_goes = rw (there_and_back (part X e.i) s.nx e.x on.x_in, there_and_back (part Y e.i) s.ny e.y on.y_in)

    pub goes_came : goes s (came s e) ≡ e
    unfolding came goes
    goes_came = rw (back_and_there (part X e.i) s.nx e.x on.x_in, back_and_there (part Y e.i) s.ny e.y on.y_in)
