-- Over Periodic, NoSlip and Symmetry every final entry is a copy of the entry at its source; `target` is `source` with opposite directions swapped.
use mathlib.Core.Path.{◌≡◌, refl, sym, ap, ◌∙◌}
use mathlib.Core.Bool.{Bool, true, false, cond, ◌&&◌, true≢false}
use Prim.Native.Nat.{ℕ, ◌<◌}
use native.Mathlib.Omega.{arith}
use Rattle.lattice.specs.declared.Axis.{Axis}
use Rattle.lattice.specs.declared.Axis.TheVariants.{X, Y}
use Rattle.lattice.specs.declared.Side.{Side}
use Rattle.lattice.specs.declared.Side.TheVariants.{Min, Max}
use Rattle.lattice.specs.Lattice.{OPP}
use Rattle.lattice.specs.Lookup.{mirror}
use Rattle.lattice.proofs.Tables.{opposite_twice, opposite_small, mirror_small}
use Rattle.grid.specs.Grid.{Field}
use Rattle.settings.specs.declared.Face.{Face}
use Rattle.settings.specs.declared.Face.TheVariants.{Periodic, NoSlip, MovingWall, Symmetry, Velocity, Pressure}
use Rattle.settings.specs.declared.Settings.{Settings}
use Rattle.settings.specs.Tests.{face_of, drives, driven, is_periodic, is_symmetry}
use Rattle.streaming.proofs.Sides.{undriven}
use Rattle.streaming.specs.Travel.{Step, stay, up, down, part, against, moved, streamed}
use Rattle.streaming.specs.Turned.{turned}
use Rattle.streaming.specs.Faces.{fed, takes, face}
use Rattle.streaming.specs.Streaming.{next}
use Rattle.streaming.specs.Source.{Entry, entry, On, held, opposite, enters, leaves, turned_back, came, goes, source, target}
use Rattle.streaming.proofs.Dirs.{against_twice, opposite_part, mirror_between, entering, incoming_by_step}
use Rattle.streaming.proofs.Ring.{turn_lt}

-- ---- one face, and the two across an axis

module _ (a : Axis) (post : Field) (e : Entry) where
  -- what a face that is not driven lets a direction take
  taken : (d : Side) (k : Face) → drives k ≡ false → (prev : Field) (o : Entry) → held prev e ≡ held post o
      → held (takes a d k post prev) e ≡ held post (turned_back a k e o)
  unfolding takes
  taken d Periodic h prev o is = is
  taken d NoSlip h prev o is = refl
  taken d Symmetry h prev o is = refl
  taken d (MovingWall u v) h prev o is = absurd (true≢false h)
  taken d (Velocity u v) h prev o is = absurd (true≢false h)
  taken d (Pressure r) h prev o is = absurd (true≢false h)

  met : (t : Bool) (p o : Entry) {w v : ℕ} → w ≡ held post p → v ≡ held post o → cond t w v ≡ held post (cond t p o)
  met true p o q r = q
  met false p o q r = r

  one : (d : Side) (k : Face) (nx ny : ℕ) → drives k ≡ false → (prev : Field) (o : Entry) → held prev e ≡ held post o
      → held (face a d k nx ny post prev) e ≡ held post (cond (fed a d nx ny e.x e.y e.i) (turned_back a k e o) o)
  unfolding face
  one d k nx ny h prev o is = met (fed a d nx ny e.x e.y e.i) (turned_back a k e o) o (taken d k h prev o is) is

-- a direction comes in through one face across an axis at most
both : (a : Axis) (f : Side → Face) (c : Step) (l h : Bool) (e o : Entry)
    → cond (entering Max c && h) (turned_back a (f Max) e (cond (entering Min c && l) (turned_back a (f Min) e o) o)) (cond (entering Min c && l) (turned_back a (f Min) e o) o)
    ≡ turned_back a (cond (entering Min c && l) (f Min) (cond (entering Max c && h) (f Max) Periodic)) e o
both a f stay l h e o = refl
both a f up true h e o = refl
both a f up false h e o = refl
both a f down l true e o = refl
both a f down l false e o = refl

module _ (s : Settings) (calm : driven s ≡ false) (post : Field) where
  across : (a : Axis) (prev : Field) (e o : Entry) → held prev e ≡ held post o
      → held (face a Max (face_of s a Max) s.nx s.ny post (face a Min (face_of s a Min) s.nx s.ny post prev)) e ≡ held post (turned_back a (enters s a e) e o)
  unfolding enters
  across a prev e o is =
      one a post e Max (face_of s a Max) s.nx s.ny (undriven s calm a Max) _ _
      (one a post e Min (face_of s a Min) s.nx s.ny (undriven s calm a Min) prev o is)
      ∙ ap (held post) (rw (incoming_by_step a Min e.i, incoming_by_step a Max e.i) (both a (face_of s a) (part a e.i) _ _ e o))

  -- EVERY FINAL ENTRY IS A COPY of the post-collision entry at its source
  pub copied : (e : Entry) → held (next s post) e ≡ held post (source s e)
  unfolding next streamed source came
  copied e = across Y _ e _ (across X (streamed s.nx s.ny post) e (came s e) refl)

-- ---- a source and a target are on the grid

module _ (nx ny : ℕ) (e : Entry) (on : On nx ny e) where
  pub opposite_on : On nx ny (opposite e)
  opposite_on = record { x_in = on.x_in; y_in = on.y_in; i_in = opposite_small e.i on.i_in }

  chosen : (t : Bool) (a : Axis) → On nx ny (entry e.x e.y (cond t (mirror a e.i) (OPP e.i)))
  chosen true a = record { x_in = on.x_in; y_in = on.y_in; i_in = mirror_small a e.i on.i_in }
  chosen false a = opposite_on

  either : (t : Bool) (o p : Entry) → On nx ny o → On nx ny p → On nx ny (cond t o p)
  either true o p h l = h
  either false o p h l = l

  back_on : (a : Axis) (k : Face) (o : Entry) → On nx ny o → On nx ny (turned_back a k e o)
  back_on a k o h = either (is_periodic k) o _ h (chosen (is_symmetry k) a)

-- a step around a side stays on it
pub moved_in : (c : Step) (n k : ℕ) → k < n → moved c n k < n
moved_in c n k h = turn_lt n _ k (omega arith)

module _ (s : Settings) (e : Entry) (on : On s.nx s.ny e) where
  came_on : On s.nx s.ny (came s e)
  unfolding came
  came_on =
      record {
        x_in = moved_in (against (part X e.i)) s.nx e.x on.x_in;
        y_in = moved_in (against (part Y e.i)) s.ny e.y on.y_in;
        i_in = on.i_in;
      }

  pub source_on : On s.nx s.ny (source s e)
  unfolding source
  source_on = back_on s.nx s.ny e on Y (enters s Y e) _ (back_on s.nx s.ny e on X (enters s X e) _ came_on)

-- ---- THE TARGET IS THE SOURCE with opposite directions swapped before and after

module _ (nx ny : ℕ) (e : Entry) (on : On nx ny e) where
  pub opposite_opposite : opposite (opposite e) ≡ e
  opposite_opposite = ap (entry e.x e.y) (opposite_twice e.i on.i_in)

  reflected : (t : Bool) (a : Axis) → cond t (mirror a e.i) (OPP e.i) ≡ OPP (cond t (mirror a (OPP e.i)) (OPP (OPP e.i)))
  reflected true a = sym (mirror_between a e.i on.i_in)
  reflected false a = sym (ap OPP (opposite_twice e.i on.i_in))

  swapped : (t : Bool) (o p q r : Entry) → o ≡ opposite q → p ≡ opposite r → cond t o p ≡ opposite (cond t q r)
  swapped true o p q r h l = h
  swapped false o p q r h l = l

  back_opposite : (a : Axis) (k : Face) (o p : Entry) → o ≡ opposite p → turned_back a k e o ≡ opposite (turned_back a k (opposite e) p)
  back_opposite a k o p h = swapped (is_periodic k) o _ p _ h (ap (entry e.x e.y) (reflected (is_symmetry k) a))

module _ (s : Settings) (e : Entry) (on : On s.nx s.ny e) where
  goes_opposite : goes s e ≡ opposite (came s (opposite e))
  unfolding goes came
  goes_opposite =
      let i = e.i in
      let h = on.i_in in
      rw (opposite_part X i h, opposite_part Y i h, opposite_twice i h, against_twice (part X i), against_twice (part Y i))

  pub conjugate : target s e ≡ opposite (source s (opposite e))
  unfolding source target
  conjugate = back_opposite s.nx s.ny e on Y (leaves s Y e) _ _ (back_opposite s.nx s.ny e on X (leaves s X e) _ _ goes_opposite)

  pub target_on : On s.nx s.ny (target s e)
  target_on =
      rw conjugate (opposite_on s.nx s.ny _ (source_on s (opposite e) (opposite_on s.nx s.ny e on)))

  -- streaming with faces a field with opposite directions swapped, and swapped back: at each entry what stood at its target
  pub turned_around : driven s ≡ false → (p : Field) → held (turned true (next s (turned true p))) e ≡ held p (target s e)
  turned_around h p = copied s h (turned true p) (opposite e) ∙ ap (held p) (sym conjugate)
