-- The closed criterion `lossy`: where it says no, nothing strays, every entry is clear, and the two maps are inverse.
use mathlib.Core.Path.{◌≡◌, refl, sym, ap, ap₂, ◌∙◌}
use mathlib.Core.Bool.{Bool, true, false, not, xor, ◌&&◌, ◌||◌, true≢false}
use Prim.Native.Nat.{◌≤◌, ◌<◌}
use native.Mathlib.Omega.{arith}
use lib.Dec.{leb}
use borrow.Author.Tests.{leb-true, leb-false, not-true}
use Rattle.lattice.specs.declared.Axis.{Axis}
use Rattle.lattice.specs.declared.Axis.TheVariants.{X, Y}
use Rattle.settings.specs.declared.Settings.{Settings}
use Rattle.settings.specs.Tests.{face_of, is_periodic, is_symmetry, unpaired, lossy}
use Rattle.settings.proofs.Laws.{or_left, or_right}
use Rattle.streaming.specs.Travel.{Step, stay, up, down, part, against, moved}
use Rattle.streaming.specs.Source.{Entry, On, enters, leaves, source, target}
use Rattle.streaming.proofs.Source.{moved_in}
use Rattle.lossless.specs.Lossless.{strays}
use Rattle.lossless.proofs.Ends.{strayed, and_split, unless, mirrors, unmet, passes}
use Rattle.lossless.proofs.Turns.{enters_by, leaves_by}
use Rattle.lossless.proofs.Inverse.{Clear, source_target, target_source}
use Rattle.lossless.proofs.Losing.{clear}

-- ---- the criterion by what strays, and by the corners

either_way : (a b : Bool) → xor a b ≡ (not a && b || not b && a)
unfolding xor
either_way true true = refl
either_way true false = refl
either_way false true = refl
either_way false false = refl

-- an x face is Symmetry while y is not periodic and ny is at least 2
abbrev crossed : Settings → Bool
crossed s = (is_symmetry s.x_min || is_symmetry s.x_max) && not (is_periodic s.y_min) && leb 2 s.ny

module _ (s : Settings) where
  abbrev x_strays : Bool
  x_strays = strays s.x_min s.x_max || strays s.x_max s.x_min

  abbrev y_strays : Bool
  y_strays = strays s.y_min s.y_max || strays s.y_max s.y_min

  lossy_by : lossy s ≡ (x_strays || y_strays || crossed s)
  unfolding lossy unpaired
  lossy_by = ap₂ (λ (a b : Bool). a || b || crossed s) (either_way _ _) (either_way _ _)

-- ---- where it says no

module _ (s : Settings) (l : lossy s ≡ false) where
  none : (x_strays s || y_strays s || crossed s) ≡ false
  none = sym (lossy_by s) ∙ l

  -- nothing strays
  steady : (a : Axis) (c : Step) → strayed (face_of s a) c ≡ false
  steady a stay = refl
  steady X up = or_left _ _ (or_left _ _ (or_left _ _ none))
  steady X down = or_right (strays s.x_min s.x_max) _ (or_left _ _ (or_left _ _ none))
  steady Y up = or_left _ _ (or_right (x_strays s) _ (or_left _ _ none))
  steady Y down = or_right (strays s.y_min s.y_max) _ (or_right (x_strays s) _ (or_left _ _ none))

  module _ (e : Entry) (on : On s.nx s.ny e) where
    -- y is periodic
    all-open : is_periodic s.y_min ≡ true → is_periodic (enters s Y e) ≡ true
    all-open p =
        ap is_periodic (enters_by s Y e)
        ∙ unmet (face_of s Y) s.ny e.y (part Y e.i) p (unless (is_periodic s.y_max) (is_periodic s.y_min) (steady Y down) p)

    -- y has one row, and a step leads nowhere else
    one-row : s.ny < 2 → is_periodic (leaves s Y e) ≡ true → is_periodic (enters s Y e) ≡ true
    one-row h p =
        let c = part Y e.i in
        let here : moved c s.ny e.y ≡ e.y = let m = moved_in c s.ny e.y on.y_in in let n = on.y_in in omega arith in
        ap is_periodic (enters_by s Y e)
        ∙ rw here at (passes (face_of s Y) s.ny e.y on.y_in c (steady Y c) (sym (ap is_periodic (leaves_by s e on Y)) ∙ p))

    corner : is_periodic (leaves s Y e) ≡ true → is_symmetry (leaves s X e) ≡ true → is_periodic (enters s Y e) ≡ true
    corner p q =
        let m = mirrors (face_of s X) s.nx e.x (against (part X e.i)) (sym (ap is_symmetry (leaves_by s e on X)) ∙ q) in
        go (is_periodic s.y_min) (leb 2 s.ny) refl refl (rw m at (or_right (x_strays s || y_strays s) (crossed s) none))
      where
        go : (a b : Bool) → is_periodic s.y_min ≡ a → leb 2 s.ny ≡ b
            → (not (is_periodic s.y_min) && leb 2 s.ny) ≡ false → is_periodic (enters s Y e) ≡ true
        go true b u v t = all-open u
        go false false u v t = one-row (leb-false 2 s.ny v) p
        go false true u v t = absurd (true≢false (rw (u, v) at t))

    all-clear : Clear s e
    all-clear = clear s e on (λ a. steady a (part a e.i)) corner

  -- THE TWO MAPS ARE INVERSE
  pub there : (e : Entry) → On s.nx s.ny e → source s (target s e) ≡ e
  there e on = source_target s e on (all-clear e on)

  pub again : (e : Entry) → On s.nx s.ny e → target s (source s e) ≡ e
  again = target_source s there

-- ---- where it says yes and nothing strays, an entry is lost at a corner

pub record Corners (s : Settings) : Type 0 where
  pub mirror : (is_symmetry s.x_min || is_symmetry s.x_max) ≡ true
  pub wall : is_periodic s.y_min ≡ false
  pub two : 2 ≤ s.ny

pub corners : (s : Settings) → lossy s ≡ true → ((a : Axis) (c : Step) → strayed (face_of s a) c ≡ false) → Corners s
corners s l h =
    let q = and_split _ _ (rw (h X up, h X down, h Y up, h Y down) at (sym (lossy_by s) ∙ l)) in
    let r = and_split _ _ q.0 in
    record { mirror = r.0; wall = not-true _ r.1; two = leb-true 2 s.ny q.1 }
