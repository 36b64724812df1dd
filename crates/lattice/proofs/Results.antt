-- The nine results of a rule that is asked for each direction, in order.
use mathlib.Core.Path.{◌≡◌, refl, sym, subst, ◌∙◌}
use mathlib.Core.List.{List, [], ◌∷◌}
use Prim.Native.Nat.{ℕ, ◌<◌}
use lib.Seq.{ext_get_or}
use lib.Ieee.{Float, nan}
use Rattle.std.specs.Coded.{le_prop}
use Rattle.number.specs.Nine.{at, nine}
use Rattle.number.proofs.Nine.{for_nine, at_nine}
use Rattle.lattice.specs.declared.directions.Direction.{Direction}
use Rattle.lattice.specs.Rule.{Gives}

-- a rule of which each result is g's gives the nine of g
pub nine_by : (g : ℕ → Float) {rule : Direction → Float → Type 0} {l : List Float} → Gives rule l → ((i : Direction) (x : Float) → rule i x → x ≡ g i.index) → l ≡ nine g
nine_by g {rule} {l} w is =
    ext_get_or nan l (nine g) w.size
    (λ k b. let h : k < 9 = subst (λ (n : ℕ). k < n) w.size b in is (record { index = k; inside = h }) (at l k) (w.entry (record { index = k; inside = h })) ∙ sym (at_nine g nan k h))

-- direction k by its number, which is below nine in one way only
module _ (rule : Direction → Float → Type 0) where
  abbrev result_at : List Float → ℕ → Type 0
  result_at l k = (h : k < 9) → rule (record { index = k; inside = h }) (at l k)

  asked : {k : ℕ} (h : k < 9) {x : Float} → rule (record { index = k; inside = h }) x → (i : k < 9) → rule (record { index = k; inside = i }) x
  asked {k} h {x} r i = subst (λ (j : k < 9). rule (record { index = k; inside = j }) x) (le_prop h i) r

  pub gives : {h0 : 0 < 9} {h1 : 1 < 9} {h2 : 2 < 9} {h3 : 3 < 9} {h4 : 4 < 9} {h5 : 5 < 9} {h6 : 6 < 9} {h7 : 7 < 9} {h8 : 8 < 9} {a b c d e f g h i : Float}
      → rule (record { index = 0; inside = h0 }) a → rule (record { index = 1; inside = h1 }) b → rule (record { index = 2; inside = h2 }) c
      → rule (record { index = 3; inside = h3 }) d → rule (record { index = 4; inside = h4 }) e → rule (record { index = 5; inside = h5 }) f
      → rule (record { index = 6; inside = h6 }) g → rule (record { index = 7; inside = h7 }) h → rule (record { index = 8; inside = h8 }) i
      → Gives rule (a ∷ b ∷ c ∷ d ∷ e ∷ f ∷ g ∷ h ∷ i ∷ [])
  gives {a} {b} {c} {d} {e} {f} {g} {h} {i} pa pb pc pd pe pf pg ph pi =
      let l = a ∷ b ∷ c ∷ d ∷ e ∷ f ∷ g ∷ h ∷ i ∷ [] in
      record {
        size = refl;
        entry = λ k. for_nine (result_at l) (asked _ pa) (asked _ pb) (asked _ pc) (asked _ pd) (asked _ pe) (asked _ pf) (asked _ pg) (asked _ ph) (asked _ pi) k.index k.inside k.inside;
      }
