-- One cell in its buffer: the nine entries that `swap` wrote are what the rule says of a list of one obstacle.
use mathlib.Core.Path.{◌≡◌, refl, sym, ◌∙◌}
use mathlib.Core.Bool.{Bool, true, false}
use mathlib.Core.List.{List, [], ◌∷◌}
use Prim.Native.Nat.{ℕ, ◌+◌, ◌*◌, ◌<◌}
use lib.Dec.{eqb}
use lib.ListN.{length, get_or}
use borrow.Author.Tests.{eqb-true, eqb-false}
use Rattle.lattice.specs.Lattice.{OPP}
use Rattle.grid.specs.Grid.{field_of}
use Rattle.grid.specs.Writes.{Put}
use Rattle.grid.proofs.Radix.{within, low_inj, high_inj}
use Rattle.grid.proofs.Fields.{is_buffer}
use Rattle.settings.specs.declared.Obstacle.{Obstacle}
use Rattle.settings.specs.Tests.{place_of}
use Rattle.obstacles.specs.Obstacles.{is_named, bounced, bounced_buffer}

module _ (nx ny : ℕ) (o : Obstacle) (f e : List ℕ) (size : length f ≡ 9 * (nx * ny)) (column : o.x < nx)
    (p : Put f e (nx * ny) (place_of nx o) (λ i. get_or f (place_of nx o + OPP i * (nx * ny)) 0)) where
  entry : (x y i : ℕ) → x < nx → y < ny → i < 9 → (a b : Bool) → eqb o.x x ≡ a → eqb o.y y ≡ b
      → get_or e (x + y * nx + i * (nx * ny)) 0 ≡ bounced (o ∷ []) (field_of nx ny f) x y i
  unfolding bounced is_named field_of
  entry x y i hx hy hi true true ex ey =
      let px = eqb-true o.x x ex in
      let py = eqb-true o.y y ey in
      rw (ex, ey, ← px, ← py) (p.written i hi)
  entry x y i hx hy hi true false ex ey =
      rw (ex, ey)
      (p.others (x + y * nx) i (within x y nx ny hx hy) (λ q. eqb-false o.y y ey (sym (high_inj nx x y o.x o.y hx column q))))
  entry x y i hx hy hi false b ex ey =
      rw ex
      (p.others (x + y * nx) i (within x y nx ny hx hy) (λ q. eqb-false o.x x ex (sym (low_inj nx x y o.x o.y hx column q))))

  pub bounced_put : e ≡ bounced_buffer nx ny (o ∷ []) f
  unfolding bounced_buffer field_of
  bounced_put =
      is_buffer nx ny e (bounced (o ∷ []) (field_of nx ny f)) (p.size ∙ size)
      (record { here = λ x y i hx hy hi. entry x y i hx hy hi (eqb o.x x) (eqb o.y y) refl refl })
