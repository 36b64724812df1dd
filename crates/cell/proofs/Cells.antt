-- A cell from its parts, once for the kinds: with a force and without.
use mathlib.Core.Path.{◌≡◌, ap, ◌∙◌}
use mathlib.Core.Bool.{Bool, true, false}
use mathlib.Core.List.{List}
use lib.Ieee.{Float}
use Rattle.cell.specs.declared.Moments.{Moments}
use Rattle.cell.specs.Cell.{collision_moments, equilibria_of, guo_sources, forced_by, no_source, sources_of, cell_by}

module _ (collide : List Float → List Float → List Float → List Float) (f : List Float) (fx fy floor : Float) {m : Moments} {feq r : List Float}
    (em : m ≡ collision_moments f fx fy floor) (ef : feq ≡ equilibria_of m) where
  pub cell_unforced : forced_by fx fy ≡ false → r ≡ collide f feq no_source → r ≡ cell_by collide f fx fy floor
  unfolding cell_by sources_of
  cell_unforced e er = rw (e, ← em, ← ef) er

  pub cell_forced : {src : List Float} → forced_by fx fy ≡ true → src ≡ guo_sources m fx fy → r ≡ collide f feq src → r ≡ cell_by collide f fx fy floor
  unfolding cell_by sources_of
  cell_forced e es er = rw (e, ← em, ← ef, ← es) er

  -- as the cell's own flag says
  pub cell_either : (acts : Bool) {src : List Float} → forced_by fx fy ≡ acts → src ≡ sources_of m fx fy → r ≡ collide f feq src
      → r ≡ cell_by collide f fx fy floor
  unfolding sources_of
  cell_either true e es er = cell_forced e (es ∙ rw e) er
  cell_either false e es er = cell_unforced e (er ∙ ap (λ (src : List Float). collide f feq src) (es ∙ rw e))
