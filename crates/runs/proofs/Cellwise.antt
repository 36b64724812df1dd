-- What a pass over the cells leaves: in its loop, and after all cells.
use mathlib.Core.Path.{ap, sym, ◌∙◌, ◌≡◌}
use mathlib.Core.List.{List}
use Prim.Native.Nat.{ℕ, ◌%◌, ◌*◌, ◌+◌, ◌/◌, ◌<◌, ◌≤◌}
use native.Mathlib.Nat.{div-lt_iff_lt-mul, le_antisymm, mod-add-div', mod-lt}
use native.Mathlib.Omega.{arith}
use lib.Ieee.{Float}
use lib.ListN.{get_or, length}
use Rattle.grid.specs.Grid.{buffer_of, cell_of, listed}
use Rattle.grid.specs.Writes.{Cells, Put}
use Rattle.grid.proofs.Fields.{is_listed}
use Rattle.cell.specs.declared.Collision.{Collision}
use Rattle.cell.specs.Cell.{bgk, bgk_rates, cell_by, collided, collided_by, mrt, mrt_rates, trt, trt_rates}
use Rattle.settings.specs.declared.Settings.{Settings}
use Rattle.settings.specs.Tests.{tau_of}
use Rattle.runs.specs.Passes.{entry_by, passed}
use Rattle.runs.specs.Steps.{collided_buffer, collided_entry}
use Rattle.number.specs.Number.{pattern_of}
use Rattle.number.specs.Nine.{at}
use Rattle.grid.proofs.Writes.{cell_more, cells_none}
use Rattle.cell.specs.declared.bgk.BgkRates.{BgkRates}
use Rattle.cell.specs.declared.trt.TrtRates.{TrtRates}
use Rattle.cell.specs.declared.mrt.MrtRates.{MrtRates}
use Rattle.cell.specs.declared.Collision.TheVariants.{Bgk, Mrt, Trt}

-- the invariant of its loop, by any of the three collisions
pub record Passing (collide : List Float → List Float → List Float → List Float) (fx fy floor : Float) (n : ℕ) (f d e : List ℕ) (c : ℕ) : Type 0 where
  pub low : c ≤ n
  pub cells : Cells d e n c (entry_by collide fx fy floor f n)

module _ {collide : List Float → List Float → List Float → List Float} {fx fy floor : Float} {n : ℕ} {f d : List ℕ} where
  pub pass_none : Passing collide fx fy floor n f d d 0
  pass_none = record { low = omega arith; cells = cells_none d n (entry_by collide fx fy floor f n) }

  -- one cell more: what was gathered, collided and put back
  pub pass_more : {e g : List ℕ} {c : ℕ} {l v : List Float} → Put e g n c (λ i. pattern_of (at v i)) → Passing collide fx fy floor n f d e c → c < n
      → v ≡ cell_by collide l fx fy floor → l ≡ cell_of f n c → Passing collide fx fy floor n f d g (c + 1)
  pass_more {e} {g} {c} {l} {v} p w h r q =
      record {
        low = omega arith;
        cells = cell_more d e g n c (entry_by collide fx fy floor f n) (λ i. pattern_of (at v i)) h w.cells p
            (λ i b. ap (λ (x : List Float). pattern_of (at x i)) (r ∙ ap (λ (x : List Float). cell_by collide x fx fy floor) q));
      }

pub pass_done : {collide : List Float → List Float → List Float → List Float} {fx fy floor : Float} {n : ℕ} {f d e : List ℕ} {c : ℕ}
    → Passing collide fx fy floor n f d e c → n ≤ c → length d ≡ 9 * n → e ≡ passed collide fx fy floor n f
unfolding passed
pass_done {collide} {fx} {fy} {floor} {n} {f} {d} {e} w h size =
    let all = rw (le_antisymm w.low h) at w.cells in
    is_listed (9 * n) e (λ k. entry_by collide fx fy floor f n (k % n) (k / n)) (all.size ∙ size)
    (λ k b.
    let some : 0 < n = omega arith in
    ap (λ (j : ℕ). get_or e j 0) (sym (mod-add-div' k n)) ∙ all.written (k % n) (k / n) (mod-lt k some) ((div-lt_iff_lt-mul some).1 b))

-- all cells, by the rule of the settings' kind
pub all_cells : (s : Settings) (f : List ℕ) {e : List ℕ} {k : Collision} {collide : List Float → List Float → List Float → List Float}
    → s.collision ≡ k → collide ≡ collided_by k (tau_of s.nu) → e ≡ passed collide s.fx s.fy s.floor (s.nx * s.ny) f → e ≡ collided_buffer s f
unfolding passed collided_buffer buffer_of collided
all_cells s f kind rule w =
    let n = s.nx * s.ny in
    w ∙ rw (rule, ← kind) (λ i. listed (9 * n) (λ k. collided_entry s f (sym (mod-add-div' (k % n) s.nx) i) (k / n)))

module _ (s : Settings) (f : List ℕ) {e : List ℕ} {tau : Float} (time : tau ≡ tau_of s.nu) where
  pub bgk_all : {rates : BgkRates} → s.collision ≡ Bgk → rates ≡ bgk_rates tau → e ≡ passed (bgk rates) s.fx s.fy s.floor (s.nx * s.ny) f → e ≡ collided_buffer s f
  unfolding collided_by
  bgk_all kind so w = all_cells s f kind (rw (so, time)) w

  pub trt_all : {rate : Float} {rates : TrtRates} → s.collision ≡ Trt rate → rates ≡ trt_rates tau rate → e ≡ passed (trt rates) s.fx s.fy s.floor (s.nx * s.ny) f → e ≡ collided_buffer s f
  unfolding collided_by
  trt_all kind so w = all_cells s f kind (rw (so, time)) w

  pub mrt_all : {rates : MrtRates} → s.collision ≡ Mrt → rates ≡ mrt_rates tau → e ≡ passed (mrt rates) s.fx s.fy s.floor (s.nx * s.ny) f → e ≡ collided_buffer s f
  unfolding collided_by
  mrt_all kind so w = all_cells s f kind (rw (so, time)) w
