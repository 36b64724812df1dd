-- `settings::faults::length_bad` meets its contract: a length divides by `per` and nx to give ny, with nothing left, exactly where it is per·nx·ny.
use mathlib.Core.Path.{◌≡◌, refl, ap}
use mathlib.Core.Bool.{Bool, false, not, ◌||◌}
use Prim.Native.Nat.{ℕ, ◌*◌, ◌/◌, ◌%◌, ◌≤◌}
use native.Mathlib.Nat.{div-add-mod, mul-div_cancel_left, mul-mod_right, zero-mul, mul-zero}
use native.Mathlib.Omega.{arith}
use lib.Dec.{eqb}
use borrow.Author.Tests.{eqb-true, eq-eqb, not-false}
use Rattle.settings.specs.Tests.{length_bad}
use Rattle.settings.proofs.Laws.{or_left, or_right, same_test}
use Rattle.settings.proofs.faults.length_bad.Goals as goal

-- n is m·q where it divides by m to give q, with nothing left
whole : (n m q : ℕ) → not (eqb (n % m) 0) ≡ false → n / m ≡ q → n ≡ m * q
whole n m q none e = omega (arith, div-add-mod n m, eqb-true (n % m) 0 (not-false _ none), ap (λ (k : ℕ). m * k) e)

module _ (nx ny per len : ℕ) where
  -- the code's three tests: cells, rows and their number
  abbrev cells : Bool
  cells = not (eqb (len % per) 0)

  abbrev rows : Bool
  rows = not (eqb (len / per % nx) 0)

  abbrev count : Bool
  count = not (eqb (len / per / nx) ny)

  quotients : cells || rows || count ≡ false → len ≡ per * (nx * ny)
  quotients e =
      let both = or_left (cells || rows) count e in
      let ny-rows = eqb-true (len / per / nx) ny (not-false _ (or_right (cells || rows) count e)) in
      whole len per (nx * ny) (or_left cells rows both) (whole (len / per) nx ny (or_right cells rows both) ny-rows)

  product : 1 ≤ per → 1 ≤ nx → len ≡ per * (nx * ny) → cells || rows || count ≡ false
  product p x e =
      rw (
        e,
        mul-mod_right per (nx * ny),
        mul-div_cancel_left (nx * ny) p,
        mul-mod_right nx ny,
        mul-div_cancel_left ny x,
        eq-eqb ny ny refl,
      )

  by-division : 1 ≤ per → 1 ≤ nx → cells || rows || count ≡ not (eqb len (per * (nx * ny)))
  by-division p x =
      same_test (cells || rows || count) (not (eqb len (per * (nx * ny))))
      (λ e. ap not (eq-eqb len (per * (nx * ny)) (quotients e)))
      (λ e. product p x (eqb-true len (per * (nx * ny)) (not-false _ e)))

pub returns-then-nx-eq0 : goal.returns-then-nx-eq0
unfolding length_bad
returns-then-nx-eq0 c = rw (c.if-nx-eq0.true, zero-mul, mul-zero)

pub returns : goal.returns
unfolding length_bad
returns c =
    let a = c.args in
    by-division a.nx a.ny a.per a.len c.requires (omega arith)
