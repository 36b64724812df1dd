-- `readings::plane` meets its contract: past the refusal direction i's entries are within the buffer, and else the part is empty.
use mathlib.Core.Path.{◌≡◌, refl}
use Prim.Native.Nat.{ℕ, ◌+◌, ◌-◌}
use native.Mathlib.Omega.{arith}
use lib.ListN.{length-take, length-drop}
use Rattle.readings.proofs.Answered.{plane_inside, part_read, part_refused}
use Rattle.readings.proofs.plane.Goals as goal

pub returns-in-Ok : goal.returns-in-Ok
returns-in-Ok c =
    let a = c.args in
    let zero = rw c.in-Ok.is at c.plane_refusal.ensures in
    let known = plane_inside a.s _ a.i zero in
    let ends : (m n : ℕ) → (m + n) - m ≡ n = λ m n. omega arith in
    part_read _ a.f a.s a.i zero
    (record {
      block = refl;
      place = omega arith;
      size = rw ends (simp (length-take, length-drop) (omega arith));
      holds = rw ends;
    })

pub returns-in-Err : goal.returns-in-Err
returns-in-Err c =
    let a = c.args in
    part_refused _ a.f a.s a.i _ (rw c.in-Err.is at c.plane_refusal.ensures) (record { block = refl; place = omega arith; size = refl; holds = refl })
