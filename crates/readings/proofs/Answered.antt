-- The two ways of a reading, at the exit of a `?` and past it; and what is known past it.
use Rattle.std.proofs.Common.{◌≡◌, refl, sym, ◌+◌, ◌*◌, ◌≤◌, length, arith}
use Rattle.std.specs.Prelude.{List, ℕ, Float, Result, Ok, Err}
use Rattle.std.specs.Borrow.{Bor}
use Rattle.std.specs.Result.{IsErrAnd}
use Rattle.std.proofs.lemmas.Result.{err_from_is_err_and}
use Rattle.number.specs.Number.{c0}
use Rattle.grid.specs.Grid.{Grid, Holds, most_cells}
use Rattle.grid.proofs.Fields.{holds_at}
use Rattle.grid.proofs.Radix.{row_in}
use Rattle.cell.specs.declared.Moments.{Moments}
use Rattle.settings.specs.declared.Settings.{Settings}
use Rattle.settings.specs.declared.refused.Refusal.{Refusal}
use Rattle.settings.specs.Refused.{number, number_of}
use Rattle.settings.specs.Refusals as Call
use Rattle.settings.specs.Refusals.{refusal}
use Rattle.settings.specs.Outcome.{answer, outcome, written}
use Rattle.settings.proofs.Laws.{known}
use Rattle.settings.proofs.Numbers.{some_number}
use Rattle.settings.proofs.Outcome.{answered, refused, refused_by}
use Rattle.readings.specs.declared.answers.Velocity.{Velocity}
use Rattle.readings.specs.Readings.{reading, reading_of, velocity_reading, velocity_reading_of, PartOf, plane_start, plane_length}

-- ---- a value

-- at the exit of a `?`, where `view` reads an error as what a refusal leaves
exit : {A T : Type 0} (view : Result T Refusal → A) (left : ℕ → A) → ((e : Refusal) → view (Err e) ≡ left (number e))
    → (r : Result T Refusal) (why : Refusal) {m : ℕ} (done : A) → IsErrAnd r (λ e. e ≡ why) → number why ≡ m → view r ≡ answer m done (left m)
exit view left same r why done is e =
    let p = err_from_is_err_and r is in
    let some = some_number why in
    rw (p.1, p.2, same why) (refused done left e (λ zero. absurd (omega arith)))

pub read : {m : ℕ} {x y : Float} → 0 ≡ m → x ≡ y → reading_of (Ok x) ≡ reading m y
read e p = answered _ e refl (λ i. record { number = 0; value = p i })

pub not_read : (r : Result Float Refusal) (why : Refusal) {m : ℕ} (y : Float) → IsErrAnd r (λ e. e ≡ why) → number why ≡ m → reading_of r ≡ reading m y
not_read r why y = exit reading_of (λ n. record { number = n; value = c0 }) (λ e. refl) r why (record { number = 0; value = y })

pub velocity_read : {m : ℕ} {u v : Moments} → 0 ≡ m → u ≡ v → velocity_reading_of (Ok (record { ux = u.ux; uy = u.uy })) ≡ velocity_reading m v
velocity_read e p = answered _ e refl (λ i. record { number = 0; ux = (p i).ux; uy = (p i).uy })

pub velocity_not_read : (r : Result Velocity Refusal) (why : Refusal) {m : ℕ} (ux uy : Float) → IsErrAnd r (λ e. e ≡ why) → number why ≡ m
    → velocity_reading_of r ≡ answer m (record { number = 0; ux = ux; uy = uy }) (record { number = m; ux = c0; uy = c0 })
velocity_not_read r why ux uy =
    exit velocity_reading_of (λ n. record { number = n; ux = c0; uy = c0 }) (λ e. refl) r why
    (record { number = 0; ux = ux; uy = uy })

-- ---- a buffer that is written

pub wrote : {m : ℕ} {new rule : List ℕ} (old : List ℕ) → 0 ≡ m → new ≡ rule → outcome 0 new ≡ written m old rule
wrote old e p = answered _ e refl (λ i. record { number = 0; buffer = p i })

pub not_written : (r : Result Unit Refusal) (why : Refusal) {m : ℕ} (old rule : List ℕ) → IsErrAnd r (λ e. e ≡ why) → number why ≡ m → outcome (number_of r) old ≡ written m old rule
not_written r why old rule is e = refused_by (outcome 0 rule) (λ n. outcome n old) r why is e

-- ---- past the refusal

pub sides_known : (s : Settings) (f : ℕ) → 0 ≡ refusal (Call.total_mass s f) → Grid s.nx s.ny × (f ≡ 9 * (s.nx * s.ny))
sides_known s f e = let k = known (Call.total_mass s f) (sym e) in (k.0, k.1.0.size)

pub energy_known : (s : Settings) (f : ℕ) → 0 ≡ refusal (Call.kinetic_energy s f) → Grid s.nx s.ny × (f ≡ 9 * (s.nx * s.ny))
energy_known s f e = let k = known (Call.kinetic_energy s f) (sym e) in (k.0, k.1.0.size)

pub field_known : (s : Settings) (f u : ℕ) → 0 ≡ refusal (Call.velocity_field s f u)
    → Grid s.nx s.ny × (f ≡ 9 * (s.nx * s.ny)) × (u ≡ 2 * (s.nx * s.ny))
field_known s f u e = let k = known (Call.velocity_field s f u) (sym e) in (k.0, k.1.0.size, k.1.1.0.size)

pub table_known : (s : Settings) (table f : ℕ) → 0 ≡ refusal (Call.initialize s table f)
    → Grid s.nx s.ny × (table ≡ 3 * (s.nx * s.ny)) × (f ≡ 9 * (s.nx * s.ny))
table_known s table f e = let k = known (Call.initialize s table f) (sym e) in (k.0, k.1.1.0.size, k.1.0.size)

-- (x, y) is a cell of the grid
pub density_holds : (s : Settings) (f : List ℕ) (x y : ℕ) → 0 ≡ refusal (Call.density s (length f) x y) → Holds f (s.nx * s.ny) (x + y * s.nx)
density_holds s f x y e =
    let k = known (Call.density s (length f) x y) (sym e) in holds_at _ _ _ _ _ k.0 k.1.0.size k.1.1.0.column k.1.1.0.row

pub velocity_holds : (s : Settings) (f : List ℕ) (x y : ℕ) → 0 ≡ refusal (Call.velocity s (length f) x y) → Holds f (s.nx * s.ny) (x + y * s.nx)
velocity_holds s f x y e =
    let k = known (Call.velocity s (length f) x y) (sym e) in
    holds_at _ _ _ _ _ k.0 k.1.0.size k.1.1.1.1.0.column k.1.1.1.1.0.row

-- the entries of direction i are in the buffer
pub record Plane (n len i : ℕ) : Type 0 where
  pub few : n ≤ most_cells
  pub inside : i * n + n ≤ len

pub plane_inside : (s : Settings) (len i : ℕ) → 0 ≡ refusal (Call.plane s len i) → Plane (s.nx * s.ny) len i
plane_inside s len i e =
    let k = known (Call.plane s len i) (sym e) in
    record { few = k.0.few; inside = omega (arith, k.1.0.size, row_in (s.nx * s.ny) 9 i k.1.1.0) }

-- a part of direction i's entries is at the rules' place, and of their length
pub part_read : (r f : Bor (List ℕ)) (s : Settings) (i : ℕ) → 0 ≡ refusal (Call.plane s (length f.now) i)
    → PartOf r f (i * (s.nx * s.ny)) (s.nx * s.ny) → PartOf r f (plane_start s f.now i) (plane_length s f.now i)
part_read r f s i e part =
    let start : i * (s.nx * s.ny) ≡ plane_start s f.now i = answered 0 e refl refl in
    let count : s.nx * s.ny ≡ plane_length s f.now i = answered 0 e refl refl in
    rw (← start, ← count) part

pub part_refused : (r f : Bor (List ℕ)) (s : Settings) (i : ℕ) (why : Refusal) → number why ≡ refusal (Call.plane s (length f.now) i)
    → PartOf r f 0 0 → PartOf r f (plane_start s f.now i) (plane_length s f.now i)
part_refused r f s i why e part =
    let some = some_number why in
    let start : 0 ≡ plane_start s f.now i = refused _ (λ n. 0) e (λ zero. absurd (omega arith)) in
    let count : 0 ≡ plane_length s f.now i = refused _ (λ n. 0) e (λ zero. absurd (omega arith)) in
    rw (← start, ← count) part
