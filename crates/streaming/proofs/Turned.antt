-- The travel turned round twice is as it was, and facing directions are directions.
use mathlib.Core.Path.{◌≡◌, refl, sym, ◌∙◌}
use mathlib.Core.Bool.{Bool, true, false}
use Prim.Native.Nat.{ℕ, ◌<◌}
use Rattle.lattice.proofs.Tables.{opposite_twice, opposite_small}
use Rattle.streaming.specs.Turned.{facing}

pub facing_small : (back : Bool) (i : ℕ) → i < 9 → facing back i < 9
facing_small true i h = opposite_small i h
facing_small false i h = h

pub facing_twice : (back : Bool) (i : ℕ) → i < 9 → facing back (facing back i) ≡ i
facing_twice true i h = opposite_twice i h
facing_twice false i h = refl

-- where a test holds that fails with the travel turned round, it is not turned round
pub not_back : (back test : Bool) → (back ≡ true → test ≡ false) → test ≡ true → back ≡ false
not_back true test h e = sym e ∙ h refl
not_back false test h e = refl
