-- The directions of the four faces, by computed tables over axis and side: which come in, and that they are three different ones.
use mathlib.Core.Path.{◌≡◌, refl, sym, ap, ◌∙◌, subst}
use mathlib.Core.Bool.{Bool, true, false, ◌||◌, false≢true}
use Prim.Native.Nat.{ℕ, zero, suc, ◌<◌}
use lib.IntN.{ℤ, pos, negsuc, ◌+ℤ◌, ◌*ℤ◌}
use native.Mathlib.Omega.{arith}
use lib.Dec.{T, eqb}
use borrow.Author.Tests.{eqb-true, eqb-false}
use Rattle.number.specs.Nine.{nine}
use Rattle.number.proofs.Nine.{all_nine}
use Rattle.lattice.specs.declared.Axis.{Axis}
use Rattle.lattice.specs.declared.Axis.TheVariants.{X, Y}
use Rattle.lattice.specs.declared.Side.{Side}
use Rattle.lattice.specs.declared.Side.TheVariants.{Min, Max}
use Rattle.lattice.specs.Lattice.{directions, E}
use Rattle.lattice.specs.Lookup.{is_row, lookup}
use Rattle.lattice.specs.Sides.{normal, above_zero, incoming}
use Rattle.streaming.specs.declared.three.Three.{Three}
use Rattle.streaming.specs.Turned.{facing}
use Rattle.streaming.specs.Faces.{Names, names}
use Rattle.streaming.specs.Three.{each, Apart}
use Rattle.streaming.specs.Lines.{incoming_of, Other}
use Rattle.streaming.proofs.Turned.{facing_twice}

-- ---- the names of a face

-- direction i is n, n + t or n - t
abbrev pub named : Names → ℕ → Bool
named d i = eqb i d.n || eqb i d.np || eqb i d.nm

-- these three come in, and no others
incoming_table : (a : Axis) (s : Side) → nine (named (names a s)) ≡ nine (incoming a s)
unfolding directions names lookup is_row
incoming_table X Min = refl
incoming_table X Max = refl
incoming_table Y Min = refl
incoming_table Y Max = refl

pub comes_in : (a : Axis) (s : Side) (i : ℕ) → i < 9 → named (names a s) i ≡ incoming a s i
comes_in a s = all_nine (named (names a s)) _ (incoming_table a s)

-- AN ENTRY COMES IN exactly where e · n > 0, in whole numbers
pub record Above (z : ℤ) : Type 0 where
  pub less_one : ℕ
  pub is : z ≡ pos (suc less_one)

above : (z : ℤ) → above_zero z ≡ true → Above z
above (pos zero) h = absurd (false≢true h)
above (pos (suc n)) h = record { less_one = n; is = refl }
above (negsuc n) h = absurd (false≢true h)

pub comes_in_where : (a : Axis) (s : Side) (i : ℕ) → let en = E i X *ℤ normal a s X +ℤ E i Y *ℤ normal a s Y in
    (incoming a s i ≡ true → Above en) × (Above en → incoming a s i ≡ true)
comes_in_where a s i = (above _, λ h. ap above_zero h.is)

-- three directions, and three different ones
pub record Small (p : Three ℕ) : Type 0 where
  pub n : p.n < 9
  pub np : p.np < 9
  pub nm : p.nm < 9

pub record Sound (p : Three ℕ) : Type 0 where
  pub small : Small p
  pub apart : Apart p

pub sound : (a : Axis) (s : Side) → Sound (incoming_of (names a s))
unfolding directions names lookup is_row
sound X Min = search arith
sound X Max = search arith
sound Y Min = search arith
sound Y Max = search arith

-- ---- one of three directions, or none

pub data One (i : ℕ) (d : Names) : Type 0 where
  is-n : i ≡ d.n → One i d
  is-np : i ≡ d.np → One i d
  is-nm : i ≡ d.nm → One i d

pub one_of : (i : ℕ) (d : Names) → named d i ≡ true → One i d
one_of i d e = by_tests (eqb i d.n) (eqb i d.np) (eqb i d.nm) refl refl refl e
  where
    by_tests : (p q r : Bool) → eqb i d.n ≡ p → eqb i d.np ≡ q → eqb i d.nm ≡ r → p || q || r ≡ true → One i d
    by_tests true q r ep eq er e = is-n (eqb-true i d.n ep)
    by_tests false true r ep eq er e = is-np (eqb-true i d.np eq)
    by_tests false false true ep eq er e = is-nm (eqb-true i d.nm er)
    by_tests false false false ep eq er e = absurd (subst T (sym e) tt)

pub none_of : (i : ℕ) (d : Names) → named d i ≡ false → Other i (incoming_of d)
none_of i d e = by_tests (eqb i d.n) (eqb i d.np) (eqb i d.nm) refl refl refl e
  where
    by_tests : (p q r : Bool) → eqb i d.n ≡ p → eqb i d.np ≡ q → eqb i d.nm ≡ r → p || q || r ≡ false → Other i (incoming_of d)
    by_tests true q r ep eq er e = absurd (subst T e tt)
    by_tests false true r ep eq er e = absurd (subst T e tt)
    by_tests false false true ep eq er e = absurd (subst T e tt)
    by_tests false false false ep eq er e = record { n = eqb-false i d.n ep; np = eqb-false i d.np eq; nm = eqb-false i d.nm er }

-- ---- with the travel turned round

module _ (back : Bool) where
  facing_inj : (i j : ℕ) → i < 9 → j < 9 → facing back i ≡ facing back j → i ≡ j
  facing_inj i j hi hj e = sym (facing_twice back i hi) ∙ ap (facing back) e ∙ facing_twice back j hj

  pub apart_facing : (p : Three ℕ) → Sound p → Apart (each (facing back) p)
  apart_facing p h =
      let s = h.small in
      let a = h.apart in
      record {
        n_np = λ e. a.n_np (facing_inj p.n p.np s.n s.np e);
        n_nm = λ e. a.n_nm (facing_inj p.n p.nm s.n s.nm e);
        np_nm = λ e. a.np_nm (facing_inj p.np p.nm s.np s.nm e);
      }

  pub other_facing : (i : ℕ) (p : Three ℕ) → i < 9 → Small p → Other i p → Other (facing back i) (each (facing back) p)
  other_facing i p hi s o =
      record {
        n = λ e. o.n (facing_inj i p.n hi s.n e);
        np = λ e. o.np (facing_inj i p.np hi s.np e);
        nm = λ e. o.nm (facing_inj i p.nm hi s.nm e);
      }
