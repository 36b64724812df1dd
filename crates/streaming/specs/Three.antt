-- Three of something, one for each direction that comes in through a face.
use Rattle.std.specs.Prelude.{◌≡◌, ℕ}
use Rattle.lattice.specs.declared.directions.Direction.{Direction}
use Rattle.streaming.specs.declared.three.Three.{Three}

-- what f makes of each
abbrev pub each : {A B : Type 0} → (A → B) → Three A → Three B
each f p = record { n = f p.n; np = f p.np; nm = f p.nm }

-- each of q is a result of the rule for p's
pub record Maps {A B : Type 0} (rule : A → B → Type 0) (p : Three A) (q : Three B) : Type 0 where
  pub n : rule p.n q.n
  pub np : rule p.np q.np
  pub nm : rule p.nm q.nm

-- directions by their numbers
abbrev pub indices : Three Direction → Three ℕ
indices p = record { n = p.n.index; np = p.np.index; nm = p.nm.index }

-- three different ones
pub record Apart (p : Three ℕ) : Type 0 where
  pub n_np : p.n ≡ p.np → ⊥
  pub n_nm : p.n ≡ p.nm → ⊥
  pub np_nm : p.np ≡ p.nm → ⊥
