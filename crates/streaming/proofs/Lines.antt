-- What a write along a face leaves alone: the laws that the loop along a face cites, over the entries that it writes.
use mathlib.Core.Path.{◌≡◌, refl, ◌∙◌}
use mathlib.Core.List.{List}
use Prim.Native.Nat.{ℕ, ◌+◌, ◌*◌, ◌<◌}
use native.Mathlib.Nat.{mul-le-mul_right}
use native.Mathlib.Omega.{arith}
use borrow.Author.Count.{below_more}
use lib.ListN.{length, get_or, set, length-set}
use lib.Seq.{get_or-set_same, get_or-set_other}
use Rattle.grid.specs.Grid.{Holds}
use Rattle.grid.proofs.Radix.{low_inj, high_inj, cell_in}
use Rattle.lattice.specs.declared.directions.Direction.{Direction}
use Rattle.streaming.specs.declared.line.Line.{Line}
use Rattle.streaming.specs.declared.three.Three.{Three}
use Rattle.streaming.specs.Three.{each, indices, Apart}
use Rattle.streaming.specs.Lines.{spot, entry_at, Changed, Along}
use Rattle.streaming.specs.Read.{stretch}

-- no cell of a line comes twice
pub spots_differ : (l : Line) (j k : ℕ) → j < k → spot (stretch l) j ≡ spot (stretch l) k → ⊥
spots_differ l j k h e = omega (arith, l.apart, mul-le-mul_right l.stride h)

pub holds_spot : (l : Line) (b : List ℕ) (k : ℕ) → k < l.count → length b ≡ 9 * l.cells → Holds b l.cells (spot (stretch l) k)
holds_spot l b k h size = record { few = l.few; cell = l.inside k h; size = size }

-- ---- one cell

-- one store: g is e with a as entry i of cell c of n
record Stored (e g : List ℕ) (n c i a : ℕ) : Type 0 where
  size : length g ≡ length e
  here : get_or g (c + i * n) 0 ≡ a
  others : (b j : ℕ) → b < n → (b ≡ c → j ≡ i → ⊥) → get_or g (b + j * n) 0 ≡ get_or e (b + j * n) 0

stored : (e g : List ℕ) (n c i a : ℕ) → c < n → i < 9 → length e ≡ 9 * n → g ≡ set e (c + i * n) a → Stored e g n c i a
stored e g n c i a hc hi size is =
    rw is
    (record {
      size = length-set e (c + i * n) a;
      here = get_or-set_same e (c + i * n) a 0 (omega (arith, cell_in n c i hc hi));
      others = λ b j l o. get_or-set_other e (c + i * n) (b + j * n) a 0 (λ q. o (low_inj n b j c i l hc q) (high_inj n b j c i l hc q));
    })

-- the three stores, one after the other
pub put_three : (d : List ℕ) (n c : ℕ) (p : Three Direction) (v : Three ℕ) {e0 e1 e2 : List ℕ} → Holds d n c → Apart (indices p)
    → e0 ≡ set d (c + p.n.index * n) v.n
    → e1 ≡ set e0 (c + p.np.index * n) v.np
    → e2 ≡ set e1 (c + p.nm.index * n) v.nm
    → Changed d e2 n c (indices p) v
put_three d n c p v {e0} {e1} {e2} h apart p0 p1 p2 =
    let hc = h.cell in
    let s0 = stored d e0 n c p.n.index v.n hc p.n.inside h.size p0 in
    let s1 = stored e0 e1 n c p.np.index v.np hc p.np.inside (s0.size ∙ h.size) p1 in
    let s2 = stored e1 e2 n c p.nm.index v.nm hc p.nm.inside (s1.size ∙ s0.size ∙ h.size) p2 in
    let at_n = s2.others c p.n.index hc (λ _ q. apart.n_nm q) ∙ s1.others c p.n.index hc (λ _ q. apart.n_np q) ∙ s0.here in
    let at-np = s2.others c p.np.index hc (λ _ q. apart.np_nm q) ∙ s1.here in
    record {
      size = s2.size ∙ s1.size ∙ s0.size;
      written = λ x. record { n = at_n x; np = at-np x; nm = s2.here x };
      cells = λ b i l o. s2.others b i l (λ q _. o q) ∙ s1.others b i l (λ q _. o q) ∙ s0.others b i l (λ q _. o q);
      planes = λ b i l o. s2.others b i l (λ _ q. o.nm q) ∙ s1.others b i l (λ _ q. o.np q) ∙ s0.others b i l (λ _ q. o.n q);
    }

-- ---- a line

module _ (l : Line) (d : List ℕ) (p : Three ℕ) (v : ℕ → Three ℕ) where
  -- d has become e, written so in the first k cells of the line
  abbrev pub WrittenTo : List ℕ → ℕ → Type 0
  WrittenTo e k = Along d e l.cells (stretch l) p k v

  pub along_none : WrittenTo d 0
  along_none = record { size = refl; written = λ j h. absurd (omega arith); cells = λ b i h o. refl; planes = λ b i h o. refl }

  -- one cell more
  pub along_more : {e g : List ℕ} {k : ℕ} {u : Three ℕ} → k < l.count → WrittenTo e k → Changed e g l.cells (spot (stretch l) k) p u → u ≡ v k → WrittenTo g (k + 1)
  along_more {e} {g} {k} hk w c is =
      let n = l.cells in
      let at = spot (stretch l) in
      record {
        size = c.size ∙ w.size;
        written = below_more (λ j. each (entry_at g n (at j)) p ≡ v j) k
            (λ j h.
            let kept : (i : ℕ) → entry_at g n (at j) i ≡ entry_at e n (at j) i = λ i. c.cells (at j) i (l.inside j (omega arith)) (spots_differ l j k h) in
            (λ x. record { n = kept p.n x; np = kept p.np x; nm = kept p.nm x }) ∙ w.written j h)
            (c.written ∙ is);
        cells = λ b i h o. c.cells b i h (λ q. o k (omega arith) q) ∙ w.cells b i h (λ j m. o j (omega arith));
        planes = λ b i h o. c.planes b i h o ∙ w.planes b i h o;
      }
