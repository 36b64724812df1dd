-- THE ANSWER IS RIGHT: no two buffers are streamed to one exactly when `lossy` says no; and where it says yes, the entry at `lowest` is the lowest that is lost.
use mathlib.Core.Path.{◌≡◌, refl, sym, ap, ◌∙◌, subst}
use mathlib.Core.Bool.{Bool, true, false}
use mathlib.Core.List.{List}
use mathlib.Core.Logic.{⊎_elim, ◌↔◌}
use Prim.Native.Nat.{ℕ, ◌*◌, ◌/◌, ◌%◌, ◌^◌, ◌<◌}
use native.Mathlib.Omega.{arith}
use native.Mathlib.Decide.{ℕ_discrete}
use lib.ListN.{get_or, set, replicate, length-set, length-replicate, get_or-replicate, get_or-eq_default}
use lib.Seq.{get_or-set_same, get_or-set_other}
use Rattle.grid.specs.Grid.{Grid, field_of}
use Rattle.grid.proofs.Radix.{lt_or_ge, index_in, index_inj, place_of_lem}
use Rattle.grid.proofs.Fields.{same_buffer}
use Rattle.settings.specs.declared.Settings.{Settings}
use Rattle.settings.specs.Tests.{driven, lossy}
use Rattle.streaming.specs.Streaming.{next_buffer}
use Rattle.streaming.specs.Source.{Entry, entry, On, index_of, source, target}
use Rattle.streaming.proofs.Source.{copied, source_on, target_on}
use Rattle.lossless.specs.Lossless.{Buffer, Lossless, Kept, Lowest, lowest}
use Rattle.lossless.proofs.Inverse.{source_target}
use Rattle.lossless.proofs.Losing.{never}
use Rattle.lossless.proofs.Least.{Least, is_least}
use Rattle.lossless.proofs.Backward.{by_entry, next_at, reverse_only}

-- ---- two buffers that differ at one index

zeros : ℕ → List ℕ
zeros n = replicate n 0

ones : ℕ → ℕ → List ℕ
ones n j = set (zeros n) j 1

module _ (n : ℕ) where
  zero_at : (k : ℕ) → get_or (zeros n) k 0 ≡ 0
  unfolding zeros
  zero_at k =
      ⊎_elim
      (λ l. get_or-replicate n k 0 0 l)
      (λ l. get_or-eq_default (replicate n 0) 0 (omega (arith, length-replicate {A = ℕ} n 0)))
      (lt_or_ge k n)

  other : (j k : ℕ) → (k ≡ j → ⊥) → get_or (ones n j) k 0 ≡ get_or (zeros n) k 0
  unfolding ones
  other j k d = get_or-set_other (zeros n) j k 1 0 d

  itself : (j : ℕ) → j < n → get_or (ones n j) j 0 ≡ 1
  unfolding ones zeros
  itself j h = get_or-set_same (replicate n 0) j 1 0 (omega (arith, length-replicate {A = ℕ} n 0))

  small : (j k : ℕ) → j < n → Dec (k ≡ j) → get_or (ones n j) k 0 < 2 ^ 64
  small j k h (yes e) = rw e (omega (arith, itself j h))
  small j k h (no d) = omega (arith, other j k d, zero_at k)

module _ (nx ny : ℕ) where
  zeros_buffer : Buffer nx ny (zeros (9 * (nx * ny)))
  unfolding zeros
  zeros_buffer = record { size = length-replicate (9 * (nx * ny)) 0; words = λ k. omega (arith, zero_at (9 * (nx * ny)) k) }

  ones_buffer : (j : ℕ) → j < 9 * (nx * ny) → Buffer nx ny (ones (9 * (nx * ny)) j)
  unfolding ones
  ones_buffer j h =
      record {
        size = length-set (zeros (9 * (nx * ny))) j 1 ∙ zeros_buffer.size;
        words = λ k. small (9 * (nx * ny)) j k h (ℕ_discrete k j);
      }

-- ---- what is lost

module _ (s : Settings) (j : ℕ) (inside : j < 9 * (s.nx * s.ny))
    (unseen : (p q : List ℕ) → ((k : ℕ) → (k ≡ j → ⊥) → get_or p k 0 ≡ get_or q k 0) → next_buffer s p ≡ next_buffer s q) where
  abbrev one : List ℕ
  one = ones (9 * (s.nx * s.ny)) j

  abbrev none : List ℕ
  none = zeros (9 * (s.nx * s.ny))

  same_next : next_buffer s one ≡ next_buffer s none
  same_next = unseen one none (other (9 * (s.nx * s.ny)) j)

  apart : get_or one j 0 ≡ get_or none j 0 → ⊥
  apart e = let z : ◌≡◌ {A = ℕ} 1 0 = sym (itself (9 * (s.nx * s.ny)) j inside) ∙ e ∙ zero_at (9 * (s.nx * s.ny)) j in omega arith

  -- no final entry is a copy of it
  not_kept : Kept s j → ⊥
  not_kept k =
      apart
      (sym (k.copy one (ones_buffer s.nx s.ny j inside))
      ∙ ap (λ (b : List ℕ). get_or b k.final 0) same_next
      ∙ k.copy none (zeros_buffer s.nx s.ny))

  -- and two buffers are streamed to one
  not_lossless : Lossless s → ⊥
  not_lossless w =
      apart (ap (λ (b : List ℕ). get_or b j 0) (w.one one none (ones_buffer s.nx s.ny j inside) (zeros_buffer s.nx s.ny) same_next))

module _ (s : Settings) (calm : driven s ≡ false) where
  place_in : (e : Entry) → On s.nx s.ny e → index_of s.nx s.ny e < 9 * (s.nx * s.ny)
  place_in e on = index_in s.nx s.ny e.x e.y e.i on.x_in on.y_in on.i_in

  -- an entry that is its target's source is kept
  kept : (e : Entry) → On s.nx s.ny e → source s (target s e) ≡ e → Kept s (index_of s.nx s.ny e)
  kept e on back =
      let t = target_on s e on in
      record {
        final = index_of s.nx s.ny (target s e);
        inside = place_in (target s e) t;
        copy = λ post _. next_at s calm post (target s e) t ∙ ap (λ (o : Entry). get_or post (index_of s.nx s.ny o) 0) back;
      }

  -- nothing depends on an entry that is the source of none
  unseen : (e : Entry) → On s.nx s.ny e → ((q : Entry) → On s.nx s.ny q → source s q ≡ e → ⊥)
      → (p q : List ℕ) → ((k : ℕ) → (k ≡ index_of s.nx s.ny e → ⊥) → get_or p k 0 ≡ get_or q k 0) → next_buffer s p ≡ next_buffer s q
  unfolding next_buffer field_of
  unseen e on spared p q agree =
      same_buffer s.nx s.ny _ _
      (by_entry s.nx s.ny _ _
      (λ o there.
      copied s calm (field_of s.nx s.ny p) o
      ∙ agree _ (λ z. spared o there (same (source s o) (source_on s o there) z))
      ∙ sym (copied s calm (field_of s.nx s.ny q) o)))
    where
      same : (a : Entry) → On s.nx s.ny a → index_of s.nx s.ny a ≡ index_of s.nx s.ny e → a ≡ e
      same a w z =
          let r = index_inj s.nx s.ny a.x a.y a.i e.x e.y e.i w.x_in on.x_in w.y_in on.y_in z in
          λ t. entry (r.0 t) (r.1 t) (r.2 t)

  -- ---- THE LOWEST LOST ENTRY

  named : (e : Entry) → Least s e → Lowest s e
  named e m =
      let dark = unseen e m.on (never s e m.gone) in
      record {
        on = m.on;
        lost = not_kept s (index_of s.nx s.ny e) (place_in e m.on) dark;
        unseen = dark;
        least = λ j l.
            let n = s.nx * s.ny in
            let q = place_of_lem s.nx s.ny j (omega (arith, place_in e m.on)) in
            let o = entry (j % n % s.nx) (j % n / s.nx) (j / n) in
            let on : On s.nx s.ny o = record { x_in = q.column; y_in = q.row; i_in = q.direction } in
            subst (Kept s) q.back (kept o on (source_target s o on (m.clear o on (omega (arith, q.back)))));
      }

  pub is_lowest : Grid s.nx s.ny → lossy s ≡ true → Lowest s (lowest s)
  is_lowest g l = named (lowest s) (is_least s g l)

  -- ---- LOSSLESS EXACTLY WHEN

  pub lossless_exactly_when : Grid s.nx s.ny → Lossless s ↔ (lossy s ≡ false)
  lossless_exactly_when g = (λ w. from w (lossy s) refl, to)
    where
      -- each buffer is the reverse of what it is streamed to
      to : lossy s ≡ false → Lossless s
      to l = record { one = λ p q bp bq e. reverse_only s calm l p (next_buffer s q) bp.size e ∙ sym (reverse_only s calm l q (next_buffer s q) bq.size refl) }

      from : Lossless s → (b : Bool) → lossy s ≡ b → lossy s ≡ false
      from w false l = l
      from w true l =
          let m = is_lowest g l in
          absurd (not_lossless s (index_of s.nx s.ny (lowest s)) (place_in (lowest s) m.on) m.unseen w)
