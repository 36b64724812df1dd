-- One cell: exchanges of two entries, one after the other, and that the four of `swap` are the opposites.
use mathlib.Core.Path.{◌≡◌, refl, ap, ◌∙◌}
use mathlib.Core.Bool.{Bool, true, false, cond}
use mathlib.Core.List.{List}
use Prim.Native.Nat.{ℕ, ◌+◌, ◌*◌, ◌<◌}
use native.Mathlib.Omega.{arith}
use lib.Dec.{eqb}
use lib.ListN.{length, get_or}
use Rattle.std.specs.List.{swap}
use Rattle.std.proofs.lemmas.List.Edits.{Swapped, swapped_from_swap, length-swap}
use borrow.Author.Tests.{eqb-true, eqb-false}
use Rattle.number.specs.Nine.{nine}
use Rattle.number.proofs.Nine.{all_nine}
use Rattle.lattice.specs.Lattice.{opposites, OPP}
use Rattle.grid.specs.Grid.{Holds}
use Rattle.grid.specs.Writes.{Put}
use Rattle.grid.proofs.Radix.{cell_in, low_inj, high_inj}

-- directions i and k are exchanged
unfoldable pub exchanged : ℕ → ℕ → ℕ → ℕ
exchanged i k j = cond (eqb j i) k (cond (eqb j k) i j)

module _ (d : List ℕ) (n c : ℕ) (h : Holds d n c) where
  module _ (i k : ℕ) (l : i < k) (hk : k < 9) where
    abbrev a : ℕ
    a = c + i * n

    abbrev b : ℕ
    b = c + k * n

    apart : (i' k' : ℕ) → (i' ≡ k' → ⊥) → c + i' * n ≡ c + k' * n → ⊥
    apart i' k' ne e = ne (high_inj n c i' c k' h.cell h.cell e)

    within : (j : ℕ) → j < 9 → c + j * n < length d
    within j hj = omega (arith, cell_in n c j h.cell hj, h.size)

    entry : (e : List ℕ) → Swapped (λ m. get_or d m 0) (λ m. get_or e m 0) a b → (j : ℕ) (p q : Bool) → eqb j i ≡ p → eqb j k ≡ q
        → get_or e (c + j * n) 0 ≡ get_or d (c + exchanged i k j * n) 0
    unfolding exchanged
    entry e w j true q x y = rw (x, eqb-true j i x) w.0
    entry e w j false true x y = rw (x, y, eqb-true j k y) w.1
    entry e w j false false x y = rw (x, y) (w.2 (c + j * n) (apart j i (eqb-false j i x)) (apart j k (eqb-false j k y)))

    -- by the code `f.swap(a, b)`
    put_swap : {e : List ℕ} → e ≡ swap d a b → Put d e n c (λ j. get_or d (c + exchanged i k j * n) 0)
    put_swap {e} q =
        let w = swapped_from_swap d e a b 0 (within i (omega arith)) (within k hk) q in
        record {
          size = ap length q ∙ length-swap d a b;
          written = λ j _. entry e w j (eqb j i) (eqb j k) refl refl;
          others = λ b' j lb ne. w.2 (b' + j * n) (λ x. ne (low_inj n b' j c i lb h.cell x)) (λ x. ne (low_inj n b' j c k lb h.cell x));
        }

  holds_put : {e : List ℕ} {v : ℕ → ℕ} → Put d e n c v → Holds e n c
  holds_put p = record { few = h.few; cell = h.cell; size = p.size ∙ h.size }

-- one rearrangement after the other
put_put : (d e g : List ℕ) (n c : ℕ) (s t : ℕ → ℕ) → ((j : ℕ) → j < 9 → t j < 9)
    → Put d e n c (λ j. get_or d (c + s j * n) 0) → Put e g n c (λ j. get_or e (c + t j * n) 0) → Put d g n c (λ j. get_or d (c + s (t j) * n) 0)
put_put d e g n c s t small p q = record {
  size = q.size ∙ p.size;
  written = λ j hj. q.written j hj ∙ p.written (t j) (small j hj);
  others = λ b j l ne. q.others b j l ne ∙ p.others b j l ne;
}

-- an exchange of directions gives directions
small_by : (i k j : ℕ) → i < 9 → k < 9 → j < 9 → (p q : Bool) → eqb j i ≡ p → eqb j k ≡ q → exchanged i k j < 9
unfolding exchanged
small_by i k j hi hk hj true q e e' = rw e hk
small_by i k j hi hk hj false true e e' = rw (e, e') hi
small_by i k j hi hk hj false false e e' = rw (e, e') hj

small : (i k : ℕ) → i < 9 → k < 9 → (j : ℕ) → j < 9 → exchanged i k j < 9
small i k hi hk j hj = small_by i k j hi hk hj (eqb j i) (eqb j k) refl refl

-- the four exchanges of opposite directions
four_table : nine (λ j. exchanged 1 3 (exchanged 2 4 (exchanged 5 7 (exchanged 6 8 j)))) ≡ nine (λ j. OPP j)
unfolding exchanged opposites
four_table = refl

pub put_four : (d e1 e2 e3 e4 : List ℕ) (n c : ℕ)
    → Put d e1 n c (λ j. get_or d (c + exchanged 1 3 j * n) 0)
    → Put e1 e2 n c (λ j. get_or e1 (c + exchanged 2 4 j * n) 0)
    → Put e2 e3 n c (λ j. get_or e2 (c + exchanged 5 7 j * n) 0)
    → Put e3 e4 n c (λ j. get_or e3 (c + exchanged 6 8 j * n) 0)
    → Put d e4 n c (λ i. get_or d (c + OPP i * n) 0)
put_four d e1 e2 e3 e4 n c p1 p2 p3 p4 =
    let s2 = small 2 4 (omega arith) (omega arith) in
    let s3 = small 5 7 (omega arith) (omega arith) in
    let s4 = small 6 8 (omega arith) (omega arith) in
    let q2 = put_put d e1 e2 n c (exchanged 1 3) (exchanged 2 4) s2 p1 p2 in
    let q3 = put_put d e2 e3 n c (λ j. exchanged 1 3 (exchanged 2 4 j)) (exchanged 5 7) s3 q2 p3 in
    let q4 = put_put d e3 e4 n c (λ j. exchanged 1 3 (exchanged 2 4 (exchanged 5 7 j))) (exchanged 6 8) s4 q3 p4 in
    record {
      size = q4.size;
      written = λ j hj.
          q4.written j hj
          ∙ ap (λ (k : ℕ). get_or d (c + k * n) 0)
          (all_nine (λ i. exchanged 1 3 (exchanged 2 4 (exchanged 5 7 (exchanged 6 8 i)))) (λ i. OPP i) four_table j hj);
      others = q4.others;
    }

-- by the code's four swaps
pub swapped : (d : List ℕ) (n c : ℕ) {e1 e2 e3 e4 : List ℕ} → Holds d n c
    → e1 ≡ swap d (c + n) (c + 3 * n) → e2 ≡ swap e1 (c + 2 * n) (c + 4 * n)
    → e3 ≡ swap e2 (c + 5 * n) (c + 7 * n) → e4 ≡ swap e3 (c + 6 * n) (c + 8 * n)
    → Put d e4 n c (λ i. get_or d (c + OPP i * n) 0)
swapped d n c {e1} {e2} {e3} {e4} h q1 q2 q3 q4 =
    let one : n ≡ 1 * n = omega arith in
    let p1 = put_swap d n c h 1 3 (omega arith) (omega arith) (q1 ∙ ap (λ (m : ℕ). swap d (c + m) (c + 3 * n)) one) in
    let h1 = holds_put d n c h p1 in
    let p2 = put_swap e1 n c h1 2 4 (omega arith) (omega arith) q2 in
    let h2 = holds_put e1 n c h1 p2 in
    let p3 = put_swap e2 n c h2 5 7 (omega arith) (omega arith) q3 in
    let p4 = put_swap e3 n c (holds_put e2 n c h2 p3) 6 8 (omega arith) (omega arith) q4 in
    put_four d e1 e2 e3 e4 n c p1 p2 p3 p4
