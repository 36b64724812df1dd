-- Sums of finitely many numbers, once: by parts, term by term, in another order, and with one term changed.
use Rattle.std.proofs.Common.{◌≡◌, ◌≤◌, List, length, get_or, take, drop, take_all, length-take-le, length-drop, get_or-take, get_or-drop, ℕ, zero, suc, ◌+◌, ◌-◌, ◌*◌, ◌/◌, ◌^◌, ◌<◌, cond, eqb, sym, refl, ap, ◌∙◌, ap₂, add-zero, add-suc, add_comm, zero-add, zero-mul, add-one, arith, eq-eqb, ne_eqb}
use native.Mathlib.Nat.{mod-add-mod, add-mod-mod, add-mod_right, mod-add-div', add-mul-mod_self_right}
use native.Mathlib.Decide.{ℕ_discrete}
use Rattle.std.specs.List.{fold}
use Rattle.std.proofs.lemmas.List.Sums.{fold_more}
use Rattle.sums.specs.Sums.{sum, wrapped, less, moved_by}

-- ---- term by term

pub sum_cong : (n : ℕ) (g h : ℕ → ℕ) → ((k : ℕ) → k < n → g k ≡ h k) → sum n g ≡ sum n h
unfolding sum
sum_cong zero g h e = refl
sum_cong (suc n) g h e = ap₂ (λ (a b : ℕ). a + b) (sum_cong n g h (λ k l. e k (omega arith))) (e n (omega arith))

pub sum_zero : (n : ℕ) (g : ℕ → ℕ) → ((k : ℕ) → k < n → g k ≡ 0) → sum n g ≡ 0
unfolding sum
sum_zero zero g e = refl
sum_zero (suc n) g e = rw (sum_zero n g (λ k l. e k (omega arith)), e n (omega arith))

pub sum_add : (n : ℕ) (g h : ℕ → ℕ) → sum n (λ k. g k + h k) ≡ sum n g + sum n h
unfolding sum
sum_add zero g h = refl
sum_add (suc n) g h = omega (arith, sum_add n g h)

-- the same terms, and as many
pub same_sum : (m n : ℕ) (g h : ℕ → ℕ) → m ≡ n → ((k : ℕ) → k < n → g k ≡ h k) → sum m g ≡ sum n h
same_sum m n g h size e = rw size (sum_cong n g h e)

-- ---- by parts

pub sum_join : (n m : ℕ) (g : ℕ → ℕ) → sum (n + m) g ≡ sum n g + sum m (λ k. g (n + k))
unfolding sum
sum_join n zero g = rw (add-zero n) (omega arith)
sum_join n (suc m) g = rw (add-suc n m) (omega (arith, sum_join n m g))

-- the sum of m stretches of n is the sum of all
pub stretches : (m n : ℕ) (g : ℕ → ℕ) → sum (m * n) g ≡ sum m (λ i. sum n (λ c. g (c + i * n)))
unfolding sum
stretches zero n g = ap (λ (k : ℕ). sum k g) (zero-mul n)
stretches (suc m) n g =
    let p : suc m * n ≡ m * n + n = omega arith in
    ap (λ (k : ℕ). sum k g) p
    ∙ sum_join (m * n) n g
    ∙ ap₂ (λ (a b : ℕ). a + b) (stretches m n g) (sum_cong n _ _ (λ k h. ap g (add_comm (m * n) k)))

-- ---- in another order

-- a sum of sums, either way round
pub sum_swap : (n m : ℕ) (g : ℕ → ℕ → ℕ) → sum n (λ k. sum m (λ j. g k j)) ≡ sum m (λ j. sum n (λ k. g k j))
unfolding sum
sum_swap zero m g = sym (sum_zero m (λ j. 0) (λ k l. refl))
sum_swap (suc n) m g = rw (sum_swap n m g) (sym (sum_add m (λ j. sum n (λ k. g k j)) (λ j. g n j)))

-- only the term at j
abbrev only : ℕ → (ℕ → ℕ) → ℕ → ℕ
only j g k = cond (eqb j k) (g k) 0

only_at : (j k : ℕ) (g : ℕ → ℕ) → j ≡ k → only j g k ≡ g k
only_at j k g e = rw (eq-eqb j k e)

only_off : (j k : ℕ) (g : ℕ → ℕ) → (j ≡ k → ⊥) → only j g k ≡ 0
only_off j k g e = rw (ne_eqb j k e)

sum_only : (n j : ℕ) (g : ℕ → ℕ) → j < n → sum n (only j g) ≡ g j
unfolding sum
sum_only zero j g h = absurd (omega arith)
sum_only (suc n) j g h = go (sum_only n j g) (ℕ_discrete j n)
  where
    go : (j < n → sum n (only j g) ≡ g j) → Dec (j ≡ n) → sum n (only j g) + only j g n ≡ g j
    go before (yes e) =
        ap₂ (λ (a b : ℕ). a + b) (sum_zero n (only j g) (λ k l. only_off j k g (λ p. omega arith))) (only_at j n g e ∙ ap g (sym e)) ∙ zero-add (g j)
    go before (no d) = ap₂ (λ (a b : ℕ). a + b) (before (omega arith)) (only_off j n g d) ∙ add-zero (g j)

-- two maps of the numbers below n, each the other's inverse there
pub record Inverse (n : ℕ) (p q : ℕ → ℕ) : Type 0 where
  pub p_in : (k : ℕ) → k < n → p k < n
  pub q_in : (k : ℕ) → k < n → q k < n
  pub q_p : (k : ℕ) → k < n → q (p k) ≡ k
  pub p_q : (k : ℕ) → k < n → p (q k) ≡ k

-- A SUM IN ANOTHER ORDER IS THE SAME: the term at j counts once, where k is q j
pub permuted : (n : ℕ) (g p q : ℕ → ℕ) → Inverse n p q → sum n (λ k. g (p k)) ≡ sum n g
permuted n g p q i =
    sum_cong n (λ k. g (p k)) (λ k. sum n (only (p k) g)) (λ k l. sym (sum_only n (p k) g (i.p_in k l)))
    ∙ sum_swap n n (λ k j. only (p k) g j)
    ∙ sum_cong n (λ j. sum n (λ k. only (p k) g j)) g
    (λ j l.
    sum_cong n (λ k. only (p k) g j) (only (q j) (λ k. g j)) (λ k h. turned j k l h (ℕ_discrete (p k) j))
    ∙ sum_only n (q j) (λ k. g j) (i.q_in j l))
  where
    turned : (j k : ℕ) → j < n → k < n → Dec (p k ≡ j) → only (p k) g j ≡ only (q j) (λ k. g j) k
    turned j k hj hk (yes e) = only_at (p k) j g e ∙ sym (only_at (q j) k (λ k. g j) (ap q (sym e) ∙ i.q_p k hk))
    turned j k hj hk (no d) = only_off (p k) j g d ∙ sym (only_off (q j) k (λ k. g j) (λ e. d (ap p (sym e) ∙ i.p_q j hj)))

-- ---- one term changed

-- each sum, and the other's term there
pub sum_changed : (n j : ℕ) (g h : ℕ → ℕ) → j < n → ((k : ℕ) → (k ≡ j → ⊥) → g k ≡ h k) → sum n g + h j ≡ sum n h + g j
unfolding sum
sum_changed zero j g h l e = absurd (omega arith)
sum_changed (suc n) j g h l e = go (λ b. sum_changed n j g h b e) (ℕ_discrete j n)
  where
    go : (j < n → sum n g + h j ≡ sum n h + g j) → Dec (j ≡ n) → sum n g + g n + h j ≡ sum n h + h n + g j
    go before (yes d) = rw d (omega (arith, sum_cong n g h (λ k b. e k (λ p. omega arith))))
    go before (no d) = omega (arith, before (omega arith), e n (λ p. d (sym p)))

-- ---- wrapping

-- wrapping each term changes no wrapped sum
pub wrap_terms : (n : ℕ) (g : ℕ → ℕ) → wrapped (sum n (λ k. wrapped (g k))) ≡ wrapped (sum n g)
unfolding sum
wrap_terms zero g = refl
wrap_terms (suc n) g =
    add-mod-mod (sum n (λ k. wrapped (g k))) (g n) (2 ^ 64)
    ∙ sym (mod-add-mod (sum n (λ k. wrapped (g k))) (2 ^ 64) (g n))
    ∙ ap (λ (a : ℕ). wrapped (a + g n)) (wrap_terms n g)
    ∙ mod-add-mod (sum n g) (2 ^ 64) (g n)

-- a wrapped number moved is that number moved
pub moved_wrapped : (a old new : ℕ) → moved_by old new (wrapped a) ≡ wrapped (a + less new old)
moved_wrapped a old new = mod-add-mod a (2 ^ 64) (less new old)

-- a wrapped sum moved by the new term less the old is the wrapped sum with the term changed
pub moved_sum : (a b old new : ℕ) → old < 2 ^ 64 → b + old ≡ a + new → moved_by old new (wrapped a) ≡ wrapped b
moved_sum a b old new h e =
    let p : a + (new + (2 ^ 64 - old)) ≡ b + 2 ^ 64 = omega arith in
    moved_wrapped a old new ∙ add-mod-mod a (new + (2 ^ 64 - old)) (2 ^ 64) ∙ ap wrapped p ∙ add-mod_right b (2 ^ 64)

-- what is added twice 2 ^ 64 short of wrapping back, and not 0, is 2 ^ 64
once_round : (a d r p q : ℕ) → r + p * 2 ^ 64 ≡ a → r + q * 2 ^ 64 ≡ a + d → 0 < d → d < 2 ^ 65 → d ≡ 2 ^ 64
once_round a d r p q before after some few = omega (arith, before, after)

-- and where that moves nothing, the terms are one
pub moved_none : (a old new : ℕ) → old < 2 ^ 64 → new < 2 ^ 64 → moved_by old new (wrapped a) ≡ wrapped a → old ≡ new
moved_none a old new ho hn e =
    let d = new + (2 ^ 64 - old) in
    let same : wrapped (a + d) ≡ wrapped a = sym (add-mod-mod a d (2 ^ 64)) ∙ sym (moved_wrapped a old new) ∙ e in
    let r = once_round a d (wrapped a) (a / 2 ^ 64) ((a + d) / 2 ^ 64) (mod-add-div' a (2 ^ 64))
    (ap (λ (w : ℕ). w + (a + d) / 2 ^ 64 * 2 ^ 64) (sym same) ∙ mod-add-div' (a + d) (2 ^ 64)) (omega arith) (omega arith) in
    omega (arith, r)

-- where b and c differ as a + d, wrapped, and a do
pub same_wrapped : (b c a d : ℕ) → b + a ≡ c + wrapped (a + d) → wrapped b ≡ wrapped (c + d)
same_wrapped b c a d e =
    let q = (a + d) / 2 ^ 64 in
    let p : b + q * 2 ^ 64 ≡ c + d = omega (arith, e, mod-add-div' (a + d) (2 ^ 64)) in
    sym (add-mul-mod_self_right b q (2 ^ 64)) ∙ ap wrapped p

-- ---- a stretch of a list, folded from the left

-- wrapping each sum on the way changes no wrapped sum
folded : (l : List ℕ) (n : ℕ) → n ≤ length l → fold (λ s x. wrapped (s + x)) 0 (take n l) ≡ wrapped (sum n (λ k. get_or l k 0))
unfolding sum
folded l zero h = refl
folded l (suc n) h =
    rw (
      ← add-one n,
      fold_more (λ s x. wrapped (s + x)) 0 l n 0 (omega arith),
      folded l n (omega arith),
    )
    (mod-add-mod (sum n (λ k. get_or l k 0)) (2 ^ 64) (get_or l n 0))

pub all_folded : (l : List ℕ) → fold (λ s x. wrapped (s + x)) 0 l ≡ wrapped (sum (length l) (λ k. get_or l k 0))
all_folded l = ap (fold (λ s x. wrapped (s + x)) 0) (sym (take_all (length l) l (omega arith))) ∙ folded l (length l) (omega arith)

-- the sum of a slice of n entries of a list, from `from` on
pub sum_part : (l : List ℕ) (from m n : ℕ) → m ≡ n → from + n ≤ length l
    → sum (length (take m (drop from l))) (λ k. get_or (take m (drop from l)) k 0) ≡ sum n (λ k. get_or l (k + from) 0)
sum_part l from m n size h =
    rw size
    (same_sum _ n _ _
    (length-take-le n (drop from l) (omega (arith, length-drop from l)))
    (λ k b. get_or-take n (drop from l) k 0 b ∙ get_or-drop from l k 0 ∙ ap (λ (j : ℕ). get_or l j 0) (add_comm from k)))
