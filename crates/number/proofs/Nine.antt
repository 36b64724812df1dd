-- What holds of each of nine, and what a loop that sums keeps, once for every such loop.
use mathlib.Core.Path.{◌≡◌, refl, sym, ap, ◌∙◌}
use mathlib.Core.List.{List, [], ◌∷◌}
use Prim.Native.Nat.{ℕ, zero, suc, ◌+◌, ◌≤◌, ◌<◌}
use native.Mathlib.Numerals.{add-one}
use native.Mathlib.Omega.{arith}
use lib.ListN.{get_or}
use lib.Ieee.{Float}
use Rattle.number.specs.Number.{c0, ◌⊕◌}
use Rattle.number.specs.Nine.{nine, sum_to}

-- ---- what holds of each of nine

past : (k : ℕ) → suc (suc (suc (suc (suc (suc (suc (suc (suc k)))))))) < 9 → ⊥
past k h = omega arith

-- what holds at 0, .., 8 holds below nine
pub for_nine : (P : ℕ → Type 0) → P 0 → P 1 → P 2 → P 3 → P 4 → P 5 → P 6 → P 7 → P 8 → (k : ℕ) → k < 9 → P k
for_nine P a b c d e f g h i zero l = a
for_nine P a b c d e f g h i (suc zero) l = b
for_nine P a b c d e f g h i (suc (suc zero)) l = c
for_nine P a b c d e f g h i (suc (suc (suc zero))) l = d
for_nine P a b c d e f g h i (suc (suc (suc (suc zero)))) l = e
for_nine P a b c d e f g h i (suc (suc (suc (suc (suc zero))))) l = f
for_nine P a b c d e f g h i (suc (suc (suc (suc (suc (suc zero)))))) l = g
for_nine P a b c d e f g h i (suc (suc (suc (suc (suc (suc (suc zero))))))) l = h
for_nine P a b c d e f g h i (suc (suc (suc (suc (suc (suc (suc (suc zero)))))))) l = i
for_nine P a b c d e f g h i (suc (suc (suc (suc (suc (suc (suc (suc (suc k))))))))) l = absurd (past k l)

-- entry k of g's nine is g k
pub at_nine : {A : Type 0} (g : ℕ → A) (d : A) (k : ℕ) → k < 9 → get_or (nine g) k d ≡ g k
at_nine g d = for_nine (λ k. get_or (nine g) k d ≡ g k) refl refl refl refl refl refl refl refl refl

-- two lists of nine that antt computes to be one agree at each entry
pub all_nine : {A : Type 0} (g h : ℕ → A) → nine g ≡ nine h → (k : ℕ) → k < 9 → g k ≡ h k
all_nine {A} g h e k b = sym (at_nine g (g 0) k b) ∙ ap (λ (l : List A). get_or l k (g 0)) e ∙ at_nine h (g 0) k b

-- nine values, each g's at its place
pub nine_of : (g : ℕ → Float) {a b c d e f h i j : Float} → a ≡ g 0 → b ≡ g 1 → c ≡ g 2 → d ≡ g 3 → e ≡ g 4 → f ≡ g 5 → h ≡ g 6 → i ≡ g 7 → j ≡ g 8
    → (a ∷ b ∷ c ∷ d ∷ e ∷ f ∷ h ∷ i ∷ j ∷ []) ≡ nine g
nine_of g p0 p1 p2 p3 p4 p5 p6 p7 p8 = λ x. p0 x ∷ p1 x ∷ p2 x ∷ p3 x ∷ p4 x ∷ p5 x ∷ p6 x ∷ p7 x ∷ p8 x ∷ []

-- ---- a sum

-- the sum of what stands below i, of n in all
pub record Summed (g : ℕ → Float) (n : ℕ) (s : Float) (i : ℕ) : Type 0 where
  pub low : i ≤ n
  pub sum : s ≡ sum_to g i

pub sum_none : (g : ℕ → Float) (n : ℕ) → Summed g n c0 0
unfolding sum_to
sum_none g n = record { low = omega arith; sum = refl }

pub sum_more : (g : ℕ → Float) (n : ℕ) (s : Float) (i : ℕ) (v : Float) → i < n → Summed g n s i → v ≡ g i → Summed g n (s ⊕ v) (i + 1)
unfolding sum_to
sum_more g n s i v h f e = record { low = omega arith; sum = rw (add-one, f.sum, e) }

pub sum_all : (g : ℕ → Float) (n : ℕ) (s : Float) (i : ℕ) → n ≤ i → Summed g n s i → s ≡ sum_to g n
sum_all g n s i h f = let l = f.low in let e : i ≡ n = omega arith in f.sum ∙ ap (sum_to g) e
