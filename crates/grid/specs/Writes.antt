-- What a function that writes into a lent buffer leaves: the new values, and all else as it was.
use Rattle.std.specs.Prelude.{◌≡◌, List, ℕ, ◌+◌, ◌*◌, ◌≤◌, ◌<◌, length, get_or}

-- a stretch: e is d with v 0 .. v (n - 1) at lo .. lo + n - 1, and all else as it was
pub record Wrote (d e : List ℕ) (lo n : ℕ) (v : ℕ → ℕ) : Type 0 where
  pub size : length e ≡ length d
  pub inside : (k : ℕ) → k < n → get_or e (lo + k) 0 ≡ v k
  pub below : (j : ℕ) → j < lo → get_or e j 0 ≡ get_or d j 0
  pub above : (j : ℕ) → lo + n ≤ j → get_or e j 0 ≡ get_or d j 0

-- one cell: of a grid of n cells, e is d with v i as entry i of cell c, and the other cells as they were
pub record Put (d e : List ℕ) (n c : ℕ) (v : ℕ → ℕ) : Type 0 where
  pub size : length e ≡ length d
  pub written : (i : ℕ) → i < 9 → get_or e (c + i * n) 0 ≡ v i
  pub others : (b i : ℕ) → b < n → (b ≡ c → ⊥) → get_or e (b + i * n) 0 ≡ get_or d (b + i * n) 0

-- cells: of a grid of n cells, e is d with v c i as entry i of each cell c below k, and the other cells as they were
pub record Cells (d e : List ℕ) (n k : ℕ) (v : ℕ → ℕ → ℕ) : Type 0 where
  pub size : length e ≡ length d
  pub written : (c i : ℕ) → c < k → i < 9 → get_or e (c + i * n) 0 ≡ v c i
  pub left : (c i : ℕ) → k ≤ c → c < n → get_or e (c + i * n) 0 ≡ get_or d (c + i * n) 0
