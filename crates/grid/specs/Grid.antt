-- A grid, where its entries stand in a lent buffer, and the fields that buffers hold.
use Rattle.std.specs.Prelude.{◌≡◌, List, [], ◌∷◌, ℕ, zero, suc, ◌+◌, ◌*◌, ◌/◌, ◌%◌, ◌≤◌, ◌<◌, length, get_or, Float}
use Rattle.number.specs.Number.{value_of}
use Rattle.number.specs.Nine.{nine}

-- ---- the limits: each stands here alone

abbrev pub most_side : ℕ
most_side = 4096

abbrev pub most_cells : ℕ
most_cells = 1048576

-- both sides are 1 to most_side, and there are at most most_cells cells
pub record Grid (nx ny : ℕ) : Type 0 where
  pub x_some : 1 ≤ nx
  pub x_most : nx ≤ most_side
  pub y_some : 1 ≤ ny
  pub y_most : ny ≤ most_side
  pub few : nx * ny ≤ most_cells

-- ---- entries

-- entry (x, y, i) stands here
abbrev pub index : ℕ → ℕ → ℕ → ℕ → ℕ → ℕ
index nx ny x y i = x + y * nx + i * (nx * ny)

-- ---- fields and buffers

-- a field: x y i ↦ the pattern of 64 bits there
abbrev pub Field : Type 0
Field = ℕ → ℕ → ℕ → ℕ

-- the field that a buffer holds
unfoldable pub field_of : ℕ → ℕ → List ℕ → Field
field_of nx ny b x y i = get_or b (index nx ny x y i) 0

-- the n numbers g 0, g 1, ..
unfoldable pub listed : ℕ → (ℕ → ℕ) → List ℕ
listed zero g = []
listed (suc n) g = g 0 ∷ listed n (λ (k : ℕ). g (suc k))

-- the buffer that holds a field
unfoldable pub buffer_of : ℕ → ℕ → Field → List ℕ
buffer_of nx ny p = listed (9 * (nx * ny)) (λ k. p (k % (nx * ny) % nx) (k % (nx * ny) / nx) (k / (nx * ny)))

-- two fields agree on the grid
pub record Same (nx ny : ℕ) (p q : Field) : Type 0 where
  pub here : (x y i : ℕ) → x < nx → y < ny → i < 9 → p x y i ≡ q x y i

-- ---- cells: entry i of cell c of n, c = x + y·nx, stands at c + i·n

-- the nine populations of cell c of n
unfoldable pub cell_of : List ℕ → ℕ → ℕ → List Float
cell_of b n c = nine (λ i. value_of (get_or b (c + i * n) 0))

-- a buffer of n cells, of which c is one
pub record Holds (b : List ℕ) (n c : ℕ) : Type 0 where
  pub few : n ≤ most_cells
  pub cell : c < n
  pub size : length b ≡ 9 * n
