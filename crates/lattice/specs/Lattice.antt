-- The lattice D2Q9: the tables E, W, OPP, M and M_NORM, as the source prints them.
use Rattle.std.specs.Prelude.{cond, List, [], ◌∷◌, map, ℕ, zero, suc, eqb, get_or, ℤ, pos, negsuc, ◌+ℤ◌, ◌*ℤ◌, Float}
use Rattle.std.specs.Float.{binary64}
use Rattle.std.specs.Float.Ieee.{of_int}
use Rattle.number.specs.Number.{c1, c4, c9, c36, ◌⊘◌}
use Rattle.number.specs.Nine.{at}
use Rattle.lattice.specs.declared.Axis.{Axis}
use Rattle.lattice.specs.declared.Axis.TheVariants.{X, Y}

-- ---- E, the nine directions

unfoldable pub directions : List (List ℤ)
directions =
    (pos 0 ∷ pos 0 ∷ [])
    ∷ (pos 1 ∷ pos 0 ∷ [])
    ∷ (pos 0 ∷ pos 1 ∷ [])
    ∷ (negsuc 0 ∷ pos 0 ∷ [])
    ∷ (pos 0 ∷ negsuc 0 ∷ [])
    ∷ (pos 1 ∷ pos 1 ∷ [])
    ∷ (negsuc 0 ∷ pos 1 ∷ [])
    ∷ (negsuc 0 ∷ negsuc 0 ∷ [])
    ∷ (pos 1 ∷ negsuc 0 ∷ [])
    ∷ []

-- the component of direction i along an axis
abbrev pub E : ℕ → Axis → ℤ
E i X = get_or (get_or directions i []) 0 (pos 0)
E i Y = get_or (get_or directions i []) 1 (pos 0)

-- the same as f64
abbrev pub e : ℕ → Axis → Float
e i a = of_int binary64 (E i a)

abbrev pub ex : ℕ → Float
ex i = e i X

abbrev pub ey : ℕ → Float
ey i = e i Y

-- ---- W: 4/9, four times 1/9, four times 1/36, each one f64 division

unfoldable pub weights : List Float
weights =
    c4 ⊘ c9 ∷ c1 ⊘ c9 ∷ c1 ⊘ c9 ∷ c1 ⊘ c9 ∷ c1 ⊘ c9 ∷ c1 ⊘ c36 ∷ c1 ⊘ c36 ∷ c1 ⊘ c36 ∷ c1 ⊘ c36 ∷ []

abbrev pub W : ℕ → Float
W i = at weights i

-- ---- OPP, the opposite directions

unfoldable pub opposites : List ℕ
opposites = 0 ∷ 3 ∷ 4 ∷ 1 ∷ 2 ∷ 7 ∷ 8 ∷ 5 ∷ 6 ∷ []

abbrev pub OPP : ℕ → ℕ
OPP i = get_or opposites i 0

-- ---- M and M_NORM, the moments' basis, in whole numbers and as f64

unfoldable pub basis : List (List ℤ)
basis =
    (pos 1 ∷ pos 1 ∷ pos 1 ∷ pos 1 ∷ pos 1 ∷ pos 1 ∷ pos 1 ∷ pos 1 ∷ pos 1 ∷ [])
    ∷ (negsuc 3 ∷ negsuc 0 ∷ negsuc 0 ∷ negsuc 0 ∷ negsuc 0 ∷ pos 2 ∷ pos 2 ∷ pos 2 ∷ pos 2 ∷ [])
    ∷ (pos 4 ∷ negsuc 1 ∷ negsuc 1 ∷ negsuc 1 ∷ negsuc 1 ∷ pos 1 ∷ pos 1 ∷ pos 1 ∷ pos 1 ∷ [])
    ∷ (pos 0 ∷ pos 1 ∷ pos 0 ∷ negsuc 0 ∷ pos 0 ∷ pos 1 ∷ negsuc 0 ∷ negsuc 0 ∷ pos 1 ∷ [])
    ∷ (pos 0 ∷ negsuc 1 ∷ pos 0 ∷ pos 2 ∷ pos 0 ∷ pos 1 ∷ negsuc 0 ∷ negsuc 0 ∷ pos 1 ∷ [])
    ∷ (pos 0 ∷ pos 0 ∷ pos 1 ∷ pos 0 ∷ negsuc 0 ∷ pos 1 ∷ pos 1 ∷ negsuc 0 ∷ negsuc 0 ∷ [])
    ∷ (pos 0 ∷ pos 0 ∷ negsuc 1 ∷ pos 0 ∷ pos 2 ∷ pos 1 ∷ pos 1 ∷ negsuc 0 ∷ negsuc 0 ∷ [])
    ∷ (pos 0 ∷ pos 1 ∷ negsuc 0 ∷ pos 1 ∷ negsuc 0 ∷ pos 0 ∷ pos 0 ∷ pos 0 ∷ pos 0 ∷ [])
    ∷ (pos 0 ∷ pos 0 ∷ pos 0 ∷ pos 0 ∷ pos 0 ∷ pos 1 ∷ negsuc 0 ∷ pos 1 ∷ negsuc 0 ∷ [])
    ∷ []

unfoldable pub norms : List ℤ
norms = pos 9 ∷ pos 36 ∷ pos 36 ∷ pos 6 ∷ pos 12 ∷ pos 6 ∷ pos 12 ∷ pos 4 ∷ pos 4 ∷ []

unfoldable pub basis_floats : List (List Float)
basis_floats = map (map (of_int binary64)) basis

unfoldable pub norm_floats : List Float
norm_floats = map (of_int binary64) norms

abbrev pub M : ℕ → ℕ → Float
M k i = at (get_or basis_floats k []) i

abbrev pub M_NORM : ℕ → Float
M_NORM k = at norm_floats k

-- ---- the rows of M with each other, in whole numbers

-- g 0 + .. + g (n - 1)
unfoldable pub sumℤ : (ℕ → ℤ) → ℕ → ℤ
sumℤ g zero = pos 0
sumℤ g (suc n) = sumℤ g n +ℤ g n

-- row j times row k
unfoldable pub dot : ℕ → ℕ → ℤ
dot j k = sumℤ (λ i. get_or (get_or basis j []) i (pos 0) *ℤ get_or (get_or basis k []) i (pos 0)) 9

-- what it must be: the norm where the rows are one, and 0 elsewhere
unfoldable pub diagonal : ℕ → ℕ → ℤ
diagonal j k = cond (eqb j k) (get_or norms k (pos 0)) (pos 0)
