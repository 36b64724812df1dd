-- The marked cases C1 to C11 as one table, in the rules' order and words: what the definitions give, and what is said of it.
use Rattle.std.specs.Prelude.{List, [], ◌∷◌, ◌++◌, map, ℕ, Float, set}
use Rattle.number.specs.Number.{value_of, pattern_of, c0, c½, c1, c2}
use Rattle.number.specs.Nine.{at, nine}
use Rattle.grid.specs.Grid.{Field, index}
use Rattle.cell.specs.Cell.{read_moments, inverse_of, no_source, bgk_rates, trt_rates, bgk, trt}
use Rattle.settings.specs.declared.Face.TheVariants.{Periodic, NoSlip, Symmetry}
use Rattle.settings.specs.declared.Settings.{Settings}
use Rattle.streaming.specs.Streaming.{next}
use Rattle.lossless.specs.Lossless.{faced, lossless_of, values_of}

-- ---- grids

-- the post-collision field of 3 by 2 whose entries are their indices
abbrev pub numbered : Field
numbered = index 3 2

-- what arrives at (x, y, i) then
abbrev pub arrives : Settings → ℕ → ℕ → ℕ → ℕ
arrives s x y i = next s numbered x y i

-- 1 if lossless, else 0 and x, y, i
abbrev pub question : Settings → List ℕ
question s = values_of (lossless_of s)

-- ---- cells

-- v at i, and zeros
unfoldable pub only : ℕ → Float → List Float
only i v = set (nine (λ k. c0)) i v

abbrev pub c_1 : Float
c_1 = value_of 0xbff0_0000_0000_0000

-- the floor 1e-12
abbrev pub c1e_12 : Float
c1e_12 = value_of 0x3d71_9799_812d_ea11

abbrev pub c¼ : Float
c¼ = value_of 0x3fd0_0000_0000_0000

-- numbers stand in the table as their patterns
abbrev pub patterns : List Float → List ℕ
patterns l = map pattern_of l

-- ---- THE TABLE

pub record Case : Type 0 where
  pub given : List ℕ
  pub said : List ℕ

infix 75 ◌is◌
abbrev ◌is◌ : List ℕ → List ℕ → Case
given is said = record { given = given; said = said }

unfoldable pub table : List Case
table =
    -- C1 all periodic: entry (2,1,5), index 35, goes to (0,0,5), index 30
    (let s = faced 3 2 Periodic Periodic Periodic Periodic in
    (arrives s 0 0 5 ∷ numbered 2 1 5 ∷ numbered 0 0 5 ∷ []) is (35 ∷ 35 ∷ 30 ∷ []))
    -- C2 all NoSlip: it goes to (2,1,7), index 47
    ∷ (let s = faced 3 2 NoSlip NoSlip NoSlip NoSlip in
    (arrives s 2 1 7 ∷ numbered 2 1 7 ∷ []) is (35 ∷ 47 ∷ []))
    -- C3 x Symmetry, y periodic: it goes to (2,1,6), index 41
    ∷ (let s = faced 3 2 Symmetry Symmetry Periodic Periodic in
    (arrives s 2 1 6 ∷ numbered 2 1 6 ∷ []) is (35 ∷ 41 ∷ []))
    -- C4 x Symmetry, y NoSlip: lossy at (2,0,5), index 32. Entry (0,0,7) is copied to both (0,0,5) and (0,0,8)
    ∷ (let s = faced 3 2 Symmetry Symmetry NoSlip NoSlip in
    (question s ++ (numbered 2 0 5 ∷ arrives s 0 0 5 ∷ arrives s 0 0 8 ∷ []))
    is (0 ∷ 2 ∷ 0 ∷ 5 ∷ 32 ∷ numbered 0 0 7 ∷ numbered 0 0 7 ∷ []))
    -- C5 x NoSlip, y Symmetry: lossless
    ∷ question (faced 3 2 NoSlip NoSlip Symmetry Symmetry) is (1 ∷ 0 ∷ 0 ∷ 0 ∷ [])
    -- C6 as C4 on 3 by 1: lossless
    ∷ question (faced 3 1 Symmetry Symmetry NoSlip NoSlip) is (1 ∷ 0 ∷ 0 ∷ 0 ∷ [])
    -- C7 x min NoSlip, x max Periodic, y Periodic: lossy at (2,0,1), index 8
    ∷ (question (faced 3 2 NoSlip Periodic Periodic Periodic) ++ (numbered 2 0 1 ∷ [])) is (0 ∷ 2 ∷ 0 ∷ 1 ∷ 8 ∷ [])
    -- C8 only population 1 is 1.0, no force: ρ 1, velocity (1, 0)
    ∷ (let m = read_moments (only 1 c1) c0 c0 c1e_12 in
    patterns (m.density ∷ m.ux ∷ m.uy ∷ []) is patterns (c1 ∷ c1 ∷ c0 ∷ []))
    -- C9 only population 0 is -1.0: velocity (0, 0), collision's inverse is -1
    ∷ (let m = read_moments (only 0 c_1) c0 c0 c1e_12 in
    patterns (m.ux ∷ m.uy ∷ inverse_of m.density c1e_12 ∷ []) is patterns (c0 ∷ c0 ∷ c_1 ∷ []))
    -- C10 BGK, τ 2, f 1, equilibrium 0, source 0: 0.5
    ∷ patterns (bgk (bgk_rates c2) (nine (λ i. c1)) (nine (λ i. c0)) no_source) is patterns (nine (λ i. c½))
    -- C11 TRT, τ 2, minus rate 1, f1 = 1, all else 0: entries 1 and 3 both become 0.25
    ∷ (let f = trt (trt_rates c2 c1) (only 1 c1) (nine (λ i. c0)) no_source in
    patterns (at f 1 ∷ at f 3 ∷ []) is patterns (c¼ ∷ c¼ ∷ []))
    ∷ []

abbrev pub given : List (List ℕ)
given = map (λ c. c.given) table

abbrev pub said : List (List ℕ)
said = map (λ c. c.said) table
