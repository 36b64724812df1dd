-- The arithmetic of one cell, in the order of the Rust: every operation rounded once, zero products kept, sums over i = 0..8 from +0.0.
use Rattle.std.specs.Prelude.{Bool, cond, List, [], ◌∷◌, ℕ, get_or, Float}
use Rattle.std.specs.Float.Ieee.{lt}
use Rattle.number.specs.Number.{◌⊕◌, ◌⊖◌, ◌⊗◌, ◌⊘◌, c0, c½, c1, c1½, c1·54, c1·64, c2, c3, c4½, c8, c9, not_both_zero, magnitude_of}
use Rattle.number.specs.Nine.{at, nine, sum_to}
use Rattle.lattice.specs.Lattice.{ex, ey, W, OPP, basis_floats, norm_floats}
use Rattle.lattice.specs.declared.Axis.{Axis}
use Rattle.lattice.specs.declared.Axis.TheVariants.{X, Y}
use Rattle.cell.specs.declared.Moments.{Moments}
use Rattle.cell.specs.declared.bgk.BgkRates.{BgkRates}
use Rattle.cell.specs.declared.trt.TrtRates.{TrtRates}
use Rattle.cell.specs.declared.mrt.MrtRates.{MrtRates}
use Rattle.cell.specs.declared.Collision.{Collision}
use Rattle.cell.specs.declared.Collision.TheVariants.{Bgk, Mrt, Trt}

-- ---- density and momentum of nine populations

unfoldable pub density_of : List Float → Float
density_of f = sum_to (at f) 9

unfoldable pub sum_of_products : List Float → List Float → Float
sum_of_products a b = sum_to (λ i. at a i ⊗ at b i) 9

unfoldable pub momentum_x : List Float → Float
momentum_x f = sum_to (λ i. at f i ⊗ ex i) 9

unfoldable pub momentum_y : List Float → Float
momentum_y f = sum_to (λ i. at f i ⊗ ey i) 9

abbrev pub momentum : List Float → Axis → Float
momentum f X = momentum_x f
momentum f Y = momentum_y f

-- ---- the two readings, for the force (fx, fy) and the floor: below it a density is too small to divide by

-- what is read of a cell: at rest where the density is below the floor, negative densities included
unfoldable pub read_moments : List Float → Float → Float → Float → Moments
read_moments f fx fy floor =
    let rho = density_of f in
    cond (lt rho floor)
    (record { density = rho; ux = c0; uy = c0 })
    (record { density = rho; ux = (momentum_x f ⊕ c½ ⊗ fx) ⊘ rho; uy = (momentum_y f ⊕ c½ ⊗ fy) ⊘ rho })

-- collision's inverse of the density: 0 only where the magnitude is below the floor
unfoldable pub inverse_of : Float → Float → Float
inverse_of rho floor = cond (lt (magnitude_of rho) floor) c0 (c1 ⊘ rho)

-- what collision works with
unfoldable pub collision_moments : List Float → Float → Float → Float → Moments
collision_moments f fx fy floor =
    let rho = density_of f in
    let inverse = inverse_of rho floor in
    record { density = rho; ux = (momentum_x f ⊕ c½ ⊗ fx) ⊗ inverse; uy = (momentum_y f ⊕ c½ ⊗ fy) ⊗ inverse }

-- ---- equilibrium and Guo's source

-- e_i · (a, b)
unfoldable pub along_at : ℕ → Float → Float → Float
along_at i a b = ex i ⊗ a ⊕ ey i ⊗ b

unfoldable pub equilibrium_at : ℕ → Moments → Float
equilibrium_at i m =
    let eu = along_at i m.ux m.uy in
    let uu = m.ux ⊗ m.ux ⊕ m.uy ⊗ m.uy in
    W i ⊗ m.density ⊗ (c1 ⊕ c3 ⊗ eu ⊕ c4½ ⊗ eu ⊗ eu ⊖ c1½ ⊗ uu)

unfoldable pub equilibria_of : Moments → List Float
equilibria_of m = nine (λ i. equilibrium_at i m)

-- e · F for the nine directions
unfoldable pub along_force : Float → Float → List Float
along_force fx fy = nine (λ i. along_at i fx fy)

-- Guo's source, before its factor
unfoldable pub guo_at : ℕ → Moments → Float → Float → Float
guo_at i m fx fy =
    let eu = along_at i m.ux m.uy in
    let ef = along_at i fx fy in
    W i ⊗ (c3 ⊗ ((ex i ⊖ m.ux) ⊗ fx ⊕ (ey i ⊖ m.uy) ⊗ fy) ⊕ c9 ⊗ eu ⊗ ef)

unfoldable pub guo_sources : Moments → Float → Float → List Float
guo_sources m fx fy = nine (λ i. guo_at i m fx fy)

-- a force component differs from 0
unfoldable pub forced_by : Float → Float → Bool
forced_by fx fy = not_both_zero fx fy

unfoldable pub no_source : List Float
no_source = nine (λ i. c0)

-- nine zeros when both force components equal 0
unfoldable pub sources_of : Moments → Float → Float → List Float
sources_of m fx fy = cond (forced_by fx fy) (guo_sources m fx fy) no_source

-- ---- the rates, which τ fixes for a whole pass

unfoldable pub bgk_rates : Float → BgkRates
bgk_rates tau =
    let omega = c1 ⊘ tau in
    record { omega = omega; pref = c1 ⊖ c½ ⊗ omega }

-- the minus rate of a plus rate and a magic number Λ: 1/(Λ/(1/ω₊ - 0.5) + 0.5)
unfoldable pub trt_omega_minus : Float → Float → Float
trt_omega_minus omega magic = c1 ⊘ (magic ⊘ (c1 ⊘ omega ⊖ c½) ⊕ c½)

-- with the minus rate given
unfoldable pub trt_rates : Float → Float → TrtRates
trt_rates tau rate =
    let omega = c1 ⊘ tau in
    record { omega_p = omega; omega_m = rate; pref_p = c1 ⊖ c½ ⊗ omega; pref_m = c1 ⊖ c½ ⊗ rate }

unfoldable pub mrt_rates : Float → MrtRates
mrt_rates tau =
    let s = c1 ⊘ tau in
    record { s_nu = s; s_q = c8 ⊗ (c2 ⊖ s) ⊘ (c8 ⊖ s) }

-- ---- the three collisions of populations f with their equilibria and sources

unfoldable pub bgk_at : BgkRates → List Float → List Float → List Float → ℕ → Float
bgk_at r f feq src i = at f i ⊖ r.omega ⊗ (at f i ⊖ at feq i) ⊕ r.pref ⊗ at src i

unfoldable pub bgk : BgkRates → List Float → List Float → List Float → List Float
bgk r f feq src = nine (bgk_at r f feq src)

-- first the even and the odd part about the opposite direction are relaxed, each at its own rate
unfoldable pub trt_relaxed_at : TrtRates → List Float → List Float → ℕ → Float
trt_relaxed_at r f feq i =
    let o = OPP i in
    let neq_p = c½ ⊗ ((at f i ⊖ at feq i) ⊕ (at f o ⊖ at feq o)) in
    let neq_m = c½ ⊗ ((at f i ⊖ at feq i) ⊖ (at f o ⊖ at feq o)) in
    at f i ⊖ r.omega_p ⊗ neq_p ⊖ r.omega_m ⊗ neq_m

unfoldable pub trt_relaxed : TrtRates → List Float → List Float → List Float
trt_relaxed r f feq = nine (trt_relaxed_at r f feq)

-- then the even and the odd part of the source are added, each with its own factor
unfoldable pub trt_sourced_at : TrtRates → List Float → List Float → ℕ → Float
trt_sourced_at r kept src i =
    let o = OPP i in
    let src_p = c½ ⊗ (at src i ⊕ at src o) in
    let src_m = c½ ⊗ (at src i ⊖ at src o) in
    at kept i ⊕ r.pref_p ⊗ src_p ⊕ r.pref_m ⊗ src_m

unfoldable pub trt_sourced : TrtRates → List Float → List Float → List Float
trt_sourced r kept src = nine (trt_sourced_at r kept src)

unfoldable pub trt : TrtRates → List Float → List Float → List Float → List Float
trt r f feq src = trt_sourced r (trt_relaxed r f feq) src

-- a moment after collision: a row of M with the populations, relaxed
unfoldable pub relaxed_by : Float → List Float → List Float → List Float → List Float → Float
relaxed_by rate row f feq src =
    let m = sum_of_products row f in
    m ⊖ rate ⊗ (m ⊖ sum_of_products row feq) ⊕ (c1 ⊖ c½ ⊗ rate) ⊗ sum_of_products row src

unfoldable pub moment_rates : MrtRates → List Float
moment_rates r = c0 ∷ c1·64 ∷ c1·54 ∷ c0 ∷ r.s_q ∷ c0 ∷ r.s_q ∷ r.s_nu ∷ r.s_nu ∷ []

-- basis_floats is M, and norm_floats M_NORM
unfoldable pub relaxed_moments : MrtRates → List Float → List Float → List Float → List Float
relaxed_moments r f feq src = nine (λ k. relaxed_by (at (moment_rates r) k) (get_or basis_floats k []) f feq src)

-- entry i of nine moments taken back
unfoldable pub back_at : List (List Float) → List Float → List Float → ℕ → Float
back_at m norms p i = sum_to (λ k. at (get_or m k []) i ⊗ at p k ⊘ at norms k) 9

unfoldable pub mrt : MrtRates → List Float → List Float → List Float → List Float
mrt r f feq src = nine (back_at basis_floats norm_floats (relaxed_moments r f feq src))

-- ---- one cell's collision

-- by any of the three
unfoldable pub cell_by : (List Float → List Float → List Float → List Float) → List Float → Float → Float → Float → List Float
cell_by collide f fx fy floor = let m = collision_moments f fx fy floor in collide f (equilibria_of m) (sources_of m fx fy)

-- by kind
unfoldable pub collided_by : Collision → Float → List Float → List Float → List Float → List Float
collided_by Bgk tau = bgk (bgk_rates tau)
collided_by Mrt tau = mrt (mrt_rates tau)
collided_by (Trt rate) tau = trt (trt_rates tau rate)

unfoldable pub collided : Collision → List Float → Float → Float → Float → Float → List Float
collided k f tau fx fy floor = cell_by (collided_by k tau) f fx fy floor
