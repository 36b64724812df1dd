-- Where the faces are lossy, the entry that `lowest` names is gone, and every entry with a smaller index is clear.
use mathlib.Core.Path.{◌≡◌, refl, sym, ap, ◌∙◌, subst}
use mathlib.Core.Bool.{Bool, true, false, cond, ◌||◌, true≢false, false≢true}
use mathlib.Core.Logic.{◌⊎◌, inl, inr, ⊎_elim}
use Prim.Native.Nat.{ℕ, suc, ◌+◌, ◌-◌, ◌*◌, ◌≤◌, ◌<◌}
use native.Mathlib.Nat.{mul-le-mul_right}
use native.Mathlib.Omega.{arith}
use borrow.Author.Tests.{eq-eqb, ne_eqb}
use Rattle.number.proofs.Nine.{for_nine}
use Rattle.lattice.specs.declared.Axis.{Axis}
use Rattle.lattice.specs.declared.Axis.TheVariants.{X, Y}
use Rattle.lattice.specs.Lattice.{directions}
use Rattle.grid.specs.Grid.{Grid}
use Rattle.grid.proofs.Radix.{lt_or_ge, within}
use Rattle.settings.specs.declared.Settings.{Settings}
use Rattle.settings.specs.Tests.{face_of, is_periodic, is_symmetry, lossy}
use Rattle.streaming.specs.Travel.{Step, stay, up, down, part, against}
use Rattle.lattice.specs.declared.Side.TheVariants.{Max}
use Rattle.streaming.specs.Faces.{on_face}
use Rattle.streaming.specs.Source.{Entry, entry, On, index_of, enters, leaves}
use Rattle.lossless.specs.Lossless.{strays, lowest}
use Rattle.lossless.proofs.Ends.{strayed, hides, passes_up}
use Rattle.lossless.proofs.Turns.{met, enters_by, leaves_by, arrives_by}
use Rattle.lossless.proofs.Inverse.{Clear}
use Rattle.lossless.proofs.Losing.{Gone, clear, gone_x, gone_y, gone_corner}
use Rattle.lossless.proofs.Criterion.{Corners, corners}

pub record Least (s : Settings) (e : Entry) : Type 0 where
  pub on : On s.nx s.ny e
  pub gone : Gone s e
  pub clear : (p : Entry) → On s.nx s.ny p → index_of s.nx s.ny p < index_of s.nx s.ny e → Clear s p

-- a smaller index: an earlier direction, or the same direction and an earlier cell
earlier : (n a b c d : ℕ) → c < n → a + b * n < c + d * n → (b < d) ⊎ ((b ≡ d) × (a < c))
earlier n a b c d h l =
    ⊎_elim
    (λ p. inl p)
    (λ p. ⊎_elim
    (λ q. absurd (omega (arith, mul-le-mul_right n q)))
    (λ q. let e : b ≡ d = omega arith in inr (e, omega (arith, ap (λ (j : ℕ). j * n) e)))
    (lt_or_ge d b))
    (lt_or_ge b d)

or_first : (a b : Bool) → (a || b) ≡ true → b ≡ false → a ≡ true
or_first true b p q = refl
or_first false b p q = absurd (true≢false (sym p ∙ q))

module _ (s : Settings) where
  spot : (x y i : ℕ) → x < s.nx → y < s.ny → i < 9 → On s.nx s.ny (entry x y i)
  spot x y i hx hy hi = record { x_in = hx; y_in = hy; i_in = hi }

  -- gone, with earlier directions clear, and earlier cells of its direction
  build : (e : Entry) → On s.nx s.ny e → Gone s e
      → ((p : Entry) → On s.nx s.ny p → p.i < e.i → Clear s p)
      → ((x y : ℕ) → On s.nx s.ny (entry x y e.i) → x + y * s.nx < e.x + e.y * s.nx → Clear s (entry x y e.i))
      → Least s e
  build e on g before same =
      record {
        on = on;
        gone = g;
        clear = λ p q l.
            ⊎_elim
            (λ h. before p q h)
            (λ h.
            subst (λ (j : ℕ). Clear s (entry p.x p.y j)) (sym h.0)
            (same p.x p.y (spot p.x p.y e.i q.x_in q.y_in on.i_in) h.1))
            (earlier (s.nx * s.ny) (p.x + p.y * s.nx) p.i (e.x + e.y * s.nx) e.i
            (within e.x e.y s.nx s.ny on.x_in on.y_in)
            l);
      }

  -- ---- directions along one axis, or at rest

  -- what strays in the directions 1 to 4
  abbrev x_up : Bool
  x_up = strays s.x_min s.x_max

  abbrev y_up : Bool
  y_up = strays s.y_min s.y_max

  abbrev x_down : Bool
  x_down = strays s.x_max s.x_min

  abbrev y_down : Bool
  y_down = strays s.y_max s.y_min

  -- what rests along one axis is not turned back at a corner
  at_rest : (e : Entry) → On s.nx s.ny e → (part X e.i ≡ stay) ⊎ (part Y e.i ≡ stay) → is_symmetry (leaves s X e) ≡ true → is_periodic (enters s Y e) ≡ true
  at_rest e on (inl z) q = absurd (false≢true (sym (ap is_symmetry (leaves_by s e on X ∙ ap (λ (c : Step). met s X e (against c)) z)) ∙ q))
  at_rest e on (inr z) q = ap is_periodic (enters_by s Y e ∙ ap (met s Y e) z)

  -- the first five directions
  first_five : (i : ℕ) → i < 9 → i < 5 → (part X i ≡ stay) ⊎ (part Y i ≡ stay)
  unfolding directions
  first_five =
      for_nine (λ i. i < 5 → (part X i ≡ stay) ⊎ (part Y i ≡ stay))
      (λ _. inl refl) (λ _. inr refl) (λ _. inl refl) (λ _. inr refl) (λ _. inl refl)
      (λ h. absurd (omega arith)) (λ h. absurd (omega arith)) (λ h. absurd (omega arith)) (λ h. absurd (omega arith))

  -- no direction below m strays
  record Quiet (m : ℕ) : Type 0 where
    few : m ≤ 5
    steady : (i : ℕ) → i < m → (a : Axis) → strayed (face_of s a) (part a i) ≡ false

  more : (m : ℕ) → m < 5 → Quiet m → ((a : Axis) → strayed (face_of s a) (part a m) ≡ false) → Quiet (suc m)
  more m l q h =
      record {
        few = l;
        steady = λ i b.
            ⊎_elim
            (λ c. q.steady i c)
            (λ c. let e : m ≡ i = omega arith in subst (λ (j : ℕ). (a : Axis) → strayed (face_of s a) (part a j) ≡ false) e h)
            (lt_or_ge i m);
      }

  early : (m : ℕ) → Quiet m → (e : Entry) → On s.nx s.ny e → e.i < m → Clear s e
  early m q e on h = let l = q.few in clear s e on (q.steady e.i h) (λ _. at_rest e on (first_five e.i on.i_in (omega arith)))

  module _ (g : Grid s.nx s.ny) where
    at_1 : Quiet 1 → x_up ≡ true → Least s (entry (s.nx - 1) 0 1)
    unfolding directions
    at_1 u h =
        let e = entry (s.nx - 1) 0 1 in
        let on = spot (s.nx - 1) 0 1 (omega arith) g.y_some (omega arith) in
        build e on
        (gone_x s e on refl h (eq-eqb (s.nx - 1 + 1) s.nx (omega arith)))
        (early 1 u)
        (λ x y q l.
        record {
          x_clear = λ _. ap is_periodic (arrives_by s (entry x y 1) q X) ∙ passes_up (face_of s X) s.nx x q.x_in (omega arith);
          y_clear = λ _. ap is_periodic (arrives_by s (entry x y 1) q Y);
          corner = λ _. at_rest (entry x y 1) q (inr refl);
        })

    at-2 : Quiet 2 → y_up ≡ true → Least s (entry 0 (s.ny - 1) 2)
    unfolding directions
    at-2 u h =
        let e = entry 0 (s.ny - 1) 2 in
        let on = spot 0 (s.ny - 1) 2 g.x_some (omega arith) (omega arith) in
        build e on
        (gone_y s e on refl h (eq-eqb (s.ny - 1 + 1) s.ny (omega arith)))
        (early 2 u)
        (λ x y q l.
        let end : y + 1 < s.ny =
        ⊎_elim
        (λ h. h)
        (λ h. let m : s.ny - 1 ≤ y = omega arith in absurd (omega (arith, mul-le-mul_right s.nx m)))
        (lt_or_ge (y + 1) s.ny) in
        record {
          x_clear = λ _. ap is_periodic (arrives_by s (entry x y 2) q X);
          y_clear = λ _. ap is_periodic (arrives_by s (entry x y 2) q Y) ∙ passes_up (face_of s Y) s.ny y q.y_in end;
          corner = λ _. at_rest (entry x y 2) q (inl refl);
        })

    at-3 : Quiet 3 → x_down ≡ true → Least s (entry 0 0 3)
    unfolding directions
    at-3 u h =
        let on = spot 0 0 3 g.x_some g.y_some (omega arith) in
        build (entry 0 0 3) on (gone_x s (entry 0 0 3) on refl h refl) (early 3 u) (λ x y q l. absurd (omega arith))

    at-4 : Quiet 4 → y_down ≡ true → Least s (entry 0 0 4)
    unfolding directions
    at-4 u h =
        let on = spot 0 0 4 g.x_some g.y_some (omega arith) in
        build (entry 0 0 4) on (gone_y s (entry 0 0 4) on refl h refl) (early 4 u) (λ x y q l. absurd (omega arith))

    -- ---- corners, where nothing strays

    module _ (steady : (a : Axis) (c : Step) → strayed (face_of s a) c ≡ false) (l : lossy s ≡ true) where
      abbrev at-corner : Corners s
      at-corner = corners s l steady

      quiet-5 : Quiet 5
      quiet-5 = record { few = omega arith; steady = λ i _ a. steady a (part a i) }

      unmirrored : (e : Entry) → On s.nx s.ny e → is_symmetry (leaves s X e) ≡ false → Clear s e
      unmirrored e on h = clear s e on (λ a. steady a (part a e.i)) (λ _ q. absurd (true≢false (sym q ∙ h)))

      at_5 : is_symmetry s.x_max ≡ true → Least s (entry (s.nx - 1) 0 5)
      unfolding directions
      at_5 h =
          let e = entry (s.nx - 1) 0 5 in
          let on = spot (s.nx - 1) 0 5 (omega arith) g.y_some (omega arith) in
          let end = eq-eqb (s.nx - 1 + 1) s.nx (omega arith) in
          build e on
          (gone_corner s e on refl refl at-corner.two at-corner.wall (steady X down) (ap is_symmetry (leaves_by s e on X) ∙ rw end h))
          (early 5 quiet-5)
          (λ x y q l. unmirrored (entry x y 5) q (ap is_symmetry (leaves_by s (entry x y 5) q X) ∙ rw (ne_eqb (x + 1) s.nx (λ z. omega arith))))

      at-6 : is_symmetry s.x_max ≡ false → Least s (entry 0 0 6)
      unfolding directions
      at-6 h =
          let e = entry 0 0 6 in
          let on = spot 0 0 6 g.x_some g.y_some (omega arith) in
          let left = or_first (is_symmetry s.x_min) (is_symmetry s.x_max) at-corner.mirror h in
          build e on
          (gone_corner s e on refl refl at-corner.two at-corner.wall (steady X up) (ap is_symmetry (leaves_by s e on X) ∙ left))
          (λ p q l. ⊎_elim (λ m. early 5 quiet-5 p q m) (λ m. five p q (omega arith)) (lt_or_ge p.i 5))
          (λ x y q l. absurd (omega arith))
        where
          five : (p : Entry) → On s.nx s.ny p → 5 ≡ p.i → Clear s p
          five p q is =
              let o = entry p.x p.y 5 in
              let w = spot p.x p.y 5 q.x_in q.y_in (omega arith) in
              subst (λ (j : ℕ). Clear s (entry p.x p.y j)) is
              (unmirrored o w (ap is_symmetry (leaves_by s o w X) ∙ hides (on_face Max s.nx p.x) s.x_max h))

    -- ---- THE LOWEST LOST ENTRY, by the tests in their order

    quiet-1 : Quiet 1
    unfolding directions
    quiet-1 = more 0 (omega arith) (record { few = omega arith; steady = λ i h. absurd (omega arith) }) (elim [ X ↦ refl | Y ↦ refl ])

    quiet-2 : x_up ≡ false → Quiet 2
    unfolding directions
    quiet-2 p = more 1 (omega arith) quiet-1 (elim [ X ↦ p | Y ↦ refl ])

    quiet-3 : x_up ≡ false → y_up ≡ false → Quiet 3
    unfolding directions
    quiet-3 p q = more 2 (omega arith) (quiet-2 p) (elim [ X ↦ refl | Y ↦ q ])

    quiet-4 : x_up ≡ false → y_up ≡ false → x_down ≡ false → Quiet 4
    unfolding directions
    quiet-4 p q r = more 3 (omega arith) (quiet-3 p q) (elim [ X ↦ r | Y ↦ refl ])

    steady-all : x_up ≡ false → y_up ≡ false → x_down ≡ false → y_down ≡ false
        → (a : Axis) (c : Step) → strayed (face_of s a) c ≡ false
    steady-all p q r t a stay = refl
    steady-all p q r t X up = p
    steady-all p q r t X down = r
    steady-all p q r t Y up = q
    steady-all p q r t Y down = t

    pub is_least : lossy s ≡ true → Least s (lowest s)
    unfolding lowest
    is_least l =
        go x_up y_up x_down y_down (is_symmetry s.x_max)
        refl refl refl refl refl
      where
        go : (a b c d m : Bool) → x_up ≡ a → y_up ≡ b
            → x_down ≡ c → y_down ≡ d → is_symmetry s.x_max ≡ m
            → Least s
            (cond a (entry (s.nx - 1) 0 1) (cond b (entry 0 (s.ny - 1) 2) (cond c (entry 0 0 3) (cond d (entry 0 0 4) (cond m (entry (s.nx - 1) 0 5) (entry 0 0 6))))))
        go true b c d m p q r t u = at_1 quiet-1 p
        go false true c d m p q r t u = at-2 (quiet-2 p) q
        go false false true d m p q r t u = at-3 (quiet-3 p q) r
        go false false false true m p q r t u = at-4 (quiet-4 p q r) t
        go false false false false true p q r t u = at_5 (steady-all p q r t) l u
        go false false false false false p q r t u = at-6 (steady-all p q r t) l u
