-- A face by its rule: what was written along its line of cells is the face's field, and a face keeps fields that agree in agreement.
use mathlib.Core.Path.{◌≡◌, refl, sym, ap, ◌∙◌}
use mathlib.Core.Bool.{Bool, true, false, cond, ◌&&◌, false≢true}
use mathlib.Core.List.{List}
use Prim.Native.Nat.{ℕ, ◌+◌, ◌-◌, ◌*◌, ◌<◌}
use native.Mathlib.Omega.{arith}
use borrow.Author.Tests.{eqb-true, eqb-false}
use Rattle.number.specs.Number.{value_of}
use Rattle.number.proofs.Nine.{nine_of}
use Rattle.lattice.specs.declared.Axis.{Axis}
use Rattle.lattice.specs.declared.Axis.TheVariants.{X, Y}
use Rattle.lattice.specs.declared.Side.{Side}
use Rattle.lattice.specs.declared.Side.TheVariants.{Min, Max}
use Rattle.lattice.specs.Lattice.{OPP}
use Rattle.lattice.specs.Lookup.{mirror}
use Rattle.lattice.specs.Sides.{incoming}
use Rattle.lattice.proofs.Tables.{opposite_small, mirror_small}
use Rattle.grid.specs.Grid.{Field, field_of, Same}
use Rattle.grid.proofs.Radix.{within, low_inj, high_inj}
use Rattle.settings.specs.declared.Face.{Face}
use Rattle.settings.specs.declared.Face.TheVariants.{Periodic, NoSlip, MovingWall, Symmetry, Velocity, Pressure}
use Rattle.settings.specs.declared.Settings.{Settings}
use Rattle.settings.specs.Tests.{is_periodic}
use Rattle.streaming.specs.declared.edge.Edge.{Edge}
use Rattle.streaming.specs.declared.line.Line.{Line}
use Rattle.streaming.specs.declared.three.Three.{Three}
use Rattle.streaming.specs.Turned.{facing, seen}
use Rattle.streaming.specs.Rows.{Became}
use Rattle.streaming.specs.Faces.{Names, size_of, coord_of, on_face, fed, cell_at, pushed, walled, names, zou_he_at, takes, face}
use Rattle.streaming.specs.Three.{each, indices}
use Rattle.streaming.specs.Lines.{Stretch, line_of, spot, incoming_of, entry_at, alone, taken_at, Along, Faced}
use Rattle.streaming.specs.Read.{stretch}
use Rattle.streaming.specs.Edges.{IsFace}
use Rattle.streaming.proofs.Lines.{spots_differ, WrittenTo}
use Rattle.streaming.proofs.Directions.{comes_in, sound, One, is-n, is-np, is-nm, one_of, none_of, other_facing}

-- ---- which cells a face has

-- the coordinate along the face
abbrev pub across : Axis → ℕ → ℕ → ℕ
across X x y = y
across Y x y = x

-- (x, y) is cell k of the line
pub record At (a : Axis) (s : Side) (nx ny x y k : ℕ) : Type 0 where
  pub below : k < (line_of a s nx ny).count
  pub cell : x + y * nx ≡ spot (line_of a s nx ny) k

pub on_line : (a : Axis) (s : Side) (nx ny x y : ℕ) → x < nx → y < ny → on_face s (size_of a nx ny) (coord_of a x y) ≡ true → At a s nx ny x y (across a x y)
on_line X Min nx ny x y hx hy e = let z = eqb-true x 0 e in record { below = hy; cell = rw z }
on_line X Max nx ny x y hx hy e = let z = eqb-true (x + 1) nx e in record { below = hy; cell = omega arith }
on_line Y Min nx ny x y hx hy e = let z = eqb-true y 0 e in record { below = hx; cell = rw z (omega arith) }
on_line Y Max nx ny x y hx hy e =
    let z = eqb-true (y + 1) ny e in
    let p : y ≡ ny - 1 = omega arith in
    record { below = hx; cell = ap (λ (t : ℕ). x + t * nx) p ∙ omega arith }

off_line : (a : Axis) (s : Side) (nx ny x y : ℕ) → x < nx → y < ny → on_face s (size_of a nx ny) (coord_of a x y) ≡ false → (k : ℕ) → At a s nx ny x y k → ⊥
off_line X Min nx ny x y hx hy e k w = eqb-false x 0 e (low_inj nx x y 0 k hx (omega arith) w.cell)
off_line X Max nx ny x y hx hy e k w =
    let q = low_inj nx x y (nx - 1) k hx (omega arith) w.cell in
    eqb-false (x + 1) nx e (omega arith)
off_line Y Min nx ny x y hx hy e k w = eqb-false y 0 e (high_inj nx x y k 0 hx w.below (w.cell ∙ omega arith))
off_line Y Max nx ny x y hx hy e k w =
    let q = high_inj nx x y k (ny - 1) hx w.below (w.cell ∙ omega arith) in
    eqb-false (y + 1) ny e (omega arith)

-- ---- a face reads only its own cell

cell_same : (p q : Field) (x y x' y' : ℕ) → ((j : ℕ) → j < 9 → p x y j ≡ q x' y' j) → cell_at p x y ≡ cell_at q x' y'
cell_same p q x y x' y' e =
    let v : (j : ℕ) → j < 9 → value_of (p x y j) ≡ value_of (q x' y' j) = λ j h. ap value_of (e j h) in
    nine_of (λ i. value_of (q x' y' i))
    (v 0 (omega arith))
    (v 1 (omega arith))
    (v 2 (omega arith))
    (v 3 (omega arith))
    (v 4 (omega arith))
    (v 5 (omega arith))
    (v 6 (omega arith))
    (v 7 (omega arith))
    (v 8 (omega arith))

-- what a direction takes is told by the cell's entries, before and after
pub takes_local : (a : Axis) (s : Side) (k : Face) (p q p' q' : Field) (x y x' y' i : ℕ) → i < 9
    → ((j : ℕ) → j < 9 → p x y j ≡ p' x' y' j) → ((j : ℕ) → j < 9 → q x y j ≡ q' x' y' j) → takes a s k p q x y i ≡ takes a s k p' q' x' y' i
unfolding takes walled pushed zou_he_at
takes_local a s Periodic p q p' q' x y x' y' i h ep eq = eq i h
takes_local a s NoSlip p q p' q' x y x' y' i h ep eq = ep (OPP i) (opposite_small i h)
takes_local a s (MovingWall u v) p q p' q' x y x' y' i h ep eq = rw (cell_same p p' x y x' y' ep, ep (OPP i) (opposite_small i h))
takes_local a s Symmetry p q p' q' x y x' y' i h ep eq = ep (mirror a i) (mirror_small a i h)
takes_local a s (Velocity u v) p q p' q' x y x' y' i h ep eq = rw (cell_same q q' x y x' y' eq)
takes_local a s (Pressure rho) p q p' q' x y x' y' i h ep eq = rw (cell_same q q' x y x' y' eq)

-- fields that agree go to fields that agree
pub face_same : (a : Axis) (s : Side) (k : Face) {nx ny : ℕ} {p q p' q' : Field} → Same nx ny p p' → Same nx ny q q' → Same nx ny (face a s k nx ny p q) (face a s k nx ny p' q')
unfolding face
face_same a s k {nx} {ny} {p} {q} {p'} {q'} sp sq =
    record {
      here = λ x y i hx hy hi.
          by-test (fed a s nx ny x y i) (takes_local a s k p q p' q' x y x y i hi (λ j h. sp.here x y j hx hy h) (λ j h. sq.here x y j hx hy h)) (sq.here x y i hx hy hi);
    }
  where
    by-test : (b : Bool) {t u t' u' : ℕ} → t ≡ t' → u ≡ u' → cond b t u ≡ cond b t' u'
    by-test true et eu = et
    by-test false et eu = eu

-- a periodic face does nothing
pub passed_by : (a : Axis) (s : Side) (k : Face) (nx ny : ℕ) (p q : Field) (x y i : ℕ) → is_periodic k ≡ true → face a s k nx ny p q x y i ≡ q x y i
unfolding face takes
passed_by a s Periodic nx ny p q x y i h = either (fed a s nx ny x y i)
  where
    either : (b : Bool) → cond b (q x y i) (q x y i) ≡ q x y i
    either true = refl
    either false = refl
passed_by a s NoSlip nx ny p q x y i h = absurd (false≢true h)
passed_by a s (MovingWall u v) nx ny p q x y i h = absurd (false≢true h)
passed_by a s Symmetry nx ny p q x y i h = absurd (false≢true h)
passed_by a s (Velocity u v) nx ny p q x y i h = absurd (false≢true h)
passed_by a s (Pressure r) nx ny p q x y i h = absurd (false≢true h)

pub still : (back : Bool) (a : Axis) (s : Side) (k : Face) (nx ny : ℕ) (p : Field) (f : List ℕ) → is_periodic k ≡ true → Became back nx ny f f (face a s k nx ny p (seen back nx ny f))
still back a s k nx ny p f h =
    record { size = refl; field = record { here = λ x y i hx hy hi. sym (passed_by a s k nx ny p (seen back nx ny f) x y i h) } }

-- ---- a cell that the line has not come to

-- it takes what it would have taken before
pub not_yet : (a : Axis) (s : Side) (kind : Face) (back : Bool) (l : Line) (post : List ℕ) {d g : List ℕ} {p : Three ℕ} {v : ℕ → Three ℕ} (k : ℕ)
    → k < l.count → Along d g l.cells (stretch l) p k v
    → taken_at a s kind back l.cells post g (spot (stretch l) k) ≡ taken_at a s kind back l.cells post d (spot (stretch l) k)
not_yet a s kind back l post {d} {g} k h w =
    let n = l.cells in
    let c = spot (stretch l) k in
    let collided = alone back post n c in
    let same : (i : ℕ) → i < 9 → takes a s kind collided (alone back g n c) 0 0 i ≡ takes a s kind collided (alone back d n c) 0 0 i =
    λ i hi.
    takes_local a s kind collided (alone back g n c) collided (alone back d n c) 0 0 0 0 i hi (λ j _. refl)
    (λ j _. w.cells c (facing back j) (l.inside k h) (λ m less q. spots_differ l m k less (sym q))) in
    let small = (sound a s).small in
    let d = names a s in
    λ x. record { n = same d.n small.n x; np = same d.np small.np x; nm = same d.nm small.nm x }

-- ---- what was written along the line

-- the entry of one of the three directions
entry_of : (g h : ℕ → ℕ) {d : Names} {i : ℕ} → One i d → each g (incoming_of d) ≡ each h (incoming_of d) → g i ≡ h i
entry_of g h (is-n e) q = ap g e ∙ ap (λ (r : Three ℕ). r.n) q ∙ ap h (sym e)
entry_of g h (is-np e) q = ap g e ∙ ap (λ (r : Three ℕ). r.np) q ∙ ap h (sym e)
entry_of g h (is-nm e) q = ap g e ∙ ap (λ (r : Three ℕ). r.nm) q ∙ ap h (sym e)

module _ (back : Bool) (a : Axis) (s : Side) (k : Face) (nx ny : ℕ) (post f e : List ℕ) where
  -- the line of the face's cells, written with what its directions take
  abbrev pub Settled : Type 0
  Settled =
      let l = line_of a s nx ny in
      Along f e (nx * ny) l (each (facing back) (incoming_of (names a s))) l.count (λ j. taken_at a s k back (nx * ny) post f (spot l j))

  at_cell : Settled → (x y i : ℕ) → x < nx → y < ny → i < 9 → (p q : Bool) → incoming a s i ≡ p → on_face s (size_of a nx ny) (coord_of a x y) ≡ q
      → seen back nx ny e x y i ≡ cond (p && q) (takes a s k (seen back nx ny post) (seen back nx ny f) x y i) (seen back nx ny f x y i)
  unfolding field_of
  at_cell w x y i hx hy hi false q ep eq =
      w.planes (x + y * nx) (facing back i) (within x y nx ny hx hy)
      (other_facing back i (incoming_of (names a s)) hi (sound a s).small (none_of i (names a s) (comes_in a s i hi ∙ ep)))
  at_cell w x y i hx hy hi true false ep eq =
      w.cells (x + y * nx) (facing back i) (within x y nx ny hx hy)
      (λ j h c. off_line a s nx ny x y hx hy eq j (record { below = h; cell = c }))
  at_cell w x y i hx hy hi true true ep eq =
      let on = on_line a s nx ny x y hx hy eq in
      let n = nx * ny in
      let c = x + y * nx in
      entry_of (λ j. entry_at e n c (facing back j)) (takes a s k (alone back post n c) (alone back f n c) 0 0) (one_of i (names a s) (comes_in a s i hi ∙ ep))
      (rw (← on.cell) at (w.written (across a x y) on.below))
      ∙ takes_local a s k (alone back post n c) (alone back f n c) (seen back nx ny post) (seen back nx ny f) 0 0 x y i hi (λ j h. refl) (λ j h. refl)

  -- the buffer holds the face's field
  pub settled : {n : ℕ} {l : Stretch} {p : Three ℕ} → n ≡ nx * ny → l ≡ line_of a s nx ny → p ≡ each (facing back) (incoming_of (names a s))
      → Along f e n l p l.count (λ j. taken_at a s k back n post f (spot l j))
      → Became back nx ny f e (face a s k nx ny (seen back nx ny post) (seen back nx ny f))
  unfolding face
  settled cells line planes written =
      let w : Settled = rw (cells, line, planes) at written in
      record {
        size = w.size;
        field = record { here = λ x y i hx hy hi. at_cell w x y i hx hy hi (incoming a s i) (on_face s (size_of a nx ny) (coord_of a x y)) refl refl };
      }

-- an edge whose line is written whole
pub written_whole : (s : Settings) (a : Axis) (d : Side) (back : Bool) (edge : Edge) (post f e : List ℕ) {k : ℕ} → IsFace s a d back edge → k ≡ edge.line.count
    → WrittenTo edge.line f (indices edge.into) (λ j. taken_at edge.axis edge.side edge.kind edge.back edge.line.cells post f (spot (stretch edge.line) j)) e k
    → Faced s a d back post f e
written_whole s a d back edge post f e is whole w =
    rw (← is.kind, ← is.way, ← is.axis, ← is.side)
    (settled edge.back edge.axis edge.side edge.kind s.nx s.ny post f e is.cells (rw (← is.axis, ← is.side) at is.line) edge.into_is (rw whole at w))
