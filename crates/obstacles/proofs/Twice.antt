-- What the rule of obstacles says of the populations: the same list twice gives back the first state, a named cell has its opposites, and every other entry keeps its bits.
use mathlib.Core.Path.{◌≡◌, refl, sym, ap, ◌∙◌}
use mathlib.Core.Bool.{Bool, true, false}
use mathlib.Core.List.{List}
use Prim.Native.Nat.{ℕ, ◌*◌, ◌<◌}
use lib.Dec.{eqb}
use lib.ListN.{length}
use borrow.Author.Tests.{eqb-true, eqb-false}
use Rattle.lattice.specs.Lattice.{OPP}
use Rattle.lattice.proofs.Tables.{opposite_small, opposite_twice}
use Rattle.grid.specs.Grid.{Field, field_of, buffer_of, Same}
use Rattle.grid.proofs.Fields.{buffer_length, field_of_buffer, buffer_of_field, same_buffer}
use Rattle.settings.specs.declared.Settings.{Settings}
use Rattle.settings.specs.Refusals.{refusal, set_no_slip_bc}
use Rattle.settings.specs.Outcome.{Written, outcome}
use Rattle.settings.proofs.Outcome.{answered, refused}
use Rattle.settings.specs.declared.Obstacle.{Obstacle}
use Rattle.obstacles.specs.Obstacles.{is_named, bounced, bounced_buffer, no_slip_set}
use Rattle.obstacles.proofs.Outcome.{accepted}

-- ---- fields

named_has : (list : List Obstacle) (p : Field) (x y i : ℕ) → is_named list x y ≡ true → bounced list p x y i ≡ p x y (OPP i)
unfolding bounced
named_has list p x y i e = rw e

others_keep : (list : List Obstacle) (p : Field) (x y i : ℕ) → is_named list x y ≡ false → bounced list p x y i ≡ p x y i
unfolding bounced
others_keep list p x y i e = rw e

-- the rule after the rule, where r is what the first left
undone : (list : List Obstacle) (p r : Field) (x y i : ℕ) → i < 9
    → r x y i ≡ bounced list p x y i
    → r x y (OPP i) ≡ bounced list p x y (OPP i)
    → bounced list r x y i ≡ p x y i
undone list p r x y i hi here there = go (is_named list x y) refl
  where
    go : (t : Bool) → is_named list x y ≡ t → bounced list r x y i ≡ p x y i
    go true e = named_has list r x y i e ∙ there ∙ named_has list p x y (OPP i) e ∙ ap (λ (k : ℕ). p x y k) (opposite_twice i hi)
    go false e = others_keep list r x y i e ∙ here ∙ others_keep list p x y i e

-- ---- buffers

module _ (nx ny : ℕ) (list : List Obstacle) where
  bounced_length : (f : List ℕ) → length (bounced_buffer nx ny list f) ≡ 9 * (nx * ny)
  unfolding bounced_buffer
  bounced_length f = buffer_length nx ny (bounced list (field_of nx ny f))

  bounced_field : (f : List ℕ) → Same nx ny (field_of nx ny (bounced_buffer nx ny list f)) (bounced list (field_of nx ny f))
  unfolding bounced_buffer
  bounced_field f = field_of_buffer nx ny (bounced list (field_of nx ny f))

  bounced_twice : (f : List ℕ) → length f ≡ 9 * (nx * ny) → bounced_buffer nx ny list (bounced_buffer nx ny list f) ≡ f
  unfolding bounced_buffer
  bounced_twice f size =
      let p = field_of nx ny f in
      let s = field_of_buffer nx ny (bounced list p) in
      same_buffer nx ny _ p
      (record {
        here = λ x y i hx hy hi. undone list p (field_of nx ny (buffer_of nx ny (bounced list p))) x y i hi (s.here x y i hx hy hi) (s.here x y (OPP i) hx hy (opposite_small i hi));
      })
      ∙ buffer_of_field nx ny f size

-- ---- the operation

module _ (s : Settings) (list : List Obstacle) where
  abbrev number : List ℕ → ℕ
  number f = refusal (set_no_slip_bc s list (length f))

  -- the rule's buffer
  abbrev rule : List ℕ → List ℕ
  rule f = bounced_buffer s.nx s.ny list f

  done : (f : List ℕ) → number f ≡ 0 → no_slip_set s list f ≡ outcome 0 (rule f)
  done f z = sym (answered (outcome (number f) f) refl z refl)

  kept : (f : List ℕ) → (number f ≡ 0 → ⊥) → no_slip_set s list f ≡ outcome (number f) f
  kept f ne = sym (refused (outcome 0 (rule f)) (λ n. outcome n f) refl ne)

  module _ (f : List ℕ) where
    abbrev left : List ℕ
    left = (no_slip_set s list f).buffer

    again : {w : Written} → no_slip_set s list f ≡ w → no_slip_set s list left ≡ no_slip_set s list w.buffer
    again e = ap (λ (w : Written). no_slip_set s list w.buffer) e

    numbered : {w : Written} → no_slip_set s list f ≡ w → outcome w.number f ≡ outcome (no_slip_set s list f).number f
    numbered e = ap (λ (w : Written). outcome w.number f) (sym e)

    entry : {w : Written} → no_slip_set s list f ≡ w → (x y i : ℕ)
        → field_of s.nx s.ny left x y i ≡ field_of s.nx s.ny w.buffer x y i
    entry e x y i = ap (λ (w : Written). field_of s.nx s.ny w.buffer x y i) e

    -- the same list twice gives back the first state, refused or not, with the same number
    pub twice_gives_back : no_slip_set s list left ≡ outcome (no_slip_set s list f).number f
    twice_gives_back = go (eqb (number f) 0) refl
      where
        go : (t : Bool) → eqb (number f) 0 ≡ t → no_slip_set s list left ≡ outcome (no_slip_set s list f).number f
        go true e =
            let z = eqb-true (number f) 0 e in
            let size = (accepted s list (length f) (sym z)).size in
            let as_long = bounced_length s.nx s.ny list f ∙ sym size in
            again (done f z)
            ∙ done (rule f) (ap (λ (len : ℕ). refusal (set_no_slip_bc s list len)) as_long ∙ z)
            ∙ ap (λ (b : List ℕ). outcome 0 b) (bounced_twice s.nx s.ny list f size)
            ∙ numbered (done f z)
        go false e = let k = kept f (eqb-false (number f) 0 e) in again k ∙ k ∙ numbered k

    -- a named cell has its opposites
    pub named_cells_turn : number f ≡ 0 → (x y i : ℕ) → x < s.nx → y < s.ny → i < 9 → is_named list x y ≡ true
        → field_of s.nx s.ny left x y i ≡ field_of s.nx s.ny f x y (OPP i)
    named_cells_turn z x y i hx hy hi e =
        entry (done f z) x y i
        ∙ (bounced_field s.nx s.ny list f).here x y i hx hy hi
        ∙ named_has list (field_of s.nx s.ny f) x y i e

    -- every entry of a cell that is not named keeps its bits, refused or not
    pub other_entries_keep : (x y i : ℕ) → x < s.nx → y < s.ny → i < 9 → is_named list x y ≡ false
        → field_of s.nx s.ny left x y i ≡ field_of s.nx s.ny f x y i
    other_entries_keep x y i hx hy hi e = go (eqb (number f) 0) refl
      where
        go : (t : Bool) → eqb (number f) 0 ≡ t → field_of s.nx s.ny left x y i ≡ field_of s.nx s.ny f x y i
        go true q =
            entry (done f (eqb-true (number f) 0 q)) x y i
            ∙ (bounced_field s.nx s.ny list f).here x y i hx hy hi
            ∙ others_keep list (field_of s.nx s.ny f) x y i e
        go false q = entry (kept f (eqb-false (number f) 0 q)) x y i
