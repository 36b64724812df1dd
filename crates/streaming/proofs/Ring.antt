-- The laws of a turn around a side: where it comes to, that it stays on the side, and that a step and the step back undo each other.
use mathlib.Core.Path.{◌≡◌, ap, ◌∙◌}
use Prim.Native.Nat.{ℕ, ◌+◌, ◌-◌, ◌%◌, ◌≤◌, ◌<◌}
use native.Mathlib.Nat.{mod-eq_of_lt, mod-eq-sub-mod, mod-lt, mod-add-mod, add-mod_right}
use native.Mathlib.Omega.{arith}
use Rattle.lattice.specs.declared.Axis.TheVariants.{X, Y}
use Rattle.grid.specs.Grid.{Field}
use Rattle.streaming.specs.Travel.{Step, stay, up, down, part, against, turn, moved, streamed}

-- a number below two turns around a side
pub mod_once : (k n : ℕ) → n ≤ k → k < n + n → k % n ≡ k - n
mod_once k n h l = mod-eq-sub-mod h ∙ mod-eq_of_lt (omega arith)

-- before the seam, and from it on
pub before_seam : (n s k : ℕ) → k + s < n → turn n s k ≡ s + k
unfolding turn
before_seam n s k h = mod-eq_of_lt h ∙ omega arith

pub after_seam : (n s k : ℕ) → s ≤ n → k < s → turn n s (n - s + k) ≡ k
unfolding turn
after_seam n s k h l = mod_once (n - s + k + s) n (omega arith) (omega arith) ∙ omega arith

pub turn_lt : (n s k : ℕ) → 0 < n → turn n s k < n
unfolding turn
turn_lt n s k h = mod-lt (k + s) h

-- two turns that come to none, and to once around
no_turn : (n s t k : ℕ) → k < n → s + t ≡ 0 → turn n t (turn n s k) ≡ k
unfolding turn
no_turn n s t k h z = mod-add-mod (k + s) n t ∙ ap (λ (j : ℕ). j % n) (omega arith) ∙ mod-eq_of_lt h

one_turn : (n s t k : ℕ) → k < n → s + t ≡ n → turn n t (turn n s k) ≡ k
unfolding turn
one_turn n s t k h z = mod-add-mod (k + s) n t ∙ ap (λ (j : ℕ). j % n) (omega arith) ∙ add-mod_right k n ∙ mod-eq_of_lt h

-- a step, and the step back
pub there_and_back : (e : Step) (n k : ℕ) → k < n → moved (against e) n (moved e n k) ≡ k
there_and_back stay n k h = no_turn n 0 0 k h (omega arith)
there_and_back up n k h = one_turn n 1 (n - 1) k h (omega arith)
there_and_back down n k h = one_turn n (n - 1) 1 k h (omega arith)

-- STREAMING, as the rules say it: (x, y, i) goes to the cell at (x + ex, y + ey), wrapped on both axes
pub goes_on : (nx ny : ℕ) (p : Field) (x y i : ℕ) → x < nx → y < ny → streamed nx ny p (moved (part X i) nx x) (moved (part Y i) ny y) i ≡ p x y i
unfolding streamed
goes_on nx ny p x y i hx hy = rw (there_and_back (part X i) nx x hx, there_and_back (part Y i) ny y hy)
