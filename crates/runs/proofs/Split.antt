-- A run of a + b steps is a run of a steps, and then one of b steps on what it left: of the rule, and of the operation's outcome.
use mathlib.Core.Path.{◌≡◌, refl, sym, ap, ◌∙◌}
use mathlib.Core.Bool.{cond}
use mathlib.Core.List.{List}
use Prim.Native.Nat.{ℕ, zero, suc, ◌+◌, ◌≤◌}
use native.Mathlib.Nat.{add-zero, add-suc}
use native.Mathlib.Decide.{ℕ_discrete}
use native.Mathlib.Omega.{arith}
use borrow.Author.Tests.{le-ltb}
use lib.ListN.{length}
use Rattle.settings.specs.declared.Settings.{Settings}
use Rattle.settings.specs.Tests.{most_steps, steps_bad}
use Rattle.settings.specs.Refusals as Call
use Rattle.settings.specs.Refusals.{first, tests, refusal}
use Rattle.runs.specs.Passes.{Ready}
use Rattle.runs.specs.Steps.{State, state, one_step, steps, Stepped, run_of}
use Rattle.runs.proofs.Stepwise.{step_ready, may_run, kept, ran}

-- ---- the rule

pub steps_add : (s : Settings) (a b : ℕ) (x : State) → steps s (a + b) x ≡ steps s b (steps s a x)
unfolding steps
steps_add s a zero x = rw (add-zero a)
steps_add s a (suc b) x = rw (add-suc a b) (ap (λ (y : State). one_step s y.f) (steps_add s a b x))

steps_ready : (s : Settings) (n : ℕ) (x : State) → Ready s x.f x.post → Ready s (steps s n x).f (steps s n x).post
unfolding steps
steps_ready s zero x r = r
steps_ready s (suc n) x r = step_ready s (steps s n x).f refl r

-- ---- the refusal: that of a single step, and where it is 0, number 10 for too many steps, which nothing else looks at

pub run_refusal : (s : Settings) (n f post : ℕ) → refusal (Call.run s n f post) ≡ first (tests (Call.step s f post)) (cond (steps_bad n) 10 0)
run_refusal s n f post = refl

same_refusal : (s : Settings) (n m f post : ℕ) → n ≤ most_steps → m ≤ most_steps → refusal (Call.run s n f post) ≡ refusal (Call.run s m f post)
same_refusal s n m f post h k = rw (le-ltb most_steps n h, le-ltb most_steps m k)

-- ---- the outcome, where a + b steps are not too many: done or refused alike

module _ (s : Settings) (a b : ℕ) (f post : List ℕ) (few : a + b ≤ most_steps) where
  abbrev number : ℕ
  number = refusal (Call.run s a (length f) (length post))

  on_what_it_left : {o : Stepped} → o ≡ run_of s a f post → run_of s b o.f o.post ≡ run_of s b (run_of s a f post).f (run_of s a f post).post
  on_what_it_left e = ap (λ (o : Stepped). run_of s b o.f o.post) e

  pub run_add : run_of s (a + b) f post ≡ run_of s b (run_of s a f post).f (run_of s a f post).post
  run_add = go (ℕ_discrete number 0)
    where
      whole : number ≡ refusal (Call.run s (a + b) (length f) (length post))
      whole = same_refusal s a (a + b) (length f) (length post) (omega arith) few

      rest : number ≡ refusal (Call.run s b (length f) (length post))
      rest = same_refusal s a b (length f) (length post) (omega arith) (omega arith)

      go : Dec (number ≡ 0) → run_of s (a + b) f post ≡ run_of s b (run_of s a f post).f (run_of s a f post).post
      go (yes z) =
          let x = steps s a (state f post) in
          let r = may_run s a f post (sym z) in
          let q = steps_ready s a (state f post) r in
          let fs : length f ≡ length x.f = r.f_size ∙ sym q.f_size in
          let ps : length post ≡ length x.post = r.post_size ∙ sym q.post_size in
          let same : refusal (Call.run s b (length f) (length post)) ≡ refusal (Call.run s b (length x.f) (length x.post)) = rw (fs, ps) in
          sym (ran s (a + b) f post (sym z ∙ whole) refl)
          ∙ ran s b x.f x.post (sym z ∙ rest ∙ same) (steps_add s a b (state f post))
          ∙ on_what_it_left (ran s a f post (sym z) refl)
      go (no d) = sym (kept s (a + b) whole d) ∙ kept s b rest d ∙ on_what_it_left (kept s a refl d)
