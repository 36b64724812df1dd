-- What a function makes of the three that come in, from what each of its three calls returned.
use mathlib.Core.Path.{◌≡◌}
use Rattle.streaming.specs.declared.three.Three.{Three}
use Rattle.streaming.specs.Three.{each, Maps}

pub mapped : {A B : Type 0} (g : A → B) {rule : A → B → Type 0} {p : Three A} {q : Three B} → Maps rule p q
    → ((x : A) (y : B) → rule x y → y ≡ g x) → q ≡ each g p
mapped g m is = λ t. record { n = is _ _ m.n t; np = is _ _ m.np t; nm = is _ _ m.nm t }
