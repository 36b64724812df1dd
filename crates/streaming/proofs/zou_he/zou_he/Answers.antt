-- `zou_he::zou_he` meets its contract: the Rust's operations in its order, each of the three entries at its own direction.
use mathlib.Core.Path.{◌≡◌, sym, ap, ◌∙◌}
use mathlib.Core.Bool.{true}
use mathlib.Core.List.{List}
use Prim.Native.Nat.{ℕ}
use lib.Dec.{eqb, eqb_refl}
use lib.Ieee.{Float}
use lib.Ieee.Bits.{is_true}
use borrow.Author.Tests.{ne_eqb}
use Rattle.std.proofs.Common.{rules}
use Rattle.number.specs.Number.{pattern_of, c½, c2, c3, c6, ◌⊕◌, ◌⊖◌, ◌⊗◌, ◌⊘◌}
use Rattle.number.specs.Nine.{at}
use Rattle.lattice.specs.Lattice.{OPP}
use Rattle.streaming.specs.declared.three.Three.{Three}
use Rattle.streaming.specs.declared.zou_he.Prescribed.{Prescribed}
use Rattle.streaming.specs.Faces.{Names, known_sum, zou_he}
use Rattle.streaming.specs.Three.{each, Apart}
use Rattle.streaming.specs.Lines.{incoming_of}
use Rattle.streaming.specs.Read.{names_in}
use Rattle.streaming.proofs.Mapped.{mapped}
use Rattle.streaming.proofs.zou_he.zou_he.Goals as goal

same : (i : ℕ) → eqb i i ≡ true
same i = is_true (eqb i i) (eqb_refl i)

-- the three numbers that come in, from the three that go out
abbrev come : Names → Prescribed → List Float → Three Float → Three Float
come d w f out =
    let nt = c½ ⊗ (at f d.t ⊖ at f d.tm) in
    record {
      n = out.n ⊕ c2 ⊘ c3 ⊗ w.rho ⊗ w.un;
      np = out.np ⊕ w.rho ⊗ w.un ⊘ c6 ⊕ c½ ⊗ w.rho ⊗ w.ut ⊖ nt;
      nm = out.nm ⊕ w.rho ⊗ w.un ⊘ c6 ⊖ c½ ⊗ w.rho ⊗ w.ut ⊕ nt;
    }

abbrev outgoing : Names → List Float → Three Float
outgoing d f = each (λ i. at f (OPP i)) (incoming_of d)

three_entries : (d : Names) (w : Prescribed) (f : List Float) → Apart (incoming_of d) → come d w f (outgoing d f) ≡ each (zou_he d w f) (incoming_of d)
unfolding zou_he
three_entries d w f apart =
    let np-n = ne_eqb d.np d.n (λ e. apart.n_np (sym e)) in
    let nm-n = ne_eqb d.nm d.n (λ e. apart.n_nm (sym e)) in
    let nm-np = ne_eqb d.nm d.np (λ e. apart.np_nm (sym e)) in
    rw (same d.n, np-n, same d.np, nm-n, nm-np)

pub returns : goal.returns
unfolding known_sum
returns g c =
    let a = c.args in
    let d = names_in a.d in
    let w = c.prescribe-w.result in
    let out : c.map-out.result ≡ outgoing d a.f = mapped (λ i. at a.f (OPP i.index)) c.map-out.ensures (λ i x h. search rules) in
    let is : c.map.result ≡ each pattern_of (come d w a.f c.map-out.result) = mapped pattern_of c.map.ensures (λ x y h. search rules) in
    (w, rw out at c.prescribe-w.ensures, is ∙ rw out (ap (each pattern_of) (three_entries d w a.f a.d.apart)))
