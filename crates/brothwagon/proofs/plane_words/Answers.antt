-- `brothwagon::plane_words` meets its contract: where the plane starts and how many entries it has, and zeros where it is refused.
use Rattle.brothwagon.proofs.Words.{plane_of, no_plane}
use Rattle.brothwagon.proofs.plane_words.Goals as goal

pub returns-in_err-plane_refusal : goal.returns-in_err-plane_refusal
returns-in_err-plane_refusal c =
    no_plane c.args.s c.args.f.now c.args.direction _ _ c.from_residual.ensures.1 c.in_err-plane_refusal.ensures

pub returns : goal.returns
returns c = plane_of c.args.s c.args.f.now c.args.direction c.in_ok-plane_refusal.ensures c.plane-count.ensures.size
