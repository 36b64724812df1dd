-- `travel::row` meets its contract: the two copies meet.
use Rattle.std.proofs.Common.{◌+◌, ◌-◌, arith}
use Rattle.streaming.proofs.Rows.{part_copied, two_parts}
use Rattle.streaming.proofs.travel.row.Goals as goal

pub returns : goal.returns
returns c =
    let a = c.args in
    let n = a.n in
    let s = a.s in
    let r = c.requires in
    let p = a.src.now in
    let seam = a.to + (n - s) in
    let first = part_copied p a.dst.now _ (a.from + s) a.to (seam - a.to) (a.from + n - (a.from + s)) (n - s) (omega arith) (omega arith) (omega arith) (omega arith)
    c.copy-first.ensures.copied c.copy-first.ensures.joined in
    let second = part_copied p _ _ a.from seam (a.to + n - seam) (a.from + s - a.from) s (omega arith) (omega arith) (omega arith) (omega arith)
    c.copy-second.ensures.copied c.copy-second.ensures.joined in
    let both = two_parts p _ _ _ a.from a.to n s r.0 first second in record { wrote = both.0; joined = both.1 }
