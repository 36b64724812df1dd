use Rattle.std.proofs.Common.{◌≤◌}
use Rattle.arrayvec.specs.ArrayVec.{array_vec_len}
use Rattle.lossless_line.proofs.read.Given as goal

-- a byte a turn at most
abbrev pub invariant-loop : goal.invariant-loop
invariant-loop g l = array_vec_len l.bytes ≤ l.counter
