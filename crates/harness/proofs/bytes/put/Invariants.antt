use Rattle.std.proofs.Common.{◌≡◌, ◌*◌, drop}
use Rattle.harness.specs.Bytes.{pair_bytes, with_bytes}
use Rattle.harness.proofs.bytes.put.Given as goal

abbrev pub invariant-loop-i : goal.invariant-loop-i
invariant-loop-i l =
    with_bytes l.i (pair_bytes (drop (2 * l.i) l.digits)) l.room ≡ with_bytes 0 (pair_bytes l.digits) l.initial.room
