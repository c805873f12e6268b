-- `put`: the bytes that are left, put into the room as it stands, make what all make.
use Rattle.std.proofs.Common.{◌≡◌, ◌*◌, ◌<◌, ◌≤◌, min, length, sym, ◌∙◌, arith, length-take-le}
use Rattle.std.proofs.lemmas.Bool.Decides.{nat_tests}
use Rattle.harness.specs.Bytes.{pair_bytes}
use Rattle.harness.proofs.ByteLaws.{pairs-enough, pairs-few, one_more, all_put}
use Rattle.harness.proofs.bytes.put.Goals as goal

pub loop-i-preserved : goal.loop-i-preserved
loop-i-preserved c =
    let k = c.loop-i in
    let inside : 2 * k.i < length c.args.digits.now = grind (arith, nat_tests) in
    rw c.hex_byte.ensures (one_more c.args.digits.now k.room k.i inside ∙ k.invariant)

pub returns : goal.returns
returns c =
    let k = c.loop-i in
    let digits = c.args.digits.now in
    let all : length (pair_bytes digits) ≡ c.div_ceil.result = omega (arith, pairs-enough digits, pairs-few digits) in
    let count : c.min-count.result ≡ min (length (pair_bytes digits)) (length c.args.room.now) = rw all c.min-count.ensures in
    let inside : c.min-count.result ≤ length k.room = omega arith in (
      sym (all_put digits k.room k.i (omega arith)) ∙ k.invariant,
      count,
      (inside, sym (length-take-le c.min-count.result k.room inside)),
    )
