-- `ranges_in`: the ranges that are put, and those that are left of the list, are those of the list.
use Rattle.std.proofs.Common.{◌∙◌, arith, length-set}
use Rattle.harness.proofs.RangeLaws.{range-put, ranges-whole}
use Rattle.harness.proofs.map.ranges_in.Goals as goal

pub loop-i-preserved : goal.loop-i-preserved
loop-i-preserved c =
    let k = c.loop-i in
    let more = range-put 16 k.i k.rest.now k.ranges (omega arith) (omega arith) in (
      simp length-set k.invariant.0,
      rw (c.behind-rest.ensures.0, c.range_in.ensures, c.before-in-loop-i.ensures) (more ∙ k.invariant.1),
    )

pub returns : goal.returns
returns c =
    let k = c.loop-i in
    ranges-whole 16 k.i k.rest.now k.ranges (omega arith) (omega arith) ∙ k.invariant.1
