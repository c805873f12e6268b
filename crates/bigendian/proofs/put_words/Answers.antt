-- Numbers as bytes, and their sum, by the record `Putting`.
use Rattle.std.proofs.Common.{arith, length-take}
use Rattle.std.proofs.lemmas.List.{get_or-take}
use Rattle.bigendian.proofs.PutLaws.{putting-on, putting-end}
use Rattle.bigendian.proofs.put_words.Goals as goal

pub loop-i-preserved : goal.loop-i-preserved
loop-i-preserved c =
    let n = c.min-count.result in
    let l = length-take n c.args.words.now in
    let t = get_or-take n c.args.words.now c.loop-i.i 0 (omega arith) in
    putting-on c.loop-i.invariant (omega arith) (omega arith) (rw t at c.put_pair.ensures) (rw t at c.wrapping_add-sum.ensures)

pub returns : goal.returns
returns c =
    let l = length-take c.min-count.result c.args.words.now in
    putting-end c.loop-i.invariant (omega arith) (omega arith)
