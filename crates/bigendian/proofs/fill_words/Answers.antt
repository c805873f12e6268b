-- The loop by the record `Filling`.
use Rattle.std.proofs.Common.{◌≡◌, ◌*◌, arith}
use Rattle.bigendian.specs.Numbers.{word_at}
use Rattle.bigendian.proofs.ReadLaws.{filling-on, filling-end}
use Rattle.bigendian.proofs.fill_words.Goals as goal

pub loop-i-preserved : goal.loop-i-preserved
loop-i-preserved c =
    let e : c.swap_bytes.result ≡ word_at c.args.bytes.now (c.loop-i.i * 2) = omega arith in
    filling-on c.loop-i.invariant (omega arith) e

pub returns : goal.returns
returns c = filling-end c.loop-i.invariant (omega arith)
