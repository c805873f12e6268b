-- The sum by the record `Adding`: the first byte before the loop, the last one behind it.
use mathlib.Core.Path.{refl}
use native.Mathlib.Omega.{arith}
use Rattle.bigendian.proofs.SumLaws.{adding, adding-on, adding-end}
use Rattle.bigendian.proofs.sum_words.Goals as goal

pub loop-i-init : goal.loop-i-init
loop-i-init c = adding _ _ _ (omega arith) (rw c.from-sum.ensures)

pub loop-i-preserved : goal.loop-i-preserved
loop-i-preserved c = adding-on c.loop-i.invariant (omega arith) c.little_endian_at.ensures.0 c.wrapping_add-sum.ensures

pub returns : goal.returns
returns c = adding-end c.loop-i.invariant (omega arith) refl c.from.ensures c.wrapping_add.ensures
