use Rattle.bigendian.proofs.SumLaws.{Adding}
use Rattle.bigendian.proofs.sum_words.Given as goal

abbrev pub invariant-loop-i : goal.invariant-loop-i
invariant-loop-i l = Adding l.bytes l.count l.i l.sum
