use Rattle.bigendian.proofs.PutLaws.{Putting}
use Rattle.bigendian.proofs.put_words.Given as goal

abbrev pub invariant-loop-i : goal.invariant-loop-i
invariant-loop-i l = Putting l.initial.room l.at l.words l.room l.count l.sum l.i
