use lib.ListN.{length}
use Rattle.bigendian.proofs.ReadLaws.{Filling}
use Rattle.bigendian.proofs.fill_words.Given as goal

abbrev pub invariant-loop-i : goal.invariant-loop-i
invariant-loop-i l = Filling (length l.initial.words) l.bytes l.words l.i
