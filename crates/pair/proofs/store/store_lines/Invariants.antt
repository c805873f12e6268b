use lib.ListN.{length}
use Rattle.bigendian.specs.Numbers.{all_words}
use Rattle.pair.proofs.StoreLaws.{Storing}
use Rattle.pair.proofs.store.store_lines.Given as goal

abbrev pub invariant-loop-rest : goal.invariant-loop-rest
invariant-loop-rest l = Storing (all_words l.bin) l.lines l.initial.mem l.rest l.mem

abbrev pub decreases-loop-rest : goal.decreases-loop-rest
decreases-loop-rest l = length l.rest
