use lib.ListN.{length}
use Rattle.pair.proofs.PassLaws.{Checking}
use Rattle.pair.proofs.check.check_lines.Given as goal

abbrev pub invariant-loop-rest : goal.invariant-loop-rest
invariant-loop-rest l = Checking l.lines l.rest l.count l.words l.end

abbrev pub decreases-loop-rest : goal.decreases-loop-rest
decreases-loop-rest l = length l.rest
