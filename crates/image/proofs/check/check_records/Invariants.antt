use lib.ListN.{length}
use Rattle.image.specs.Format.{record_limit}
use Rattle.image.proofs.PassLaws.{Checking}
use Rattle.image.proofs.check.check_records.Given as goal

abbrev pub invariant-loop-record : goal.invariant-loop-record
invariant-loop-record l = Checking record_limit l.len l.body l.rest l.records l.sum

abbrev pub decreases-loop-record : goal.decreases-loop-record
decreases-loop-record l = length l.rest
