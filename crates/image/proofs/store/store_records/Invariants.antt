use lib.ListN.{length}
use Rattle.image.specs.Format.{record_limit}
use Rattle.image.proofs.PassLaws.{Storing}
use Rattle.image.proofs.store.store_records.Given as goal

abbrev pub invariant-loop-record : goal.invariant-loop-record
invariant-loop-record l = Storing record_limit l.body l.initial.mem l.rest l.mem

abbrev pub decreases-loop-record : goal.decreases-loop-record
decreases-loop-record l = length l.rest
