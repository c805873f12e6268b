use lib.ListN.{length}
use Rattle.memory.specs.Map.{all_ram}
use Rattle.memory.specs.Bus.{bus_on}
use Rattle.report.proofs.WalkLaws.{Walked}
use Rattle.report.proofs.file.push_records.Given as goal

abbrev pub invariant-loop-found : goal.invariant-loop-found
invariant-loop-found l = Walked l.program (bus_on all_ram l.memory) l.file l.initial.page l.page l.rest

abbrev pub decreases-loop-found : goal.decreases-loop-found
decreases-loop-found l = length l.rest
