use Prim.Native.Nat.{◌-◌}
use Rattle.memory.specs.Near.{reads}
use Rattle.meter.specs.Answer.{named_in}
use Rattle.meter.specs.Walk.{walk_from}
use Rattle.meter.specs.Inner.Stretch.{starts_in}
use Rattle.meter.proofs.Loops.{Walking, Scanning}
use Rattle.meter.proofs.scan.stretch.Given as goal

abbrev pub invariant-walk : goal.invariant-walk
invariant-walk l = Walking (reads l.view) l.region.limit.cycles l.address l.place

abbrev pub decreases-walk : goal.decreases-walk
decreases-walk l = l.region.limit.cycles - l.place.sum

abbrev pub invariant-scan : goal.invariant-scan
invariant-scan l =
    Scanning (starts_in l.starts) (walk_from (reads l.view) l.region.limit.cycles) l.region.first l.region.last (named_in l.initial.findings) l.address (named_in l.findings)

abbrev pub decreases-scan : goal.decreases-scan
decreases-scan l = l.region.last - l.address
