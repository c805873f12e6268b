use Prim.Native.Nat.{◌-◌, ◌/◌}
use Rattle.memory.specs.Bus.{bus_on, read_of}
use Rattle.meter.specs.Answer.{named_in}
use Rattle.meter.specs.Walk.{walk_from}
use Rattle.meter.proofs.Loops.{Collecting}
use Rattle.meter.proofs.scan.members.Given as goal

abbrev pub invariant-loop-i : goal.invariant-loop-i
invariant-loop-i l =
    Collecting l.clear (walk_from (read_of (bus_on l.board l.mem)) l.region.limit.cycles) l.region.first l.region.last l.i (named_in l.findings)

abbrev pub decreases-loop-i : goal.decreases-loop-i
decreases-loop-i l = l.region.last / 64 - l.i
