use Prim.Native.Nat.{◌-◌}
use Rattle.memory.specs.Near.{reads}
use Rattle.meter.proofs.Loops.{Walking}
use Rattle.meter.proofs.wait.Given as goal

abbrev pub invariant-loop-walked : goal.invariant-loop-walked
invariant-loop-walked l = Walking (reads l.view) l.limit.cycles l.address l.place

abbrev pub decreases-loop-walked : goal.decreases-loop-walked
decreases-loop-walked l = l.limit.cycles - l.place.sum
