use Prim.Native.Nat.{◌+◌, ◌-◌}
use Rattle.memory.specs.Map.{all_ram}
use Rattle.memory.specs.Bus.{bus_on}
use Rattle.report.proofs.WalkLaws.{Listed}
use Rattle.report.proofs.instructions.push_lines.Given as goal

abbrev pub invariant-loop-next : goal.invariant-loop-next
invariant-loop-next l = Listed (bus_on all_ram l.memory) l.fn.found.address l.fn.found.count l.initial.page l.page l.next l.double

abbrev pub decreases-loop-next : goal.decreases-loop-next
decreases-loop-next l = l.fn.found.address + l.fn.found.count - l.next
