use Prim.Native.Nat.{◌+◌, ◌-◌}
use lib.ListN.{length}
use Rattle.memory.specs.Bus.{bus_on, read_of}
use Rattle.memory.specs.Near.{Near}
use Rattle.bitset.specs.Bits.{size_of}
use Rattle.reach.proofs.FollowLaws.{Explored}
use Rattle.reach.proofs.explore.explore.Given as goal

abbrev pub invariant-loop-entry : goal.invariant-loop-entry
invariant-loop-entry l =
    Explored (read_of (bus_on l.board l.mem)) l.entries l.entry-index l.clear l.set l.writers l.stack.waiting l.stack.depth

abbrev pub invariant-loop-stack : goal.invariant-loop-stack
invariant-loop-stack l =
    Explored (read_of (bus_on l.board l.mem)) l.entries (length l.entries) l.clear l.set l.writers l.stack.waiting l.stack.depth × Near l.board l.near

abbrev pub decreases-loop-stack : goal.decreases-loop-stack
decreases-loop-stack l = 131072 - (size_of l.clear + size_of l.set) + l.stack.depth
