use Prim.Native.Nat.{◌+◌, ◌-◌}
use mathlib.Core.Path.{◌≡◌}
use Rattle.memory.specs.Bus.{bus_on, read_of}
use Rattle.memory.specs.Near.{Near}
use Rattle.bitset.specs.Bits.{size_of}
use Rattle.reach.proofs.FollowLaws.{Following}
use Rattle.reach.proofs.explore.follow.Given as goal

abbrev pub invariant-loop-writers : goal.invariant-loop-writers
invariant-loop-writers l =
    let v = l.fn.view in
    Following (read_of (bus_on v.board v.words.now)) l.initial.clear l.initial.set l.initial.stack.depth l.clear l.set l.writers l.stack.waiting l.stack.depth l.node × Near v.board l.view.near × (l.view.board ≡ v.board) × (l.view.words.now ≡ v.words.now)

abbrev pub decreases-loop-writers : goal.decreases-loop-writers
decreases-loop-writers l = 131072 - (size_of l.clear + size_of l.set)
