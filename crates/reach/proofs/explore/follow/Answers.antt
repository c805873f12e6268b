-- `follow`: a turn keeps `Following` and the range at hand. It ends where the node leads nowhere or to a node that is marked.
use mathlib.Core.Path.{refl}
use Rattle.memory.specs.Bus.{bus_on, read_of}
use Rattle.reach.proofs.WayLaws.{near_on, ways_on}
use Rattle.reach.proofs.FollowLaws.{Turn, grown-none, turn_end, turn-write, leads-one, leads-two, lead-back, lead-on, lead-less}
use Rattle.reach.proofs.explore.follow.Goals as goal
use Rattle.reach.proofs.explore.follow.Goals.{After-ways_of-ways}

pub loop-writers-init : goal.loop-writers-init
loop-writers-init c = (record { here_marked = c.requires.0; work = c.requires.1; grown = grown-none }, c.requires.2, refl, refl)

-- where the node leads
turns : (c : After-ways_of-ways) → Turn (read_of (bus_on c.args.view.board c.args.view.words.now)) c.loop-writers.node c.ways_of-ways.result
turns c =
    let k = c.loop-writers.invariant in
    ways_on _ _ _ _ k.1 (rw k.2 at c.fetch-fetched.ensures.near) (rw (k.2, k.3) at c.fetch-fetched.ensures.word) c.instruction-instr.ensures
    (rw (k.2, k.3) at c.specified_at-decoded.ensures)
    (rw (k.2, k.3) at c.ways_of-ways.ensures)

pub returns-in-End : goal.returns-in-End
returns-in-End c = let f = turn_end c.loop-writers.invariant.0 (turns (goal.at.returns-in-End c).After-ways_of-ways) c.in-End.is in (f.work, f.grown)

pub returns-in-Writes : goal.returns-in-Writes
returns-in-Writes c = let f = turn-write c.loop-writers.invariant.0 (turns (goal.at.returns-in-Writes c).After-ways_of-ways) c.in-Writes.is c.insert.ensures.1 in (f.work, f.grown)

pub returns-then-not-mark : goal.returns-then-not-mark
returns-then-not-mark c =
    let o = leads-one c.loop-writers.invariant.0 (turns (goal.at.returns-then-not-mark c).After-ways_of-ways) c.in-One.is in
    let f = lead-back o c.mark.ensures c.if-not-mark.true in (f.work, f.grown)

pub loop-writers-smaller-in-One : goal.loop-writers-smaller-in-One
loop-writers-smaller-in-One c =
    let o = leads-one c.loop-writers.invariant.0 (turns (goal.at.loop-writers-smaller-in-One c).After-ways_of-ways) c.in-One.is in
    lead-less o c.mark.ensures c.if-not-mark.false

pub loop-writers-preserved-in-One : goal.loop-writers-preserved-in-One
loop-writers-preserved-in-One c =
    let o = leads-one c.loop-writers.invariant.0 (turns (goal.at.loop-writers-preserved-in-One c).After-ways_of-ways) c.in-One.is in
    (lead-on o c.mark.ensures c.if-not-mark.false, near_on _ _ _ c.loop-writers.invariant.1 (rw c.loop-writers.invariant.2 at c.fetch-fetched.ensures.near), c.loop-writers.invariant.2, c.loop-writers.invariant.3)

pub returns-then-not-mark-2 : goal.returns-then-not-mark-2
returns-then-not-mark-2 c =
    let o = leads-two c.loop-writers.invariant.0 (turns (goal.at.returns-then-not-mark-2 c).After-ways_of-ways) c.in-Two.is c.push.ensures in
    let f = lead-back o c.mark-in-Two.ensures c.if-not-mark-2.true in (f.work, f.grown)

pub loop-writers-smaller : goal.loop-writers-smaller
loop-writers-smaller c =
    let o = leads-two c.loop-writers.invariant.0 (turns (goal.at.loop-writers-smaller c).After-ways_of-ways) c.in-Two.is c.push.ensures in
    lead-less o c.mark-in-Two.ensures c.if-not-mark-2.false

pub loop-writers-preserved : goal.loop-writers-preserved
loop-writers-preserved c =
    let o = leads-two c.loop-writers.invariant.0 (turns (goal.at.loop-writers-preserved c).After-ways_of-ways) c.in-Two.is c.push.ensures in
    (lead-on o c.mark-in-Two.ensures c.if-not-mark-2.false, near_on _ _ _ c.loop-writers.invariant.1 (rw c.loop-writers.invariant.2 at c.fetch-fetched.ensures.near), c.loop-writers.invariant.2, c.loop-writers.invariant.3)
