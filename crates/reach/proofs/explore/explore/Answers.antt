-- `explore`: both loops keep `Explored`. The first adds an entry a turn, the second follows a path a turn.
use Prim.Native.Nat.{ℕ}
use mathlib.Core.Path.{◌≡◌}
use native.Mathlib.Omega.{arith}
use lib.ListN.{length, length-replicate}
use Rattle.bitset.proofs.CountLaws.{size-most}
use Rattle.reach.proofs.WayLaws.{near_first, near_on}
use Rattle.reach.proofs.ExploreLaws.{taken-up, top-marked}
use Rattle.reach.proofs.FollowLaws.{explored-none, explored-entry, explored-path, explored-less, explored-all, explored-writers}
use Rattle.reach.proofs.explore.explore.Goals as goal

pub loop-entry-init : goal.loop-entry-init
loop-entry-init c = rw (c.requires.0, c.requires.1, c.requires.2) (explored-none (length-replicate {A = ℕ} 65536 0))

pub loop-entry-preserved : goal.loop-entry-preserved
loop-entry-preserved c = explored-entry c.loop-entry.invariant c.loop-entry-test.true c.push.ensures

pub loop-stack-init : goal.loop-stack-init
loop-stack-init c =
    let e : c.loop-entry.entry-index ≡ length c.args.entries.now = omega arith in
    (rw (← e) c.loop-entry.invariant, near_first _ c.no_range-near.ensures)

pub offset_bounds-stack-stack : goal.offset_bounds-stack-stack
offset_bounds-stack-stack c = omega (arith, c.loop-stack.invariant.0.work.room, size-most c.loop-stack.clear)

pub bounds-stack-stack : goal.bounds-stack-stack
bounds-stack-stack c = omega (arith, c.loop-stack.invariant.0.work.room, size-most c.loop-stack.clear)

pub follow-requires : goal.follow-requires
follow-requires c =
    let k = c.loop-stack.invariant in
    let t = c.loop-stack-test.true in
    (top-marked k.0.work t, taken-up k.0.work t, near_on _ _ _ k.1 c.near_to-near.ensures)

pub loop-stack-smaller : goal.loop-stack-smaller
loop-stack-smaller c = explored-less c.loop-stack.invariant.0 c.loop-stack-test.true c.follow.ensures.1

pub loop-stack-preserved : goal.loop-stack-preserved
loop-stack-preserved c =
    (explored-path c.loop-stack.invariant.0 c.follow.ensures.0 c.follow.ensures.1, near_on _ _ _ c.loop-stack.invariant.1 c.near_to-near.ensures)

pub returns : goal.returns
returns c =
    let k = c.loop-stack.invariant.0 in
    let e : c.loop-stack.stack.depth ≡ 0 = omega (arith, c.loop-stack-test.false) in
    record { reached_set = explored-all k (omega arith) e; holds_writers = explored-writers k e }
