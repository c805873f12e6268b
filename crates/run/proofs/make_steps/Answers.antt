-- `make_steps`: the rest of the loop is the whole of it.
use mathlib.Core.Path.{refl, sym, subst}
use native.Mathlib.Omega.{arith}
use Rattle.memory.specs.Near.{Near}
use Rattle.memory.proofs.NearLaws.{near-laws}
use Rattle.run.specs.Inner.Loop.{loop_of}
use Rattle.run.proofs.LoopLaws.{ends-spent, ends-refused, costs-few, costs-some, goes-round}
use Rattle.run.proofs.make_steps.Goals as goal

pub loop-cycles-init : goal.loop-cycles-init
loop-cycles-init c =
    let board = c.args.board in
    record {
      same = refl;
      few = omega arith;
      below = omega arith;
      at_hand = subst (Near board) (sym c.no_range.ensures) (near-laws.none board);
      size = refl;
    }

pub returns-in_default : goal.returns-in_default
unfolding loop_of
returns-in_default c =
    let made = c.admitted_step-last in
    rw (c.stopped.ensures, ← c.copied.ensures) record { ends = ends-refused c.loop-cycles.invariant made.result made.ensures.left made.ensures.near c.loop-cycles-test.true c.in_default.is; below = c.loop-cycles.invariant.below }

pub overflow_add-cycles : goal.overflow_add-cycles
overflow_add-cycles c =
    let made = c.admitted_step-last in
    let room = c.loop-cycles-test.true in
    omega (
      arith,
      c.requires,
      room,
      costs-few c.loop-cycles.invariant made.result made.ensures.left made.ensures.near room c.in-Ok.is,
    )

pub overflow_add-steps : goal.overflow_add-steps
overflow_add-steps c =
    omega (arith, c.requires, c.loop-cycles-test.true, c.loop-cycles.invariant.few)

pub loop-cycles-smaller : goal.loop-cycles-smaller
loop-cycles-smaller c =
    let made = c.admitted_step-last in
    let room = c.loop-cycles-test.true in
    omega (
      arith,
      room,
      costs-some c.loop-cycles.invariant made.result made.ensures.left made.ensures.near room c.in-Ok.is,
    )

pub loop-cycles-preserved : goal.loop-cycles-preserved
loop-cycles-preserved c =
    let made = c.admitted_step-last in
    goes-round c.loop-cycles.invariant made.result made.ensures.left made.ensures.near c.loop-cycles-test.true c.in-Ok.is made.auto.mem

pub returns : goal.returns
unfolding loop_of
returns c =
    rw (c.stopped-2.ensures, ← c.copied.ensures) record { ends = ends-spent c.loop-cycles.invariant c.loop-cycles-test.false; below = c.loop-cycles.invariant.below }
