-- The second pass, by the record `Storing`: what is left is known to be whole.
use Rattle.std.proofs.Common.{arith, length-drop}
use Rattle.word.proofs.SetsLaws.{rest}
use Rattle.image.proofs.PassLaws.{storing-part, storing-on, storing-end}
use Rattle.image.proofs.store.store_records.Goals as goal

pub store_record-requires : goal.store_record-requires
store_record-requires c =
    let s = storing-part c.loop-record.invariant c.in-Some.ensures in
    (s.complete, omega (arith, s.within, c.loop-record.invariant.size))

pub slice_bounds-rest-count : goal.slice_bounds-rest-count
slice_bounds-rest-count c = omega (arith, (storing-part c.loop-record.invariant c.in-Some.ensures).complete)

pub slice_bounds-rest-start : goal.slice_bounds-rest-start
slice_bounds-rest-start c = omega (arith, (storing-part c.loop-record.invariant c.in-Some.ensures).complete)

pub loop-record-smaller : goal.loop-record-smaller
loop-record-smaller c =
    let s = storing-part c.loop-record.invariant c.in-Some.ensures in
    omega (arith, s.complete, length-drop c.size.result c.loop-record.rest.now)

pub loop-record-preserved : goal.loop-record-preserved
loop-record-preserved c =
    rw (rest c.loop-record.rest.now c.size.result, c.size.ensures)
    (storing-on c.loop-record.invariant c.in-Some.ensures c.store_record.ensures)

pub returns : goal.returns
returns c = storing-end c.loop-record.invariant c.in_default.ensures
