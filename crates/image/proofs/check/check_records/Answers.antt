-- The first pass, by the record `Checking`: each turn is a law of PassLaws.
use Rattle.std.proofs.Common.{◌≡◌, Ok, refl, arith, length-take, length-drop}
use Rattle.std.proofs.lemmas.Result.{err_from_is_err_and}
use Rattle.word.proofs.SetsLaws.{rest}
use Rattle.image.specs.Format.{record_limit}
use Rattle.image.specs.Inner.Pass.{part_read}
use Rattle.image.specs.Read.{record_part}
use Rattle.image.proofs.ReadLaws.{Sound}
use Rattle.image.proofs.PassLaws.{checking, part-whole, reading-past-mark, checking-on, checking-tail, checking-broken}
use Rattle.image.proofs.check.check_records.Goals as goal
use Rattle.image.proofs.check.check_records.Goals.{In-Record}

pub loop-record-init : goal.loop-record-init
loop-record-init c = checking _ _ _

pub returns-in_err-record : goal.returns-in_err-record
returns-in_err-record c =
    let p = err_from_is_err_and c.from_residual.result c.from_residual.ensures.1 in
    rw (p.1, p.2) (checking-broken c.loop-record.invariant c.in_err-record.ensures refl)

-- what the record at the front shows
record_is : (c : In-Record) → part_read (Ok c.in_ok-record.field-0) ≡ record_part c.in-Record.record.address c.in-Record.record.count
record_is c = rw c.in-Record.is

shown : (c : In-Record) → Sound record_limit c.args.len c.loop-record.rest.now c.in-Record.record.address c.in-Record.record.count
shown c = part-whole _ _ _ c.in_ok-record.ensures (record_is c)

pub slice_bounds-sum_record-end : goal.slice_bounds-sum_record-end
slice_bounds-sum_record-end c = omega (arith, (shown (goal.at.slice_bounds-sum_record-end c).In-Record).complete, length-take c.size-size.result c.loop-record.rest.now)

pub slice_bounds-rest-count : goal.slice_bounds-rest-count
slice_bounds-rest-count c = omega (arith, (shown (goal.at.slice_bounds-rest-count c).In-Record).complete)

pub slice_bounds-rest-start : goal.slice_bounds-rest-start
slice_bounds-rest-start c = omega (arith, (shown (goal.at.slice_bounds-rest-start c).In-Record).complete)

pub sum_record-requires : goal.sum_record-requires
sum_record-requires c =
    let i = (goal.at.sum_record-requires c).In-Record in
    rw c.size-size.ensures (reading-past-mark _ _ _ i.in_ok-record.ensures (record_is i))

pub loop-record-smaller : goal.loop-record-smaller
loop-record-smaller c =
    let s = shown (goal.at.loop-record-smaller c).In-Record in
    omega (arith, s.complete, length-drop c.size-size.result c.loop-record.rest.now)

pub loop-record-preserved : goal.loop-record-preserved
loop-record-preserved c =
    let i = (goal.at.loop-record-preserved c).In-Record in
    rw (rest c.loop-record.rest.now c.size-size.result, c.size-size.ensures)
    (checking-on c.loop-record.invariant i.in_ok-record.ensures (record_is i) (rw c.size-size.ensures at c.sum_record.ensures) c.wrapping_add-sum.ensures)

pub returns-in-Tail : goal.returns-in-Tail
returns-in-Tail c = checking-tail c.loop-record.invariant c.in_ok-record.ensures (rw c.in-Tail.is)
