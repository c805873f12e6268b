-- The loop over the records of a file, by the record `Walked`.
use native.Mathlib.Omega.{arith}
use Rattle.word.proofs.SetsLaws.{rest}
use Rattle.report.proofs.WalkLaws.{walked_none, walked-record, rest-shorter, walked_on, walked_end}
use Rattle.report.proofs.file.push_records.Goals as goal

pub loop-found-init : goal.loop-found-init
loop-found-init c = rw (rest c.args.file.now 4) (walked_none _ _ _ _ c.requires.1 c.requires.0)

pub push_record-requires : goal.push_record-requires
push_record-requires c =
    let k = c.loop-found.invariant in
    let b = walked-record _ k c.first_record.ensures c.in-Some.is in
    (b.sound.some, b.sound.within, (k.under, omega (arith, k.size, k.adds.stays.size, b.sound.complete)))

-- the record takes no more than what is left
pub slice_bounds-rest-start-in-Some : goal.slice_bounds-rest-start-in-Some
slice_bounds-rest-start-in-Some c =
    let b = walked-record _ c.loop-found.invariant c.first_record.ensures c.in-Some.is in
    omega (arith, c.size.ensures, b.sound.complete)

pub slice_bounds-rest-count-in-Some : goal.slice_bounds-rest-count-in-Some
slice_bounds-rest-count-in-Some c =
    let b = walked-record _ c.loop-found.invariant c.first_record.ensures c.in-Some.is in
    omega (arith, c.size.ensures, b.sound.complete)

pub loop-found-smaller : goal.loop-found-smaller
loop-found-smaller c =
    let b = walked-record _ c.loop-found.invariant c.first_record.ensures c.in-Some.is in
    rest-shorter c.loop-found.rest.now c.size.result (omega (arith, c.size.ensures)) (omega (arith, c.size.ensures, b.sound.complete))

pub loop-found-preserved : goal.loop-found-preserved
loop-found-preserved c =
    rw (rest c.loop-found.rest.now c.size.result, c.size.ensures)
    (walked_on _ c.loop-found.invariant c.first_record.ensures c.in-Some.is c.push_record.ensures)

pub returns : goal.returns
returns c = walked_end _ c.loop-found.invariant c.first_record.ensures c.in_default.is
