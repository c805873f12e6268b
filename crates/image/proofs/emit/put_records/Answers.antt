-- The writer's loop over records, by the record `Emitting`.
use Rattle.std.proofs.Common.{◌∙◌, arith}
use Rattle.std.specs.Slice.Iter.{chunks_rest}
use Rattle.image.proofs.EmitLaws.{Taken, emitting, emitting-length, emitting-fits, emitting-room, emitting-on, emitting-end}
use Rattle.image.proofs.emit.put_records.Goals as goal
use Rattle.image.proofs.emit.put_records.Goals.{In-Some}

-- the words of the next record, taken off those that are left
taken : (c : In-Some) → Taken (chunks_rest c.loop-words.words-iterator) c.in-Some.words.now (chunks_rest c.next.new.self)
taken c =
    let s = c.in-Some.ensures.steps.1 in
    record { some = s.2; is = s.0; size = rw c.loop-words.invariant.size at s.1 }

pub loop-words-init : goal.loop-words-init
loop-words-init c =
    let e = c.into_iter-words-iterator.ensures.into_iter_gives in
    let k = c.chunks-words-items.ensures in
    record { size = rw (e, k.size); put = rw (e, k.rest) (emitting _ _ _ c.requires.1) }

pub overflow_add-next : goal.overflow_add-next
overflow_add-next c =
    omega (arith, emitting-fits c.loop-words.invariant.put (taken (goal.at.overflow_add-next c).In-Some), emitting-length c.loop-words.invariant.put)

pub slice_bounds-put_record-end : goal.slice_bounds-put_record-end
slice_bounds-put_record-end c = emitting-fits c.loop-words.invariant.put (taken (goal.at.slice_bounds-put_record-end c).In-Some)

pub put_record-added-requires : goal.put_record-added-requires
put_record-added-requires c =
    let t = taken (goal.at.put_record-added-requires c).In-Some in
    (omega (arith, t.size), emitting-room c.loop-words.invariant.put t)

pub loop-words-preserved : goal.loop-words-preserved
loop-words-preserved c =
    let put = c.put_record-added.ensures in
    record {
      size = c.in-Some.ensures.steps.0 ∙ c.loop-words.invariant.size;
      put = emitting-on c.loop-words.invariant.put (taken (goal.at.loop-words-preserved c).In-Some) put.0 put.1 c.wrapping_add-sum.ensures;
    }

pub returns : goal.returns
returns c = emitting-end c.loop-words.invariant.put c.in-None.ensures.steps.1.0
