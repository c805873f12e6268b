use Rattle.std.proofs.Common.{◌≡◌}
use Rattle.std.specs.Slice.Iter.{chunks_rest, chunks_size}
use Rattle.image.specs.Format.{record_limit}
use Rattle.image.proofs.EmitLaws.{Emitting}
use Rattle.image.proofs.emit.put_records.Given as goal

abbrev pub invariant-loop-words : goal.invariant-loop-words
invariant-loop-words l =
    record {
      size : chunks_size l.words-iterator ≡ record_limit;
      put : Emitting l.initial.room l.first l.region (chunks_rest l.words-iterator) l.room l.at l.address l.sum;
    }
