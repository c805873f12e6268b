use Rattle.std.proofs.Common.{◌≡◌}
use Rattle.harness.specs.Fields.{fields_of, fields_left}
use Rattle.harness.specs.Words.{with_all}
use Rattle.harness.proofs.words.put.Given as goal

abbrev pub invariant-loop-field : goal.invariant-loop-field
invariant-loop-field l = with_all (fields_left l.field-iterator) l.memory ≡ with_all (fields_of l.fields) l.initial.memory
