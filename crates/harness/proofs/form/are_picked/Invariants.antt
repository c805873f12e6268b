use Rattle.std.proofs.Common.{◌≡◌, drop}
use Rattle.harness.specs.Forms.{are_picked}
use Rattle.harness.proofs.form.are_picked.Given as goal

abbrev pub invariant-loop-letter : goal.invariant-loop-letter
invariant-loop-letter l = are_picked (drop l.letter-index l.letters) l.rest ≡ are_picked l.letters l.value
