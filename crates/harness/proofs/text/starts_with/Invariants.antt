-- `starts_with`: what is left of the text starts with what is left of the start as the whole does.
use Rattle.std.proofs.Common.{◌≡◌, drop}
use Rattle.harness.specs.Text.{starts_with}
use Rattle.harness.proofs.text.starts_with.Given as goal

abbrev pub invariant-loop-byte : goal.invariant-loop-byte
invariant-loop-byte l = starts_with l.rest (drop l.byte-index l.start) ≡ starts_with l.fn.text l.start
