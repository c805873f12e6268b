use Rattle.std.proofs.Common.{◌≡◌}
use Rattle.listing.specs.Inner.Encode.{read_in, line_read}
use Rattle.listing.proofs.encode.read.Given as goal

abbrev pub invariant-loop-symbol : goal.invariant-loop-symbol
invariant-loop-symbol l = read_in l.symbol-iterator.a.rest.now l.symbol-iterator.b.rest.now l.line ≡ line_read l.row l.text
