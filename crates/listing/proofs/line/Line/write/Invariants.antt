use Rattle.std.proofs.Common.{◌≡◌, ◌++◌, take, drop}
use Rattle.listing.specs.Inner.Line.{text_of}
use Rattle.listing.proofs.line.Line.write.Given as goal

abbrev pub invariant-loop-i : goal.invariant-loop-i
invariant-loop-i l = l.text ≡ take l.i (text_of l.self) ++ drop l.i l.initial.text
