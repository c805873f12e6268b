-- `jump_line`: the return register is told by its two bits.
use Rattle.std.proofs.Common.{arith}
use Rattle.std.proofs.lemmas.Bool.Decides.{nat_tests}
use Rattle.listing.proofs.Entries.{jump-line}
use Rattle.listing.proofs.entry.jump_line.Goals as goal

pub returns-in-3 : goal.returns-in-3
returns-in-3 c = rw (jump-line c.args.second c.args.third) (grind (arith, nat_tests))

pub returns-in_default : goal.returns-in_default
returns-in_default c = rw (jump-line c.args.second c.args.third) (grind (arith, nat_tests))
