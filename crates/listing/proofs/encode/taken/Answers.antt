-- `encode::taken`: a digit has a value below 16.
use Rattle.std.proofs.Common.{arith}
use Rattle.text.proofs.Digits.{digit-laws}
use Rattle.listing.proofs.encode.taken.Goals as goal

pub overflow_add-result : goal.overflow_add-result
overflow_add-result c = omega (arith, digit-laws.low c.args.byte)
