-- `hex_byte`: digit by digit.
use Rattle.std.proofs.Common.{arith}
use Rattle.harness.proofs.text.hex_byte.Goals as goal

pub returns : goal.returns
returns c = rw (← c.from_column-digits.ensures.0) (omega arith)
