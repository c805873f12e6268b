-- `digit_at`: a digit by its byte.
use Rattle.std.proofs.Common.{arith}
use Rattle.std.proofs.lemmas.Grind.{common_steps}
use Rattle.harness.specs.Text.{digit_value}
use Rattle.harness.proofs.text.digit_at.Goals as goal

pub returns-then-decimal : goal.returns-then-decimal
unfolding digit_value
returns-then-decimal c = (grind (arith, common_steps), omega arith)

pub returns-else-decimal : goal.returns-else-decimal
unfolding digit_value
returns-else-decimal c = (grind (arith, common_steps), omega arith)
