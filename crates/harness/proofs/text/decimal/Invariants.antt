use Rattle.std.proofs.Common.{◌≡◌}
use Rattle.harness.specs.Text.{decimal_number}
use Rattle.harness.proofs.text.decimal.Given as goal

abbrev pub invariant-loop-i : goal.invariant-loop-i
invariant-loop-i l = l.number ≡ decimal_number l.i l.digits
