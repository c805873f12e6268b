-- Four digits make a number below 65,536.
use native.Mathlib.Omega.{arith}
use Rattle.pair.proofs.FrontLaws.{digit-low-at}
use Rattle.pair.specs.Read.{number_at}
use Rattle.pair.proofs.line.number_at.Goals as goal

pub overflow_mul-result : goal.overflow_mul-result
overflow_mul-result c = omega (arith, digit-low-at c.args.lines.now _ c.digit_value.ensures)

pub overflow_mul-result-2 : goal.overflow_mul-result-2
overflow_mul-result-2 c = omega (arith, digit-low-at c.args.lines.now _ c.digit_value-2.ensures)

pub overflow_add-result : goal.overflow_add-result
overflow_add-result c = omega (arith, digit-low-at c.args.lines.now _ c.digit_value-2.ensures, digit-low-at c.args.lines.now _ c.digit_value.ensures)

pub overflow_mul-result-3 : goal.overflow_mul-result-3
overflow_mul-result-3 c = omega (arith, digit-low-at c.args.lines.now _ c.digit_value-3.ensures)

pub overflow_add-result-2 : goal.overflow_add-result-2
overflow_add-result-2 c = omega (arith, digit-low-at c.args.lines.now _ c.digit_value-3.ensures, digit-low-at c.args.lines.now _ c.digit_value-2.ensures, digit-low-at c.args.lines.now _ c.digit_value.ensures)

pub overflow_add-result-3 : goal.overflow_add-result-3
overflow_add-result-3 c = omega (arith, digit-low-at c.args.lines.now _ c.digit_value-4.ensures, digit-low-at c.args.lines.now _ c.digit_value-3.ensures, digit-low-at c.args.lines.now _ c.digit_value-2.ensures, digit-low-at c.args.lines.now _ c.digit_value.ensures)

pub returns : goal.returns
unfolding number_at
returns c = rw (c.digit_value-4.ensures, c.digit_value-3.ensures, c.digit_value-2.ensures, c.digit_value.ensures)
