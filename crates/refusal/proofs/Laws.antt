-- No two refusals share a number, and every number is low.
use native.Mathlib.Omega.{arith}
use Rattle.refusal.specs.Refusals.{NumbersApart, NumbersLow}

pub numbers_apart : NumbersApart
numbers_apart a b e = grind arith

pub numbers-low : NumbersLow
numbers-low r = grind arith
