-- The laws of digits.
use Prim.Native.Nat.{ℕ, ◌<◌}
use Prim.Native.Char.{code}
use mathlib.Core.Path.{◌≡◌}
use mathlib.Core.Bool.{Bool}
use native.Mathlib.Omega.{arith}
use lib.Dec.{eqb, ltb, eqb→eq}
use Rattle.word.proofs.Choice.{cond_both}
use Rattle.text.specs.Text.{digit_of, digit_value}
use Rattle.text.specs.Laws.{DigitLaws}
use Rattle.text.proofs.Tests.{below_at}

abbrev digit-back : ℕ → Bool
digit-back v = eqb (digit_value (digit_of v)) v

back : (v : ℕ) → v < 16 → digit_value (digit_of v) ≡ v
unfolding digit_value digit_of
back v h = eqb→eq (digit_value (digit_of v)) v (below_at digit-back 16 tt v h)

low : (b : ℕ) → digit_value b < 16
unfolding digit_value
low b = cond_both (λ (n : ℕ). n < 16) (ltb b (code "A")) (omega arith) (omega arith)

pub digit-laws : DigitLaws
digit-laws = record { back = back; low = low }
