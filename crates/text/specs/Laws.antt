-- What holds of digits. Statements; the proofs are in proofs/.
use Rattle.std.specs.Prelude.{ℕ, ◌<◌, ◌≡◌}
use Rattle.text.specs.Text.{digit_of, digit_value}

-- a digit's value is the value that it was printed for, and every byte's lies below 16
pub record DigitLaws : Type 0 where
  pub back : (v : ℕ) → v < 16 → digit_value (digit_of v) ≡ v
  pub low : (b : ℕ) → digit_value b < 16
