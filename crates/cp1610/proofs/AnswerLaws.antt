-- Results as 64 bits: a refusal's number and a success are told apart, and a success is read back from its two halves. And the
-- machine from its words.
use Prim.Native.Nat.{ℕ, ◌-◌, ◌≤◌, ◌<◌, ◌/◌, ◌%◌}
use mathlib.Core.Path.{◌≡◌, refl, sym, ◌∙◌}
use mathlib.Core.Bool.{Bool, true, false, false≢true}
use mathlib.Core.List.{List, [], ◌∷◌}
use native.Mathlib.Omega.{arith}
use borrow.Author.Tests.{lt-ltb, le-ltb}
use lib.ListN.{length, length-drop}
use Rattle.refusal.specs.declared.Refusal.{Refusal}
use Rattle.refusal.specs.Refusals.{refusal_number}
use Rattle.refusal.proofs.Laws.{numbers-low}
use Rattle.cpu.specs.Machine.{Machine}
use Rattle.cp1610.specs.Words.{state_length, eight, is_set, flag_word, unpacked, packed}
use Rattle.cp1610.specs.Answers.{is_refusal, success_word}
use Rattle.cp1610.specs.Laws.{UnpacksPacked, KeepsRest}

eight-same : (r : List ℕ) → length r ≡ 8 → eight r ≡ r
eight-same [] e = absurd (omega arith)
eight-same (a ∷ []) e = absurd (omega arith)
eight-same (a ∷ b ∷ []) e = absurd (omega arith)
eight-same (a ∷ b ∷ c ∷ []) e = absurd (omega arith)
eight-same (a ∷ b ∷ c ∷ d ∷ []) e = absurd (omega arith)
eight-same (a ∷ b ∷ c ∷ d ∷ f ∷ []) e = absurd (omega arith)
eight-same (a ∷ b ∷ c ∷ d ∷ f ∷ g ∷ []) e = absurd (omega arith)
eight-same (a ∷ b ∷ c ∷ d ∷ f ∷ g ∷ h ∷ []) e = absurd (omega arith)
eight-same (a ∷ b ∷ c ∷ d ∷ f ∷ g ∷ h ∷ k ∷ []) e = refl
eight-same (a ∷ b ∷ c ∷ d ∷ f ∷ g ∷ h ∷ k ∷ x ∷ r) e = absurd (omega arith)

pub set-flag : (b : Bool) → is_set (flag_word b) ≡ b
set-flag true = refl
set-flag false = refl

pub unpacks-packed : UnpacksPacked
unfolding unpacked packed
unpacks-packed words m e = simp set-flag (rw (eight-same m.registers e))

pub keeps-rest : (words : List ℕ) (m : Machine) → KeepsRest words m
unfolding packed
keeps-rest words m = record { rest = refl; size = λ h. omega (arith, length-drop state_length words) }

-- no refusal's number reaches the kinds
pub number-low : (r : Refusal) → is_refusal (refusal_number r) ≡ true
number-low r = lt-ltb (refusal_number r) 0x100000000 (omega (arith, numbers-low r))

-- and no success is a refusal
pub success-high : (kind value : ℕ) → 1 ≤ kind → is_refusal (success_word kind value) ≡ false
unfolding success_word
success-high kind value some = le-ltb (success_word kind value) 0x100000000 (omega arith)

-- what is told apart so is not both
pub no-refusal : {A : Type 0} (result : ℕ) → is_refusal result ≡ false → is_refusal result ≡ true → A
no-refusal result high low = absurd (false≢true (sym high ∙ low))

module _ (kind value : ℕ) (low : value < 0x100000000) where
  pub success-kind : success_word kind value / 0x100000000 ≡ kind
  unfolding success_word
  success-kind = omega arith

  pub success-value : success_word kind value % 0x100000000 ≡ value
  unfolding success_word
  success-value = omega arith

-- "2^32 + number of records", also where the number has more than 32 bits
pub success-count : (count : ℕ) → success_word 1 count - 0x100000000 ≡ count
unfolding success_word
success-count count = omega arith
