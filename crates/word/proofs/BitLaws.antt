-- The bits of a number: of a part of it, and of two parts put together; a number is the sum of its bits, and is fixed by them.
use Rattle.std.proofs.Common.{◌≡◌, ℕ, zero, suc, ◌+◌, ◌-◌, ◌*◌, ◌/◌, ◌%◌, ◌^◌, ◌<◌, Bool, true, false, cond, eqb, sym, refl, ap, ◌∙◌, ap₂, mod-lt, mod-eq_of_lt, zero-lt-suc, arith, lit<, pow_pos, shr-shr}
use native.Mathlib.Nat.{mod-one, pow-succ'}
use lib.Arith.{mod-mul}
use lib.Pow.{field, mod-mod-pow, high, low}
use Rattle.word.specs.Word.{bit, bit_value}

-- bit k of a number, as a number: `bit k w` asks whether it is 1
abbrev pub digit : ℕ → ℕ → ℕ
digit w k = w / 2 ^ k % 2

pub digit_lt : (w k : ℕ) → digit w k < 2
digit_lt w k = mod-lt (w / 2 ^ k) (zero-lt-suc 1)

-- a bit is 0 or 1
pub bit-count : (x : ℕ) → x < 2 → cond (eqb x 1) 1 0 ≡ x
bit-count zero h = refl
bit-count (suc zero) h = refl
bit-count (suc (suc x)) h = absurd (omega arith)

pub bit-digit : (n x : ℕ) → bit_value (bit n x) ≡ digit x n
bit-digit n x = bit-count (digit x n) (digit_lt x n)

pub flag-bit : (b : Bool) → bit 0 (bit_value b) ≡ b
flag-bit true = refl
flag-bit false = refl

-- without its lowest k bits the others move down
pub bit-above : (k n x : ℕ) → bit n (x / 2 ^ k) ≡ bit (k + n) x
bit-above k n x = rw (shr-shr x k n)

-- without the bits from k on the lower ones stay
below : (j n x : ℕ) → digit (x % 2 ^ (j + 1 + n)) n ≡ digit x n
below j n x = rw (field x (j + 1) n, mod-mod-pow (x / 2 ^ n) j 1)

pub bit_below : (k n x : ℕ) → n < k → bit n (x % 2 ^ k) ≡ bit n x
bit_below k n x h =
    let e : k - suc n + 1 + n ≡ k = omega arith in
    rw (← e) (ap (λ (d : ℕ). eqb d 1) (below (k - suc n) n x))

-- a number put together from its lowest k bits and what stands above them
module _ (y k : ℕ) {i : ℕ} (h : i < 2 ^ k) where
  pub joined-high : (n : ℕ) → bit (k + n) (y * 2 ^ k + i) ≡ bit n y
  joined-high n = sym (bit-above k n (y * 2 ^ k + i)) ∙ ap (bit n) (high y k h)

  pub joined-low : (n : ℕ) → n < k → bit n (y * 2 ^ k + i) ≡ bit n i
  joined-low n p = sym (bit_below k n (y * 2 ^ k + i) p) ∙ ap (bit n) (low y k h)

-- the number of n bits, bit k of which counts 2 ^ k
abbrev pub sum_of : (ℕ → Bool) → ℕ → ℕ
sum_of b zero = 0
sum_of b (suc n) = bit_value (b n) * 2 ^ n + sum_of b n

pub sum_same : (b d : ℕ → Bool) (n : ℕ) → ((k : ℕ) → k < n → b k ≡ d k) → sum_of b n ≡ sum_of d n
sum_same b d zero h = refl
sum_same b d (suc n) h = ap₂ (λ (t : Bool) (s : ℕ). bit_value t * 2 ^ n + s) (h n (omega arith)) (sum_same b d n (λ k p. h k (omega arith)))

low_sum : (n x : ℕ) → sum_of (λ k. bit k x) n ≡ x % 2 ^ n
low_sum zero x = sym (mod-one x)
low_sum (suc n) x = rw (bit-digit n x, low_sum n x, pow-succ' 2 n) (sym (mod-mul x {m = 2} (lit< tt) (pow_pos n)))

-- a number is the sum of its bits
pub sum-of-bits : (n x : ℕ) → x < 2 ^ n → x ≡ sum_of (λ k. bit k x) n
sum-of-bits n x h = sym (low_sum n x ∙ mod-eq_of_lt h)

-- and is fixed by them
pub equal-bits : (n x y : ℕ) → x < 2 ^ n → y < 2 ^ n → ((k : ℕ) → k < n → bit k x ≡ bit k y) → x ≡ y
equal-bits n x y p q h = sum-of-bits n x p ∙ sum_same _ _ n h ∙ sym (sum-of-bits n y q)
