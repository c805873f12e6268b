-- The bits of a word as numbers: of a union, of a single bit, and of a word cut in half.
use Prim.Native.Nat.{ℕ, zero, suc, ◌+◌, ◌-◌, ◌*◌, ◌/◌, ◌%◌, ◌^◌, ◌<◌, max}
use mathlib.Core.Path.{◌≡◌, refl, sym, ap, ◌∙◌}
use mathlib.Core.Bool.{◌||◌}
use native.Mathlib.Nat.{one-le-pow, pow-suc, zero-lt-suc, mul-div_cancel, div-eq_of_lt, one-mul, mul-mod_left}
use native.Mathlib.Decide.{dec_lt}
use native.Mathlib.Numerals.{one-add}
use native.Mathlib.Omega.{arith}
use lib.Dec.{eqb}
use lib.Pow.{pow-lt, pow-add, shr-shr, shl-shr, shl_exact}
use lib.Bits.{bit_or, or_shr, or_step, or_zero_r}
use Rattle.word.proofs.BitLaws.{digit}

pub digit_or : (a b k : ℕ) → digit (bit_or a b) k ≡ max (digit a k) (digit b k)
digit_or a b k = rw (or_shr, or_step (a / 2 ^ k) (b / 2 ^ k)) (omega arith)

pub digit-pow-same : (k : ℕ) → digit (2 ^ k) k ≡ 1
digit-pow-same k = ap (λ (x : ℕ). x % 2) (ap (λ (x : ℕ). x / 2 ^ k) (sym (one-mul (2 ^ k))) ∙ shl-shr 1 k)

pow-above : (k d : ℕ) → digit (2 ^ (suc d + k)) k ≡ 0
pow-above k d = rw (pow-add 2 (suc d) k, shl-shr (2 ^ suc d) k, pow-suc 2 d) (mul-mod_left (2 ^ d) 2)

pub digit-pow-other : (j k : ℕ) → (j ≡ k → ⊥) → digit (2 ^ j) k ≡ 0
digit-pow-other j k h = go (dec_lt j k)
  where
    go : Dec (j < k) → digit (2 ^ j) k ≡ 0
    go (yes p) = rw (div-eq_of_lt (pow-lt p))
    go (no p) =
        let e : suc (j - suc k) + k ≡ j = omega arith in
        rw (← e) (pow-above k (j - suc k))

-- a single bit as the code makes it
pub shl_one : (k : ℕ) → k < 64 → 1 * 2 ^ k % 2 ^ 64 ≡ 2 ^ k
shl_one k h = shl_exact 1 k 64 (omega arith) (omega arith) ∙ one-mul (2 ^ k)

-- the lowest bit, and those above it
pub digit-zero : (w : ℕ) → digit w 0 ≡ w % 2
digit-zero w = omega arith

pub digit-suc : (w k : ℕ) → digit w (suc k) ≡ digit (w / 2) k
digit-suc w k = rw (← one-add k, ← shr-shr w 1 k)

pub bit-either : (x y : ℕ) → x < 2 → y < 2 → eqb (max x y) 1 ≡ (eqb x 1 || eqb y 1)
bit-either zero zero p q = refl
bit-either zero (suc zero) p q = refl
bit-either (suc zero) zero p q = refl
bit-either (suc zero) (suc zero) p q = refl
bit-either zero (suc (suc y)) p q = absurd (omega arith)
bit-either (suc zero) (suc (suc y)) p q = absurd (omega arith)
bit-either (suc (suc x)) y p q = absurd (omega arith)

-- a bit that is set already changes nothing
pub or-known : (w k : ℕ) → digit w k ≡ 1 → bit_or w (2 ^ k) ≡ w
or-known w zero h = rw (or_step w 1, or_zero_r (w / 2)) (omega (arith, rw (digit-zero w) at h))
or-known w (suc k) h =
    let e : bit_or (w / 2) (2 ^ k) ≡ w / 2 = or-known (w / 2) k (sym (digit-suc w k) ∙ h) in
    let p : 2 ^ suc k / 2 ≡ 2 ^ k = rw (pow-suc 2 k) (mul-div_cancel (2 ^ k) (zero-lt-suc 1)) in
    let q : 2 ^ suc k % 2 ≡ 0 = rw (pow-suc 2 k) (mul-mod_left (2 ^ k) 2) in
    rw (or_step w (2 ^ suc k), p, q, e) (omega arith)

-- a word of ones
pub digit-full : (n k : ℕ) → k < n → digit (2 ^ n - 1) k ≡ 1
digit-full zero k h = absurd (omega arith)
digit-full (suc n) zero h = digit-zero (2 ^ suc n - 1) ∙ rw (pow-suc 2 n) (omega (arith, one-le-pow n 2 (zero-lt-suc 1)))
digit-full (suc n) (suc k) h =
    let e : (2 ^ suc n - 1) / 2 ≡ 2 ^ n - 1 = rw (pow-suc 2 n) (omega (arith, one-le-pow n 2 (zero-lt-suc 1))) in
    digit-suc (2 ^ suc n - 1) k ∙ ap (λ (w : ℕ). digit w k) e ∙ digit-full n k (omega arith)
