-- Laws of a stretch: what is named after one address more, and the words by which its starts are told.
use Prim.Native.Nat.{ℕ, zero, suc, ◌+◌, ◌-◌, ◌/◌, ◌%◌, ◌^◌, ◌<◌, ◌≤◌}
use mathlib.Core.Path.{◌≡◌, ap, sym, ◌∙◌}
use mathlib.Core.Bool.{Bool, true, false}
use mathlib.Core.List.{List}
use native.Mathlib.Nat.{pow-suc, zero-div}
use native.Mathlib.Omega.{arith}
use borrow.Author.Tests.{eq-eqb}
use lib.ListN.{get_or}
use lib.Pow.{pow_pos}
use Rattle.bitset.specs.Bits.{contains}
use Rattle.word.proofs.BitLaws.{digit}
use Rattle.bitset.proofs.DigitLaws.{digit-zero, digit-suc}
use Rattle.meter.specs.Answer.{Answer, Named}
use Rattle.meter.specs.Scan.{longest_by, lowest_by}
use Rattle.meter.specs.Meter.{named_before}
use Rattle.meter.specs.Inner.Stretch.{nothing_named, named_with, starts_in, StretchAdds}

-- nothing is named where there is no address
pub named_none : (is_start : ℕ → Bool) (answers : ℕ → Answer) (first : ℕ) → nothing_named ≡ named_before is_start answers first first
unfolding longest_by lowest_by
named_none is_start answers first = let n : first - first ≡ 0 = omega arith in rw n

-- what is named after one address more: a start, or none
module _ (is_start : ℕ → Bool) (answers : ℕ → Answer) (first at : ℕ) (h : first ≤ at) where
  pub named_start : is_start at ≡ true → named_before is_start answers first (suc at) ≡ named_with (named_before is_start answers first at) (answers at) at
  unfolding longest_by lowest_by
  named_start m =
      let n : suc at - first ≡ suc (at - first) = omega arith in
      let e : first + (at - first) ≡ at = omega arith in
      rw (n, e, m)

  pub named-pass : is_start at ≡ false → named_before is_start answers first (suc at) ≡ named_before is_start answers first at
  unfolding longest_by lowest_by
  named-pass m =
      let n : suc at - first ≡ suc (at - first) = omega arith in
      let e : first + (at - first) ≡ at = omega arith in
      rw (n, e, m)

-- of a word whose bits are all set, each bit is
ones-digit : (n k : ℕ) → k < n → digit (2 ^ n - 1) k ≡ 1
ones-digit zero k h = absurd (omega arith)
ones-digit (suc n) zero h = digit-zero (2 ^ suc n - 1) ∙ rw (pow-suc 2 n) (omega (arith, pow_pos n))
ones-digit (suc n) (suc k) h =
    let e : (2 ^ suc n - 1) / 2 ≡ 2 ^ n - 1 = rw (pow-suc 2 n) (omega (arith, pow_pos n)) in
    digit-suc (2 ^ suc n - 1) k ∙ ap (λ (w : ℕ). digit w k) e ∙ ones-digit n k (omega arith)

pub every-start : (a : ℕ) → starts_in 0xFFFFFFFFFFFFFFFF a ≡ true
every-start a = eq-eqb _ _ (ones-digit 64 (a % 64) (omega arith))

-- a word of a set tells its members, and one that is 0 has none
pub word-tells : (clear : List ℕ) (i a : ℕ) → a / 64 ≡ i → contains clear a ≡ starts_in (get_or clear i 0) a
unfolding contains
word-tells clear i a e = rw e

pub adds-nothing : (answers : ℕ → Answer) (from n : ℕ) (b : Named) → StretchAdds (starts_in 0) answers from (from + n) b b
adds-nothing answers from zero b f a p q e = let z : from + zero ≡ from = omega arith in rw z e
adds-nothing answers from (suc n) b f a p q e =
    let z : from + suc n ≡ suc (from + n) = omega arith in
    rw z
    (adds-nothing answers from n b f a p (λ s i j. q s i (omega arith)) e
    ∙ sym (named-pass f answers a (from + n) (omega arith) (q (from + n) (omega arith) (omega arith) ∙ rw (zero-div (2 ^ ((from + n) % 64))))))
