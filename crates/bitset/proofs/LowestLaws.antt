-- The lowest member: what it is, and the lowest bit of a word.
use Prim.Native.Nat.{ℕ, zero, suc, ◌+◌, ◌*◌, ◌/◌, ◌%◌, ◌^◌, ◌<◌}
use mathlib.Core.Path.{◌≡◌, refl, sym, ap, ◌∙◌}
use mathlib.Core.Bool.{Bool, true, false, cond, true≢false}
use mathlib.Core.List.{List}
use mathlib.Core.Logic.{⊎_elim}
use native.Mathlib.Nat.{eq-or-lt_of_le, le_of_suc-le-suc, zero-div}
use native.Mathlib.Decide.{dec_lt, ℕ_discrete}
use native.Mathlib.Numerals.{add-one}
use native.Mathlib.Omega.{arith}
use lib.Dec.{eqb}
use lib.ListN.{get_or}
use lib.Pow.{shr_lt}
use lib.Count.{count_trailing_zeros, under}
use Rattle.bitset.specs.Bits.{contains, LowestOrNone, none, lowest_at, keep_lowest, lowest_below}
use Rattle.bitset.specs.Laws.{IsLowest, LowestLaws}
use Rattle.word.proofs.BitLaws.{digit}
use Rattle.bitset.proofs.DigitLaws.{digit-zero, digit-suc}

keep-is : (f : ℕ → Bool) (n : ℕ) (l : LowestOrNone) → IsLowest f n l → f n ≡ true → IsLowest f (suc n) (keep_lowest l n)
keep-is f n none h e = (omega arith, e, h)
keep-is f n (lowest_at a) h e = (omega (arith, h.0), h.1, h.2)

same-is : (f : ℕ → Bool) (n : ℕ) (l : LowestOrNone) → IsLowest f n l → f n ≡ false → IsLowest f (suc n) l
same-is f n none h e = λ a p. ⊎_elim (λ q. ap f q ∙ e) (λ q. h a q) (eq-or-lt_of_le (le_of_suc-le-suc p))
same-is f n (lowest_at a) h e = (omega (arith, h.0), h.1, h.2)

lowest_is : (f : ℕ → Bool) (n : ℕ) → IsLowest f n (lowest_below f n)
unfolding lowest_below
lowest_is f zero = λ a p. absurd (omega arith)
lowest_is f (suc n) = go (f n) refl (lowest_is f n)
  where
    go : (b : Bool) → f n ≡ b → IsLowest f n (lowest_below f n) → IsLowest f (suc n) (cond b (keep_lowest (lowest_below f n) n) (lowest_below f n))
    go true e h = keep-is f n (lowest_below f n) h e
    go false e h = same-is f n (lowest_below f n) h e

pub lowest-same : (f g : ℕ → Bool) (n : ℕ) → ((a : ℕ) → f a ≡ g a) → lowest_below f n ≡ lowest_below g n
unfolding lowest_below
lowest-same f g zero h = refl
lowest-same f g (suc n) h = rw (h n, lowest-same f g n h)

-- a member is no other's lower non-member
clash : {A : Type 0} {b : Bool} → b ≡ true → b ≡ false → A
clash p q = let z : true ≡ false = sym p ∙ q in absurd (true≢false z)

only_one : (f : ℕ → Bool) (n : ℕ) (x y : LowestOrNone) → IsLowest f n x → IsLowest f n y → x ≡ y
only_one f n none none h k = refl
only_one f n none (lowest_at b) h k = clash k.1 (h b k.0)
only_one f n (lowest_at a) none h k = clash h.1 (k a h.0)
only_one f n (lowest_at a) (lowest_at b) h k = go (dec_lt a b) (dec_lt b a)
  where
    go : Dec (a < b) → Dec (b < a) → lowest_at a ≡ lowest_at b
    go (yes p) q = clash h.1 (k.2 a p)
    go (no p) (yes q) = clash k.1 (h.2 b q)
    go (no p) (no q) = let e : a ≡ b = omega arith in ap lowest_at e

pub lowest-laws : LowestLaws
lowest-laws = record { is_lowest = lowest_is; only = only_one }

-- the lowest bit of a word of k bits that is not 0: it is 1, and those below it are 0
pub record LowestBit (k w : ℕ) : Type 0 where
  pub within : count_trailing_zeros k w < k
  pub is_one : digit w (count_trailing_zeros k w) ≡ 1
  pub zeros_below : (j : ℕ) → j < count_trailing_zeros k w → digit w j ≡ 0

-- of an odd number it is the lowest of all; of an even one that of its half
odd-bit : (k w : ℕ) → w % 2 ≡ 1 → LowestBit (suc k) w
unfolding count_trailing_zeros
odd-bit k w e =
    let t : count_trailing_zeros (suc k) w ≡ 0 = ap (λ (d : ℕ). under d (count_trailing_zeros k (w / 2))) e in
    record { within = rw t (omega arith); is_one = rw t (digit-zero w ∙ e); zeros_below = λ j q. absurd (omega arith) }

even-bit : (k w : ℕ) → w % 2 ≡ 0 → LowestBit k (w / 2) → LowestBit (suc k) w
unfolding count_trailing_zeros
even-bit k w e r =
    record { within = rw t (omega (arith, r.within)); is_one = rw t (digit-suc w (count_trailing_zeros k (w / 2)) ∙ r.is_one); zeros_below = below }
  where
    t : count_trailing_zeros (suc k) w ≡ suc (count_trailing_zeros k (w / 2))
    t = ap (λ (d : ℕ). under d (count_trailing_zeros k (w / 2))) e

    below : (j : ℕ) → j < count_trailing_zeros (suc k) w → digit w j ≡ 0
    below zero q = digit-zero w ∙ e
    below (suc j) q = digit-suc w j ∙ r.zeros_below j (omega (arith, t))

pub lowest-bit : (k w : ℕ) → w < 2 ^ k → 0 < w → LowestBit k w
lowest-bit zero w h p = absurd (omega arith)
lowest-bit (suc k) w h p = go (ℕ_discrete (w % 2) 1) (λ q. lowest-bit k (w / 2) (shr_lt k 1 (rw (← add-one k) at h)) q)
  where
    go : Dec (w % 2 ≡ 1) → (0 < w / 2 → LowestBit k (w / 2)) → LowestBit (suc k) w
    go (yes e) half = odd-bit k w e
    go (no e) half = even-bit k w (omega arith) (half (omega arith))

-- so in a set: none of the words below word i has a member, and word i is not 0
pub lowest-in-word :
    (words : List ℕ) (i : ℕ) → i < 1024 → get_or words i 0 < 2 ^ 64 → 0 < get_or words i 0 → ((a : ℕ) → a < 64 * i → contains words a ≡ false) →
    IsLowest (contains words) 65536 (lowest_at (64 * i + count_trailing_zeros 64 (get_or words i 0)))
unfolding contains
lowest-in-word words i l h p none_below = (omega (arith, r.within), member, lower)
  where
    w : ℕ
    w = get_or words i 0

    r : LowestBit 64 w
    r = lowest-bit 64 w h p

    at : (j : ℕ) → j < 64 → contains words (64 * i + j) ≡ eqb (digit w j) 1
    at j q =
        let d : (64 * i + j) / 64 ≡ i = omega arith in
        let m : (64 * i + j) % 64 ≡ j = omega arith in
        rw (d, m)

    member : contains words (64 * i + count_trailing_zeros 64 w) ≡ true
    member = at (count_trailing_zeros 64 w) r.within ∙ rw r.is_one

    lower : (b : ℕ) → b < 64 * i + count_trailing_zeros 64 w → contains words b ≡ false
    lower b q = go (dec_lt b (64 * i))
      where
        go : Dec (b < 64 * i) → contains words b ≡ false
        go (yes s) = none_below b s
        go (no s) =
            let e : 64 * i + b % 64 ≡ b = omega (arith, r.within) in
            rw (← e) (at (b % 64) (omega arith) ∙ rw (r.zeros_below (b % 64) (omega arith)))

-- .. and a word that is 0 has none either
pub none-in-word :
    (words : List ℕ) (i : ℕ) → get_or words i 0 ≡ 0 → ((a : ℕ) → a < 64 * i → contains words a ≡ false) → (a : ℕ) → a < 64 * (i + 1) → contains words a ≡ false
unfolding contains
none-in-word words i e none_below a p = go (dec_lt a (64 * i))
  where
    go : Dec (a < 64 * i) → contains words a ≡ false
    go (yes q) = none_below a q
    go (no q) = let d : a / 64 ≡ i = omega arith in rw (d, e, zero-div (2 ^ (a % 64)))
