-- Counts of members: bounds, one member more, two sets that agree, and the ones of a word.
use Prim.Native.Nat.{ℕ, zero, suc, ◌+◌, ◌*◌, ◌/◌, ◌%◌, ◌^◌, ◌<◌, ◌≤◌}
use mathlib.Core.Path.{◌≡◌, refl, sym, ap, ap₂, ◌∙◌}
use mathlib.Core.Bool.{Bool, true, false, cond}
use mathlib.Core.List.{List}
use native.Mathlib.Decide.{ℕ_discrete}
use native.Mathlib.Nat.{add-zero, add-suc}
use native.Mathlib.Numerals.{add-one}
use native.Mathlib.Omega.{arith}
use lib.Dec.{eqb}
use lib.ListN.{length, get_or, replicate}
use lib.Pow.{shr_lt}
use lib.Bits.{bit_or, or_lt}
use lib.Count.{ones, ones_step}
use Rattle.bitset.specs.Bits.{contains, inserted, in_either, count_below, size_of}
use Rattle.word.proofs.BitLaws.{digit, digit_lt, bit-count}
use Rattle.bitset.proofs.DigitLaws.{digit_or, digit-zero, digit-suc, bit-either}
use Rattle.bitset.proofs.SetLaws.{inserted_same, inserted-other, inserted-known, empty-has-none}

cond-le : (b : Bool) → cond b 1 0 ≤ 1
cond-le true = omega arith
cond-le false = omega arith

pub count_most : (f : ℕ → Bool) (n : ℕ) → count_below f n ≤ n
unfolding count_below
count_most f zero = omega arith
count_most f (suc n) = omega (arith, count_most f n, cond-le (f n))

pub count_same : (f g : ℕ → Bool) (n : ℕ) → ((a : ℕ) → a < n → f a ≡ g a) → count_below f n ≡ count_below g n
unfolding count_below
count_same f g zero h = refl
count_same f g (suc n) h = ap₂ (λ (x : ℕ) (b : Bool). x + cond b 1 0) (count_same f g n (λ a p. h a (omega arith))) (h n (omega arith))

pub count_none : (f : ℕ → Bool) (n : ℕ) → ((a : ℕ) → a < n → f a ≡ false) → count_below f n ≡ 0
unfolding count_below
count_none f zero h = refl
count_none f (suc n) h = rw (count_none f n (λ a p. h a (omega arith)), h n (omega arith))

-- g has the one member a more than f
pub count-more : (f g : ℕ → Bool) (a n : ℕ) → a < n → f a ≡ false → g a ≡ true → ((b : ℕ) → (a ≡ b → ⊥) → g b ≡ f b) → count_below g n ≡ count_below f n + 1
unfolding count_below
count-more f g a zero l p q h = absurd (omega arith)
count-more f g a (suc n) l p q h = go (ℕ_discrete a n) (λ k. count-more f g a n k p q h)
  where
    go : Dec (a ≡ n) → (a < n → count_below g n ≡ count_below f n + 1) → count_below g n + cond (g n) 1 0 ≡ count_below f n + cond (f n) 1 0 + 1
    go (yes e) ih =
        let s : count_below g n ≡ count_below f n = count_same g f n (λ b k. h b (λ i. omega arith)) in
        let u : g n ≡ true = ap g (sym e) ∙ q in
        let v : f n ≡ false = ap f (sym e) ∙ p in
        rw (s, u, v) (omega arith)
    go (no e) ih = rw (ih (omega arith), h n e) (omega arith)

-- the first n, and the m after them
pub count_add : (f : ℕ → Bool) (n m : ℕ) → count_below f (n + m) ≡ count_below f n + count_below (λ j. f (n + j)) m
unfolding count_below
count_add f n zero = rw (add-zero n) (omega arith)
count_add f n (suc m) = rw (add-suc n m, count_add f n m) (omega arith)

-- the first, and those after it
count-first : (f : ℕ → Bool) (n : ℕ) → count_below f (suc n) ≡ cond (f 0) 1 0 + count_below (λ k. f (suc k)) n
unfolding count_below
count-first f zero = omega arith
count-first f (suc n) = rw (count-first f n) (omega arith)

-- the number of ones of a word of n bits
pub ones-count : (n w : ℕ) → w < 2 ^ n → ones w ≡ count_below (λ k. eqb (digit w k) 1) n
unfolding count_below ones
ones-count zero w h = let e : w ≡ 0 = omega arith in rw e
ones-count (suc n) w h =
    ones_step w
    ∙ ap₂ (λ (x y : ℕ). x + y)
    (sym (bit-count (digit w 0) (digit_lt w 0) ∙ digit-zero w))
    (ones-count n (w / 2) (shr_lt n 1 (rw (← add-one n) at h)) ∙ count_same _ _ n (λ k p. ap (λ (x : ℕ). eqb x 1) (sym (digit-suc w k))))
    ∙ sym (count-first (λ k. eqb (digit w k) 1) n)

-- the addresses of word i
in-word : (one other : List ℕ) (i j : ℕ) → j < 64 → in_either one other (64 * i + j) ≡ eqb (digit (bit_or (get_or one i 0) (get_or other i 0)) j) 1
unfolding contains
in-word one other i j h =
    let d : (64 * i + j) / 64 ≡ i = omega arith in
    let m : (64 * i + j) % 64 ≡ j = omega arith in
    rw (d, m, digit_or (get_or one i 0) (get_or other i 0) j) (sym (bit-either _ _ (digit_lt (get_or one i 0) j) (digit_lt (get_or other i 0) j)))

-- a word of each set more
pub count_word :
    (one other : List ℕ) (i : ℕ) → get_or one i 0 < 2 ^ 64 → get_or other i 0 < 2 ^ 64 →
    count_below (in_either one other) (64 * i + 64) ≡ count_below (in_either one other) (64 * i) + ones (bit_or (get_or one i 0) (get_or other i 0))
count_word one other i p q =
    count_add (in_either one other) (64 * i) 64
    ∙ ap (λ (x : ℕ). count_below (in_either one other) (64 * i) + x)
    (count_same _ _ 64 (λ j h. in-word one other i j h) ∙ sym (ones-count 64 (bit_or (get_or one i 0) (get_or other i 0)) (or_lt 64 (get_or one i 0) (get_or other i 0) p q)))

-- how many are in a set: at most all, none in the empty set, and one more where a new one is put in
pub size-most : (ws : List ℕ) → size_of ws ≤ 65536
size-most ws = count_most (contains ws) 65536

pub size-empty : (n : ℕ) → size_of (replicate n 0) ≡ 0
size-empty n = count_none (contains (replicate n 0)) 65536 (λ a p. empty-has-none n a)

pub size-new : (ws : List ℕ) (a : ℕ) → length ws ≡ 1024 → a < 65536 → contains ws a ≡ false → size_of (inserted ws a) ≡ size_of ws + 1
size-new ws a l h e =
    count-more (contains ws) (contains (inserted ws a)) a 65536 h e (inserted_same ws a (omega arith)) (λ b k. inserted-other ws a b k)

pub size-held : (ws : List ℕ) (a : ℕ) → length ws ≡ 1024 → a < 65536 → size_of ws ≤ size_of (inserted ws a)
size-held ws a l h = go (contains ws a) refl
  where
    go : (b : Bool) → contains ws a ≡ b → size_of ws ≤ size_of (inserted ws a)
    go true e = rw (inserted-known ws a e) (omega arith)
    go false e = omega (arith, size-new ws a l h e)
