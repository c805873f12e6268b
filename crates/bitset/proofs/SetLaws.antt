-- Members of a set after an address was put in.
use Prim.Native.Nat.{ℕ, zero, suc, ◌+◌, ◌-◌, ◌*◌, ◌/◌, ◌%◌, ◌^◌, ◌<◌}
use mathlib.Core.Path.{◌≡◌, refl, sym, ap, ◌∙◌}
use mathlib.Core.Bool.{true, false, true≢false}
use mathlib.Core.List.{List, [], ◌∷◌}
use mathlib.Core.Logic.{◌⊎◌, inl, inr}
use native.Mathlib.Nat.{zero-div, le_of_suc-le-suc}
use native.Mathlib.Decide.{dec_lt, ℕ_discrete}
use native.Mathlib.Omega.{arith}
use lib.Dec.{eqb, lit<}
use lib.ListN.{length, get_or, set, replicate, length-set, get_or-replicate, length-replicate, get_or-eq_default}
use lib.Seq.{get_or-set_same, get_or-set_other, set_out, ext_get_or}
use lib.Pow.{pow-lt}
use lib.Bits.{bit_or, or_lt}
use Rattle.bitset.specs.Bits.{contains, inserted, SetBuffer}
use Rattle.bitset.specs.Laws.{MemberLaws, SameMembers}
use Rattle.word.proofs.BitLaws.{digit, digit_lt, equal-bits}
use Rattle.bitset.proofs.DigitLaws.{digit_or, digit-pow-same, digit-pow-other, or-known, digit-full}
use borrow.Author.Tests.{eqb-true}

-- a set with an address more is as long
pub inserted-length : (ws : List ℕ) (a : ℕ) → length (inserted ws a) ≡ length ws
unfolding inserted
inserted-length ws a = length-set ws (a / 64) _

-- .. of words of 64 bits
pub inserted-buffer : (ws : List ℕ) (a : ℕ) → SetBuffer ws → SetBuffer (inserted ws a)
unfolding inserted
inserted-buffer ws a k = record { long = inserted-length ws a ∙ k.long; words_fit = λ i. go i (dec_lt (a / 64) (length ws)) (ℕ_discrete i (a / 64)) }
  where
    v : ℕ
    v = bit_or (get_or ws (a / 64) 0) (2 ^ (a % 64))

    go : (i : ℕ) → Dec (a / 64 < length ws) → Dec (i ≡ a / 64) → get_or (set ws (a / 64) v) i 0 < 2 ^ 64
    go i (no p) q = rw (set_out ws (a / 64) v (omega arith)) (k.words_fit i)
    go i (yes p) (no q) = rw (get_or-set_other ws (a / 64) i v 0 q) (k.words_fit i)
    go i (yes p) (yes q) =
        rw (q, get_or-set_same ws (a / 64) v 0 p) (or_lt 64 (get_or ws (a / 64) 0) (2 ^ (a % 64)) (k.words_fit (a / 64)) (pow-lt {i = a % 64} {j = 64} (omega arith)))

-- what was put in is there
pub inserted_same : (ws : List ℕ) (a : ℕ) → a / 64 < length ws → contains (inserted ws a) a ≡ true
unfolding contains inserted
inserted_same ws a h =
    let w : ℕ = get_or ws (a / 64) 0 in
    let e : digit (bit_or w (2 ^ (a % 64))) (a % 64) ≡ 1 =
    digit_or w (2 ^ (a % 64)) (a % 64) ∙ rw (digit-pow-same (a % 64)) (omega (arith, digit_lt w (a % 64))) in
    rw (get_or-set_same ws (a / 64) (bit_or w (2 ^ (a % 64))) 0 h, e)

-- each other address is there if it was
other-bit : (w j k : ℕ) → (j ≡ k → ⊥) → digit (bit_or w (2 ^ j)) k ≡ digit w k
other-bit w j k h = digit_or w (2 ^ j) k ∙ rw (digit-pow-other j k h) (omega arith)

pub inserted-other : (ws : List ℕ) (a b : ℕ) → (a ≡ b → ⊥) → contains (inserted ws a) b ≡ contains ws b
unfolding contains inserted
inserted-other ws a b h = go (dec_lt (a / 64) (length ws)) (ℕ_discrete (a / 64) (b / 64))
  where
    v : ℕ
    v = bit_or (get_or ws (a / 64) 0) (2 ^ (a % 64))

    go : Dec (a / 64 < length ws) → Dec (a / 64 ≡ b / 64) → eqb (digit (get_or (set ws (a / 64) v) (b / 64) 0) (b % 64)) 1 ≡ eqb (digit (get_or ws (b / 64) 0) (b % 64)) 1
    go (no p) q = rw (set_out ws (a / 64) v (omega arith))
    go (yes p) (no q) = rw (get_or-set_other ws (a / 64) (b / 64) v 0 (λ e. q (sym e)))
    go (yes p) (yes q) =
        rw (← q, get_or-set_same ws (a / 64) v 0 p, other-bit (get_or ws (a / 64) 0) (a % 64) (b % 64) (λ e. h (omega arith)))

-- every word of the empty set is 0, and nothing is in it
empty-word : (n i : ℕ) → ◌≡◌ {A = ℕ} (get_or (replicate n 0) i 0) 0
empty-word n i = go (dec_lt i n)
  where
    go : Dec (i < n) → ◌≡◌ {A = ℕ} (get_or (replicate n 0) i 0) 0
    go (yes p) = get_or-replicate n i 0 0 p
    go (no p) = get_or-eq_default (replicate n 0) 0 (rw (length-replicate {A = ℕ} n 0) (omega arith))

pub empty-has-none : (n a : ℕ) → contains (replicate n 0) a ≡ false
unfolding contains
empty-has-none n a = rw (empty-word n (a / 64), zero-div (2 ^ (a % 64)))

pub empty-buffer : SetBuffer (replicate 1024 0)
empty-buffer = record { long = length-replicate {A = ℕ} 1024 0; words_fit = λ i. rw (empty-word 1024 i) (lit< tt) }

-- every address is in a set of ones
pub full-has-all : (n a : ℕ) → a / 64 < n → contains (replicate n (2 ^ 64 - 1)) a ≡ true
unfolding contains
full-has-all n a h = rw (get_or-replicate n (a / 64) (2 ^ 64 - 1) 0 h, digit-full 64 (a % 64) (omega arith))

-- a member lies within the words
pub member-within : (ws : List ℕ) (a : ℕ) → contains ws a ≡ true → a / 64 < length ws
unfolding contains
member-within ws a h = go (dec_lt (a / 64) (length ws))
  where
    go : Dec (a / 64 < length ws) → a / 64 < length ws
    go (yes p) = p
    go (no p) =
        let e : get_or ws (a / 64) 0 ≡ 0 = get_or-eq_default ws 0 (omega arith) in
        let z : true ≡ false = sym h ∙ rw (e, zero-div (2 ^ (a % 64))) in
        absurd (true≢false z)

-- what is there already changes nothing
set_get_d : (ws : List ℕ) (i d : ℕ) → i < length ws → set ws i (get_or ws i d) ≡ ws
set_get_d [] i d h = refl
set_get_d (w ∷ ws) zero d h = refl
set_get_d (w ∷ ws) (suc i) d h = ap {B = List ℕ} (λ r. w ∷ r) (set_get_d ws i d (le_of_suc-le-suc h))

pub inserted-known : (ws : List ℕ) (a : ℕ) → contains ws a ≡ true → inserted ws a ≡ ws
unfolding contains inserted
inserted-known ws a h = go (dec_lt (a / 64) (length ws))
  where
    go : Dec (a / 64 < length ws) → set ws (a / 64) (bit_or (get_or ws (a / 64) 0) (2 ^ (a % 64))) ≡ ws
    go (yes p) = rw (or-known (get_or ws (a / 64) 0) (a % 64) (eqb-true _ 1 h)) (set_get_d ws (a / 64) 0 p)
    go (no p) = set_out ws (a / 64) _ (omega arith)

pub inserted-kept : (ws : List ℕ) (a b : ℕ) → contains ws b ≡ true → contains (inserted ws a) b ≡ true
inserted-kept ws a b h = go (ℕ_discrete a b)
  where
    go : Dec (a ≡ b) → contains (inserted ws a) b ≡ true
    go (yes e) = ap (λ (l : List ℕ). contains l b) (inserted-known ws a (ap (contains ws) e ∙ h)) ∙ h
    go (no e) = inserted-other ws a b e ∙ h

pub inserted-only : (ws : List ℕ) (a b : ℕ) → contains (inserted ws a) b ≡ true → (b ≡ a) ⊎ (contains ws b ≡ true)
inserted-only ws a b h = go (ℕ_discrete a b)
  where
    go : Dec (a ≡ b) → (b ≡ a) ⊎ (contains ws b ≡ true)
    go (yes e) = inl (sym e)
    go (no e) = inr (sym (inserted-other ws a b e) ∙ h)

-- a set's words are fixed by its members
pub same-members : SameMembers
unfolding contains
same-members c d p q h =
    ext_get_or 0 c d (p.long ∙ sym q.long)
    (λ i b. equal-bits 64 (get_or c i 0) (get_or d i 0) (p.words_fit i) (q.words_fit i)
    (λ k l.
    let e : (64 * i + k) / 64 ≡ i = omega arith in
    let m : (64 * i + k) % 64 ≡ k = omega arith in
    rw (e, m) at (h (64 * i + k))))

pub member-laws : MemberLaws
member-laws = record { same = inserted_same; other = inserted-other; known = inserted-known; none = empty-has-none; all = full-has-all }
