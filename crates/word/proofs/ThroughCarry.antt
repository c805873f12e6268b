-- The rows that shift through carry give what their forms name, bit by bit, and a form gives one result.
use Rattle.std.proofs.Common.{◌≡◌, ℕ, zero, suc, ◌+◌, ◌-◌, ◌*◌, ◌/◌, ◌%◌, ◌^◌, ◌<◌, ◌≤◌, Bool, true, false, eqb, [], ◌∷◌, get_or, sym, refl, ap, ◌∙◌, ap₂, arith, lit<, shr_lt, eqb-true}
use native.Mathlib.Nat.{mod-mod}
use borrow.Author.Tests.{eqb-false}
use Rattle.word.specs.declared.Flagged.{Flagged}
use Rattle.word.specs.Word.{bit, bit_value}
use Rattle.word.specs.Flags.{with_sign}
use Rattle.word.specs.Shifts.{with_low_sign, rlc_once, rlc_twice, sllc_once, sllc_twice, rrc_once, rrc_twice, sarc_once, sarc_twice, shift_once, shift_twice, shift_of}
use Rattle.word.specs.ThroughCarry.{Source, old_bit, old_c, old_o, nought, found, Form, left_once, left_twice, right_once, right_twice, CarryRow, rlc_row, sllc_row, rrc_row, sarc_row, row_number, form_of, Gives, BitByBit, GivesOne, CarryInstances}
use Rattle.word.specs.declared.bits.Bits.{Bits}
use Rattle.word.specs.Inner.Bits.{word_of, is_one}
use Rattle.word.proofs.Choice.{cond_either}
use Rattle.word.proofs.WordLaws.{bit-low, shift-low}
use Rattle.word.proofs.BitLaws.{digit, bit-digit, flag-bit, bit-above, bit_below, joined-high, joined-low, sum_of, sum_same, sum-of-bits}

-- two flags, one above the other
abbrev pair_of : Bool → Bool → ℕ
pair_of a b = bit_value a * 2 + bit_value b

pair-low : (a b : Bool) → pair_of a b < 4
pair-low a b = omega (arith, bit-low a, bit-low b)

upper : (a b : Bool) → bit 1 (pair_of a b) ≡ a
upper a b = joined-high (bit_value a) 1 (bit-low b) 0 ∙ flag-bit a

lower : (a b : Bool) → bit 0 (pair_of a b) ≡ b
lower a b = joined-low (bit_value a) 1 (bit-low b) 0 (lit< tt) ∙ flag-bit b

module _ (x : ℕ) where
  -- k places up, with i below
  up : (k i n : ℕ) → i < 2 ^ k → k ≤ n → n < 16 → bit n (x % 2 ^ (16 - k) * 2 ^ k + i) ≡ bit (n - k) x
  up k i n h p q =
      let e : k + (n - k) ≡ n = omega arith in
      (rw e at (joined-high (x % 2 ^ (16 - k)) k h (n - k))) ∙ bit_below (16 - k) (n - k) x (omega arith)

  -- k places down, with i above
  down : (k i n : ℕ) → x < 65536 → n + k < 16 → bit n (i * 2 ^ (16 - k) + x / 2 ^ k) ≡ bit (n + k) x
  down k i n h p =
      let e : 16 - k + k ≡ 16 = omega arith in
      let c : k + n ≡ n + k = omega arith in
      let l : x / 2 ^ k < 2 ^ (16 - k) = shr_lt (16 - k) k (rw e h) in
      joined-low i (16 - k) l n (omega arith) ∙ (rw c at (bit-above k n x))

module _ (f : Flagged) where
  -- the word whose bits a form names
  abbrev Names : Form → ℕ → Type 0
  Names form v = (n : ℕ) → n < 16 → bit n v ≡ found f (form.result n)

  left-once : (a : Source) {v : ℕ} → v ≡ f.value % 32768 * 2 + bit_value (found f a) → Names (left_once a) v
  left-once a {v} e n p =
      cond_either (λ s. bit n v ≡ found f s) (eqb n 0)
      (λ t. rw (e, eqb-true n 0 t) (joined-low (f.value % 32768) 1 (bit-low (found f a)) 0 (lit< tt) ∙ flag-bit (found f a)))
      (λ t. rw e (up f.value 1 (bit_value (found f a)) n (bit-low (found f a)) (omega (arith, eqb-false n 0 t)) p))

  left-twice : (a b : Source) {v : ℕ} → v ≡ f.value % 16384 * 4 + pair_of (found f a) (found f b) → Names (left_twice a b) v
  left-twice a b {v} e n p =
      let y = f.value % 16384 in
      let h : pair_of (found f a) (found f b) < 2 ^ 2 = pair-low (found f a) (found f b) in
      cond_either (λ s. bit n v ≡ found f s) (eqb n 1)
      (λ t. rw (e, eqb-true n 1 t) (joined-low y 2 h 1 (lit< tt) ∙ upper (found f a) (found f b)))
      (λ t. cond_either (λ s. bit n v ≡ found f s) (eqb n 0)
      (λ u. rw (e, eqb-true n 0 u) (joined-low y 2 h 0 (lit< tt) ∙ lower (found f a) (found f b)))
      (λ u. rw e (up f.value 2 (pair_of (found f a) (found f b)) n h (omega (arith, eqb-false n 1 t, eqb-false n 0 u)) p)))

  module _ (h : f.value < 65536) where
    right-once : (a : Source) {v : ℕ} → v ≡ bit_value (found f a) * 32768 + f.value / 2 → Names (right_once a) v
    right-once a {v} e n p =
        let l : f.value / 2 < 2 ^ 15 = omega arith in
        cond_either (λ s. bit n v ≡ found f s) (eqb n 15)
        (λ t. rw (e, eqb-true n 15 t) (joined-high (bit_value (found f a)) 15 l 0 ∙ flag-bit (found f a)))
        (λ t. rw e (down f.value 1 (bit_value (found f a)) n h (omega (arith, eqb-false n 15 t))))

    right-twice : (a b : Source) {v : ℕ} → v ≡ pair_of (found f a) (found f b) * 16384 + f.value / 4 → Names (right_twice a b) v
    right-twice a b {v} e n p =
        let i = pair_of (found f a) (found f b) in
        let l : f.value / 4 < 2 ^ 14 = omega arith in
        cond_either (λ s. bit n v ≡ found f s) (eqb n 15)
        (λ t. rw (e, eqb-true n 15 t) (joined-high i 14 l 1 ∙ upper (found f a) (found f b)))
        (λ t. cond_either (λ s. bit n v ≡ found f s) (eqb n 14)
        (λ u. rw (e, eqb-true n 14 u) (joined-high i 14 l 0 ∙ lower (found f a) (found f b)))
        (λ u. rw e (down f.value 2 i n h (omega (arith, eqb-false n 15 t, eqb-false n 14 u)))))

    -- the sign of a word, as a number
    top : bit_value (bit 15 f.value) ≡ f.value / 32768
    top = omega (arith, bit-digit 15 f.value)

-- a word with the flags that a form gives beside it
abbrev pub result_of : Form → Flagged → ℕ → Flagged
result_of form f v = record { value = v; s = bit form.sign v; z = eqb v 0; o = found f form.o; c = found f form.c }

gives : (form : Form) (f : Flagged) (v : ℕ) → v < 65536 → Names f form v → Gives form f (result_of form f v)
gives form f v p q = record { fits = p; bits = λ n l. q n (omega arith); carry = refl; overflow = refl; sign = refl; zero = refl }

pub bit-by-bit : BitByBit
unfolding shift_of shift_once shift_twice with_sign with_low_sign rlc_once rlc_twice sllc_once sllc_twice rrc_once rrc_twice sarc_once sarc_twice
bit-by-bit rlc_row false f h = gives (form_of rlc_row false) f _ (shift-low f h 2 false) (left-once f old_c (omega arith))
bit-by-bit rlc_row true f h = gives (form_of rlc_row true) f _ (shift-low f h 2 true) (left-twice f old_c old_o (omega arith))
bit-by-bit sllc_row false f h = gives (form_of sllc_row false) f _ (shift-low f h 3 false) (left-once f nought (omega arith))
bit-by-bit sllc_row true f h = gives (form_of sllc_row true) f _ (shift-low f h 3 true) (left-twice f nought nought (omega arith))
bit-by-bit rrc_row false f h = gives (form_of rrc_row false) f _ (shift-low f h 6 false) (right-once f h old_c (omega arith))
bit-by-bit rrc_row true f h = gives (form_of rrc_row true) f _ (shift-low f h 6 true) (right-twice f h old_o old_c (omega arith))
bit-by-bit sarc_row false f h = gives (form_of sarc_row false) f _ (shift-low f h 7 false) (right-once f h (old_bit 15) (omega (arith, top f h)))
bit-by-bit sarc_row true f h = gives (form_of sarc_row true) f _ (shift-low f h 7 true) (right-twice f h (old_bit 15) (old_bit 15) (omega (arith, top f h)))

-- the word that a form gives is the sum of the bits that it names
abbrev pub named : Form → Flagged → ℕ
named form f = sum_of (λ n. found f (form.result n)) 16

fixed : (form : Form) (f : Flagged) {r : Flagged} → Gives form f r → r ≡ result_of form f (named form f)
fixed form f {r} g =
    let e : r.value ≡ named form f = sum-of-bits 16 r.value g.fits ∙ sum_same _ _ 16 (λ n l. g.bits n (omega arith)) in
    rw (← e, ← g.sign, ← g.zero, ← g.overflow, ← g.carry)

pub gives_one : GivesOne
gives_one form f x y p q = fixed form f p ∙ sym (fixed form f q)

-- what the code finds in place of a source: it has bits as numbers, of which each counts modulo 2
abbrev number_of : Flagged → Source → ℕ
number_of f (old_bit n) = digit f.value n
number_of f old_c = bit_value f.c
number_of f old_o = bit_value f.o
number_of f nought = 0

flag-number : (b : Bool) → bit_value b % 2 ≡ bit_value b
flag-number true = refl
flag-number false = refl

number_is : (f : Flagged) (s : Source) → number_of f s % 2 ≡ bit_value (found f s)
number_is f (old_bit n) = mod-mod (f.value / 2 ^ n) 2 ∙ sym (bit-digit n f.value)
number_is f old_c = flag-number f.c
number_is f old_o = flag-number f.o
number_is f nought = refl

flag_is : (b : Bool) → eqb (bit_value b) 1 ≡ b
flag_is true = refl
flag_is false = refl

is_one-of : (f : Flagged) (s : Source) → is_one (number_of f s) ≡ found f s
is_one-of f s = rw (number_is f s) (flag_is (found f s))

-- the code's bits by their numbers
abbrev bit_at : Bits → ℕ → ℕ
bit_at b n = get_or (b.bit0 ∷ b.bit1 ∷ b.bit2 ∷ b.bit3 ∷ b.bit4 ∷ b.bit5 ∷ b.bit6 ∷ b.bit7 ∷ b.bit8 ∷ b.bit9 ∷ b.bit10 ∷ b.bit11 ∷ b.bit12 ∷ b.bit13 ∷ b.bit14 ∷ b.bit15 ∷ []) n 0

-- the sum of n numbers, of which each counts modulo 2
abbrev number_sum : (ℕ → ℕ) → ℕ → ℕ
number_sum d zero = 0
number_sum d (suc n) = d n % 2 * 2 ^ n + number_sum d n

from-left : (b : Bits) → word_of b ≡ number_sum (bit_at b) 16
unfolding word_of
from-left b = omega arith

-- the numbers below n are these sources, from the highest on
abbrev pub Takes : (ℕ → ℕ) → Flagged → (ℕ → Source) → ℕ → Type 0
Takes d f r zero = Unit {0}
Takes d f r (suc n) = (d n ≡ number_of f (r n)) × Takes d f r n

sum-of : (d : ℕ → ℕ) (f : Flagged) (r : ℕ → Source) (n : ℕ) → Takes d f r n → number_sum d n ≡ sum_of (λ k. found f (r k)) n
sum-of d f r zero h = refl
sum-of d f r (suc n) h = rw (h.0, number_is f (r n), sum-of d f r n h.1)

-- What the code writes out, for each of the eight: its lines, one by one, and those of O and C.
abbrev pub written_of : Form → Bits → Flagged
written_of form b = record { value = word_of b; s = bit form.sign (word_of b); z = eqb (word_of b) 0; o = is_one b.o; c = is_one b.c }

pub written :
    (row : CarryRow) (twice : Bool) (f : Flagged) → f.value < 65536 → {b : Bits} →
    Takes (bit_at b) f (form_of row twice).result 16 →
    b.c ≡ number_of f (form_of row twice).c →
    b.o ≡ number_of f (form_of row twice).o →
    written_of (form_of row twice) b ≡ shift_of (row_number row) twice f
written row twice f h {b} takes c o =
    let form : Form = form_of row twice in
    let n : word_of b ≡ named form f = from-left b ∙ sum-of (bit_at b) f form.result 16 takes in
    ap₂ (λ (p q : Bool). record { value = word_of b; s = bit form.sign (word_of b); z = eqb (word_of b) 0; o = p; c = q })
    (ap is_one o ∙ is_one-of f form.o)
    (ap is_one c ∙ is_one-of f form.c)
    ∙ ap (result_of form f) n
    ∙ sym (fixed form f (bit-by-bit row twice f h))

pub carry-instances : CarryInstances
carry-instances =
    record {
      left = λ s z new g. fixed _ _ g;
      right = λ s z new g. fixed _ _ g;
      repeated = λ s z new g. fixed _ _ g;
      highest = λ row twice s z o c. bit-by-bit row twice _ (lit< tt);
    }
