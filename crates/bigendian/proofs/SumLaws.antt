-- Laws of numbers added up, and of the loop that adds those of bytes.
use Prim.Native.Nat.{ℕ, zero, suc, ◌+◌, ◌-◌, ◌*◌, ◌/◌, ◌%◌, ◌<◌, ◌≤◌}
use mathlib.Core.Path.{◌≡◌, ◌∙◌}
use mathlib.Core.List.{List, [], ◌∷◌, ◌++◌}
use native.Mathlib.Omega.{arith}
use native.Mathlib.Numerals.{add-one}
use lib.ListN.{length, get_or, take, drop}
use lib.Seq.{take-suc}
use Rattle.word.specs.Word.{wrap_add}
use Rattle.bigendian.specs.Numbers.{word_at, words_of, all_words, total}
use Rattle.bigendian.proofs.NumberLaws.{word-drop}

total-append : (l m : List ℕ) → total (l ++ m) ≡ total l + total m
total-append [] m = omega arith
total-append (x ∷ l) m = omega (arith, total-append l m)

-- one more number of a list
pub total-step : (ws : List ℕ) (i : ℕ) → i < length ws → total (take (i + 1) ws) ≡ total (take i ws) + get_or ws i 0
total-step ws i h = rw (add-one, take-suc ws i 0) (total-append (take i ws) (get_or ws i 0 ∷ []) ∙ omega arith)

-- one more number of bytes
total-suc : (i : ℕ) (l : List ℕ) → total (words_of (suc i) l) ≡ total (words_of i l) + word_at l (i * 2)
total-suc zero l = omega arith
total-suc (suc i) l =
    let e : suc i * 2 ≡ 2 + i * 2 = omega arith in
    rw e (omega (arith, total-suc i (drop 2 l), word-drop l 2 (i * 2)))

total-more : (i : ℕ) (l : List ℕ) → total (words_of (i + 1) l) ≡ total (words_of i l) + word_at l (i * 2)
total-more i l = rw add-one (total-suc i l)

-- sums that agree modulo 65,536 still do with more added
add-more : (x y z : ℕ) → x % 65536 ≡ y % 65536 → (x + z) % 65536 ≡ (y + z) % 65536
add-more x y z e = omega arith

-- the low byte of a number and the high byte of the next one, added before its low byte
turn : (sum low high next t : ℕ) → (sum + low) % 65536 ≡ t % 65536
    → ((sum + (low + high * 256)) % 65536 + next) % 65536 ≡ (t + (high * 256 + next)) % 65536
turn sum low high next t e =
    let g : ((sum + (low + high * 256)) % 65536 + next) % 65536 ≡ (sum + low + (high * 256 + next)) % 65536 = omega arith in
    g ∙ add-more (sum + low) t (high * 256 + next) e

-- The first i numbers of bytes are added up, of n, but for the low byte of the last of them.
pub record Adding (bytes : List ℕ) (n i sum : ℕ) : Type 0 where
  pub some : 0 < i
  pub within : i ≤ n
  pub sums : (sum + get_or bytes (i * 2 - 1) 0) % 65536 ≡ total (words_of i bytes) % 65536

-- the first byte is the high one of the first number
pub adding : (bytes : List ℕ) (n sum : ℕ) → 0 < n → sum ≡ get_or bytes 0 0 * 256 → Adding bytes n 1 sum
unfolding word_at
adding bytes n sum h e = record { some = omega arith; within = omega arith; sums = omega arith }

-- the low byte of a number and the high byte of the next one
pub adding-on : {bytes : List ℕ} {n i sum next r : ℕ} → Adding bytes n i sum → i < n
    → r ≡ get_or bytes (i * 2 - 1) 0 + get_or bytes (i * 2 - 1 + 1) 0 * 256 → next ≡ wrap_add sum r → Adding bytes n (i + 1) next
unfolding wrap_add word_at
adding-on {bytes} {n} {i} {sum} {next} {r} k h e f =
    let p = k.some in
    let here : i * 2 - 1 + 1 ≡ i * 2 = omega arith in
    let then : (i + 1) * 2 - 1 ≡ i * 2 + 1 = omega arith in
    let low = get_or bytes (i * 2 - 1) 0 in
    record {
      some = omega arith;
      within = omega arith;
      sums = rw (then, total-more i bytes, f, e, here) (turn sum low (get_or bytes (i * 2) 0) (get_or bytes (i * 2 + 1) 0) (total (words_of i bytes)) k.sums);
    }

pub adding-end : {bytes : List ℕ} {n i sum b r : ℕ} → Adding bytes n i sum → n ≤ i → n ≡ length bytes / 2 → b ≡ get_or bytes (n * 2 - 1) 0
    → r ≡ wrap_add sum b → r ≡ total (all_words bytes) % 65536
unfolding wrap_add
adding-end {bytes} {n} {i} k h e f g =
    let w = k.within in
    let same : i ≡ n = omega arith in
    rw (g, f, ← e) (rw same at k.sums)
