-- Laws of numbers in bytes.
use Prim.Native.Nat.{ℕ, zero, suc, ◌+◌, ◌-◌, ◌*◌, ◌/◌, ◌%◌, ◌<◌, ◌≤◌}
use mathlib.Core.Path.{◌≡◌, refl, ap, ◌∙◌}
use mathlib.Core.List.{List, [], ◌∷◌, ◌++◌, append-nil}
use native.Mathlib.Omega.{arith}
use native.Mathlib.Nat.{le_of_suc-le-suc, not-suc-le-zero}
use lib.ListN.{length, get_or, take, drop, set, length-take}
use lib.Seq.{sets, get_or-drop, get_or-set_other, take_all, drop-drop}
use Rattle.bigendian.specs.Numbers.{word_at, words_of, all_words, bytes_of, fitting, put_words}
use Rattle.bigendian.specs.Laws.{NumberLaws}

pub word-drop : (l : List ℕ) (n i : ℕ) → word_at (drop n l) i ≡ word_at l (n + i)
unfolding word_at
word-drop l n i =
    let e : n + i + 1 ≡ n + (i + 1) = omega arith in
    rw (get_or-drop n l i 0, get_or-drop n l (i + 1) 0, e)

-- a changed byte leaves the words that it is not in
pub word_kept : (l : List ℕ) (i b j : ℕ) → j + 2 ≤ i → word_at (set l i b) j ≡ word_at l j
unfolding word_at
word_kept l i b j h = rw (get_or-set_other l i j b 0 (λ e. omega arith), get_or-set_other l i (j + 1) b 0 (λ e. omega arith))

pub words-at : (c : ℕ) (l : List ℕ) (i : ℕ) → i < c → get_or (words_of c l) i 0 ≡ word_at l (i * 2)
words-at zero l i h = absurd (not-suc-le-zero h)
words-at (suc c) l zero h = refl
words-at (suc c) l (suc i) h =
    let e : 2 + i * 2 ≡ suc i * 2 = omega arith in
    words-at c (drop 2 l) i (le_of_suc-le-suc h) ∙ word-drop l 2 (i * 2) ∙ ap (word_at l) e

pub words-length : (c : ℕ) (l : List ℕ) → length (words_of c l) ≡ c
words-length zero l = refl
words-length (suc c) l = ap suc (words-length c (drop 2 l))

pub bytes-length : (ws : List ℕ) → length (bytes_of ws) ≡ length ws * 2
bytes-length [] = refl
bytes-length (w ∷ ws) = omega (arith, bytes-length ws)

pub bytes-append : (xs ys : List ℕ) → bytes_of (xs ++ ys) ≡ bytes_of xs ++ bytes_of ys
bytes-append [] ys = refl
bytes-append (x ∷ xs) ys = ap (λ (l : List ℕ). x / 256 ∷ x % 256 ∷ l) (bytes-append xs ys)

pub words_back : (ws t : List ℕ) → words_of (length ws) (bytes_of ws ++ t) ≡ ws
unfolding word_at
words_back [] t = refl
words_back (w ∷ ws) t =
    let e : w / 256 * 256 + w % 256 ≡ w = omega arith in
    rw (e, words_back ws t)

all_back : (ws : List ℕ) → all_words (bytes_of ws) ≡ ws
all_back ws =
    let e : length (bytes_of ws) / 2 ≡ length ws = omega (arith, bytes-length ws) in
    rw e (rw append-nil at (words_back ws []))

pub put-fits : (room : List ℕ) (at : ℕ) (ws : List ℕ) → at + length ws * 2 ≤ length room → put_words room at ws ≡ sets room at (bytes_of ws)
unfolding put_words
put-fits room at ws h = rw (take_all (fitting (length room) at) ws (omega arith))

pub number-laws : NumberLaws
number-laws = record { back = words_back; all_back = all_back; size = bytes-length; put = put-fits }

-- the first numbers of more
pub words-first : (n m : ℕ) (l : List ℕ) → n ≤ m → words_of n l ≡ take n (words_of m l)
words-first zero m l h = refl
words-first (suc n) zero l h = absurd (not-suc-le-zero h)
words-first (suc n) (suc m) l h = ap (λ (t : List ℕ). word_at l 0 ∷ t) (words-first n m (drop 2 l) (le_of_suc-le-suc h))

-- numbers are read from their own bytes
pub words-own : (n : ℕ) (l : List ℕ) → words_of n (take (n * 2) l) ≡ words_of n l
unfolding word_at
words-own zero l = refl
words-own (suc n) [] = let e : suc n * 2 ≡ suc (suc (n * 2)) = omega arith in rw e
words-own (suc n) (x ∷ []) = let e : suc n * 2 ≡ suc (suc (n * 2)) = omega arith in rw e
words-own (suc n) (x ∷ y ∷ l) =
    let e : suc n * 2 ≡ suc (suc (n * 2)) = omega arith in
    rw (e, words-own n l)

-- the first numbers are all those of the bytes that they take
pub words-front : (n : ℕ) (l : List ℕ) → n * 2 ≤ length l → all_words (take (n * 2) l) ≡ words_of n l
words-front n l h =
    let e : length (take (n * 2) l) / 2 ≡ n = omega (arith, length-take (n * 2) l) in
    rw e (words-own n l)

-- numbers behind the first ones
pub words-behind : (k n : ℕ) (l : List ℕ) → drop k (words_of n l) ≡ words_of (n - k) (drop (k * 2) l)
words-behind zero n l = let e : n - 0 ≡ n = omega arith in rw e
words-behind (suc k) zero l = let e : 0 - suc k ≡ 0 = omega arith in rw e
words-behind (suc k) (suc n) l =
    let e : suc k * 2 ≡ 2 + k * 2 = omega arith in
    let d : suc n - suc k ≡ n - k = omega arith in
    words-behind k n (drop 2 l) ∙ rw (e, d, ← drop-drop (k * 2) 2 l)
