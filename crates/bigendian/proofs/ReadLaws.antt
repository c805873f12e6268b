-- The loop that reads numbers, and what each turn of it does.
use Prim.Native.Nat.{ℕ, min, ◌+◌, ◌-◌, ◌*◌, ◌/◌, ◌<◌, ◌≤◌}
use mathlib.Core.Path.{◌≡◌, sym, ap, ◌∙◌}
use mathlib.Core.List.{List, append_assoc}
use native.Mathlib.Omega.{arith}
use native.Mathlib.Numerals.{add-one}
use native.Mathlib.Decide.{dec_le}
use borrow.Rule.Slice.PartMut.{mid_of, put_mid, mid_len, Post-is}
use lib.ListN.{length, take, set, length-set}
use lib.Seq.{take-suc, take-suc-set, take_all, sets, sets-eq}
use Rattle.bigendian.specs.Numbers.{word_at, words_of, all_words}
use Rattle.bigendian.proofs.NumberLaws.{words-at, words-length, words-first}
use Rattle.word.proofs.SetsLaws.{sets-past, sets-within}

-- n words are read from bytes: the first i of them stand in d.
pub record Filling (n : ℕ) (bytes d : List ℕ) (i : ℕ) : Type 0 where
  pub size : length d ≡ n
  pub within : i ≤ n
  pub filled : take i d ≡ take i (words_of n bytes)

module _ {n : ℕ} {bytes d : List ℕ} {i : ℕ} where
  pub filling-on : {v : ℕ} → Filling n bytes d i → i < length d → v ≡ word_at bytes (i * 2) → Filling n bytes (set d i v) (i + 1)
  filling-on {v} k h e =
      let z = k.size in
      let l : i < length (words_of n bytes) = omega (arith, words-length n bytes) in
      record {
        size = length-set d i v ∙ z;
        within = omega arith;
        filled = rw (add-one, take-suc-set d i v, take-suc (words_of n bytes) i 0, k.filled, words-at n bytes i (omega arith), e);
      }

  pub filling-end : Filling n bytes d i → length d ≤ i → d ≡ words_of n bytes
  filling-end k h =
      let l : length (words_of n bytes) ≤ i = omega (arith, words-length n bytes, k.size) in
      rw (take_all i d h, take_all i (words_of n bytes) l) at k.filled

-- The numbers of bytes are read into the part of d from a to e, which comes back as ys: a is the place where they are to go, or the end.
module _ (d : List ℕ) (at a e n : ℕ) (bytes : List ℕ) {ys : List ℕ} (start : a ≡ min at (length d)) (span : e ≡ a + n) (count : n ≡ min (length bytes / 2) (length d - a))
    (read : ys ≡ words_of (length (mid_of a (e - a) d)) bytes) where
  part-read : ys ≡ words_of n bytes
  part-read =
      let l : length (mid_of a (e - a) d) ≡ n = omega (arith, mid_len a e d (omega arith)) in
      read ∙ rw l

  -- those past the end of d count for nothing
  part-all : sets d a (words_of n bytes) ≡ sets d a (all_words bytes)
  part-all = rw (words-first n (length bytes / 2) bytes (omega arith)) (go (dec_le (length bytes / 2) (length d - a)))
    where
      go : Dec (length bytes / 2 ≤ length d - a) → sets d a (take n (all_words bytes)) ≡ sets d a (all_words bytes)
      go (yes l) = ap (sets d a) (take_all n (all_words bytes) (omega (arith, words-length (length bytes / 2) bytes)))
      go (no l) = sets-within n d a (all_words bytes) (omega arith)

  -- and so do all where the place is past the end
  part-from : sets d a (all_words bytes) ≡ sets d at (all_words bytes)
  part-from = go (dec_le at (length d))
    where
      go : Dec (at ≤ length d) → sets d a (all_words bytes) ≡ sets d at (all_words bytes)
      go (yes l) = let f : a ≡ at = omega arith in rw f
      go (no l) = sets-past d a (all_words bytes) (omega arith) ∙ sym (sets-past d at (all_words bytes) (omega arith))

  pub part-stored : put_mid a (e - a) d ys ≡ sets d at (all_words bytes)
  part-stored =
      let l = words-length n bytes in
      let s = rw (l, append_assoc) at (sets-eq (words_of n bytes) d a (omega arith)) in
      rw (part-read, Post-is a e d (omega arith), span) (sym s ∙ part-all ∙ part-from)
