-- Laws of numbers put into a room, and of the loop that puts them.
use Prim.Native.Nat.{ℕ, min, ◌+◌, ◌-◌, ◌*◌, ◌%◌, ◌<◌, ◌≤◌}
use mathlib.Core.Path.{◌≡◌, refl, sym, ◌∙◌}
use mathlib.Core.List.{List, [], ◌∷◌, ◌++◌, append-nil, append_assoc}
use native.Mathlib.Omega.{arith}
use native.Mathlib.Numerals.{add-one}
use native.Mathlib.Decide.{dec_le}
use borrow.Rule.Slice.PartMut.{put_mid, Post-is}
use lib.ListN.{length, get_or, take, length-take, drop_of_length-le}
use lib.Seq.{take-suc, take_all, take-append-le, take-append-add, sets, sets-eq, length-sets}
use Rattle.word.specs.Word.{wrap_add}
use Rattle.bigendian.specs.Numbers.{bytes_of, total, fitting, put_words}
use Rattle.word.proofs.SetsLaws.{sets-split}
use Rattle.bigendian.proofs.NumberLaws.{bytes-length, bytes-append, put-fits}
use Rattle.bigendian.proofs.SumLaws.{total-step}

-- numbers, and then others behind their bytes
pub put-more : (d : List ℕ) (at : ℕ) (xs ys : List ℕ)
    → sets d at (bytes_of (xs ++ ys)) ≡ sets (sets d at (bytes_of xs)) (at + length xs * 2) (bytes_of ys)
put-more d at xs ys = rw (bytes-append xs ys, ← bytes-length xs) (sets-split d at (bytes_of xs) (bytes_of ys))

pub put-length : (d : List ℕ) (at : ℕ) (ws : List ℕ) → length (put_words d at ws) ≡ length d
unfolding put_words
put-length d at ws = length-sets d at (bytes_of (take (fitting (length d) at) ws))

-- numbers put behind others are put with them
pub put-behind : (d : List ℕ) (at : ℕ) (xs ys : List ℕ) → put_words (put_words d at xs) (at + length xs * 2) ys ≡ put_words d at (xs ++ ys)
unfolding put_words
put-behind d at xs ys = rw (length-sets d at) (go (dec_le (length xs) (fitting (length d) at)))
  where
    left : ℕ
    left = fitting (length d) (at + length xs * 2)

    go : Dec (length xs ≤ fitting (length d) at)
        → sets (sets d at (bytes_of (take (fitting (length d) at) xs))) (at + length xs * 2) (bytes_of (take (fitting (length d) (at + length xs * 2)) ys)) ≡ put_words d at (xs ++ ys)
    go (yes l) =
        let e : fitting (length d) at ≡ length xs + left = omega arith in
        rw (take_all (fitting (length d) at) xs l, e, take-append-add xs ys left) (sym (put-more d at xs (take left ys)))
    go (no l) =
        let z : left ≡ 0 = omega arith in
        rw (z, take-append-le (fitting (length d) at) xs ys (omega arith))

-- numbers that fill a room are all that it then holds
pub put_whole : (d ws : List ℕ) → length d ≡ length ws * 2 → put_words d 0 ws ≡ bytes_of ws
put_whole d ws h =
    let l = bytes-length ws in
    put-fits d 0 ws (omega arith)
    ∙ sets-eq (bytes_of ws) d 0 (omega arith)
    ∙ rw (drop_of_length-le d {i = 0 + length (bytes_of ws)} (omega arith), append-nil)

-- numbers that fill a part of a room are put where it begins
pub part-put : (d : List ℕ) (a e : ℕ) (ws : List ℕ) → e ≡ a + length ws * 2 → e ≤ length d → put_mid a (e - a) d (bytes_of ws) ≡ put_words d a ws
part-put d a e ws span h =
    let l = bytes-length ws in
    let s = rw (l, append_assoc) at (sets-eq (bytes_of ws) d a (omega arith)) in
    rw (Post-is a e d (omega arith), span) (sym s ∙ sym (put-fits d a ws (omega arith)))

-- The first i numbers of a list are put as bytes from an index on, and added up; n of them are to be put.
pub record Putting (d₀ : List ℕ) (at : ℕ) (ws d : List ℕ) (n sum i : ℕ) : Type 0 where
  pub within : i ≤ n
  pub laid : d ≡ sets d₀ at (bytes_of (take i ws))
  pub sums : sum ≡ total (take i ws) % 65536

pub putting : (d : List ℕ) (at : ℕ) (ws : List ℕ) (n : ℕ) → Putting d at ws d n 0 0
putting d at ws n = record { within = omega arith; laid = refl; sums = refl }

module _ {d₀ : List ℕ} {at : ℕ} {ws d : List ℕ} {n sum i : ℕ} where
  pub putting-on : {d' : List ℕ} {next : ℕ} → Putting d₀ at ws d n sum i → i < n → n ≤ length ws
      → d' ≡ sets d (at + i * 2) (bytes_of (get_or ws i 0 ∷ [])) → next ≡ wrap_add sum (get_or ws i 0) → Putting d₀ at ws d' n next (i + 1)
  unfolding wrap_add
  putting-on k h l e f =
      let m : i < length ws = omega arith in
      let s : length (take i ws) ≡ i = omega (arith, length-take i ws) in
      record {
        within = omega arith;
        laid = e ∙ rw (add-one, take-suc ws i 0, put-more d₀ at (take i ws) (get_or ws i 0 ∷ []), s, k.laid);
        sums = omega (arith, k.sums, total-step ws i m);
      }

  -- after the last turn those that fit are put
  fitted : Putting d₀ at ws d n sum i → n ≤ i → n ≡ min (fitting (length d₀) at) (length ws) → take i ws ≡ take (fitting (length d₀) at) ws
  fitted k h e = go (dec_le (length ws) (fitting (length d₀) at))
    where
      go : Dec (length ws ≤ fitting (length d₀) at) → take i ws ≡ take (fitting (length d₀) at) ws
      go (yes l) = take_all i ws (omega (arith, k.within)) ∙ sym (take_all (fitting (length d₀) at) ws l)
      go (no l) = let m : i ≡ fitting (length d₀) at = omega (arith, k.within) in rw m

  pub putting-end : Putting d₀ at ws d n sum i → n ≤ i → n ≡ min (fitting (length d₀) at) (length ws)
      → (d ≡ put_words d₀ at ws) × (sum ≡ total (take (fitting (length d₀) at) ws) % 65536)
  unfolding put_words
  putting-end k h e = let f = fitted k h e in (rw f at k.laid, rw f at k.sums)

-- one number, of which both bytes fit or none is put
pub one_put : (d : List ℕ) (at w n : ℕ) → n ≡ fitting (length d) at → 0 < n → sets d at (bytes_of (w ∷ [])) ≡ put_words d at (w ∷ [])
one_put d at w n e h = sym (put-fits d at (w ∷ []) (omega arith))

pub none_put : (d : List ℕ) (at w n : ℕ) → n ≡ fitting (length d) at → n ≤ 0 → d ≡ put_words d at (w ∷ [])
unfolding put_words
none_put d at w n e h = let z : fitting (length d) at ≡ 0 = omega arith in rw z
