-- Laws of a run of words laid over another.
use Prim.Native.Nat.{ℕ, ◌+◌, ◌<◌, ◌≤◌}
use mathlib.Core.Path.{◌≡◌, sym, ap, ◌∙◌}
use mathlib.Core.List.{List, [], ◌∷◌, ◌++◌}
use native.Mathlib.Omega.{arith}
use lib.ListN.{length, get_or, take, drop, length-append, get_or-append}
use lib.Seq.{get_or-append-add, get_or-take, get_or-drop, length-take-le, sets, sets-eq, length-sets}
use Rattle.word.proofs.SetsLaws.{sets-split}
use Rattle.records.specs.Records.{overwrite}

pub overwrite-sets : (d : List ℕ) (a : ℕ) (xs : List ℕ) → a + length xs ≤ length d → overwrite d a xs ≡ sets d a xs
unfolding overwrite
overwrite-sets d a xs h = sym (sets-eq xs d a h)

pub overwrite-length : (d : List ℕ) (a : ℕ) (xs : List ℕ) → a + length xs ≤ length d → length (overwrite d a xs) ≡ length d
overwrite-length d a xs h = ap length (overwrite-sets d a xs h) ∙ length-sets d a xs

pub overwrite-nil : (d : List ℕ) (a : ℕ) (ws : List ℕ) → length ws ≡ 0 → a ≤ length d → d ≡ overwrite d a ws
overwrite-nil d a [] e h = sym (overwrite-sets d a [] (omega arith))
overwrite-nil d a (w ∷ ws) e h = absurd (omega arith)

pub overwrite-split : (d : List ℕ) (a : ℕ) (xs ys : List ℕ) → a + length xs + length ys ≤ length d
    → overwrite (overwrite d a xs) (a + length xs) ys ≡ overwrite d a (xs ++ ys)
overwrite-split d a xs ys h =
    let l = length-append xs ys in
    let o = overwrite-length d a xs (omega arith) in
    overwrite-sets (overwrite d a xs) (a + length xs) ys (omega arith)
    ∙ ap (λ (n : List ℕ). sets n (a + length xs) ys) (overwrite-sets d a xs (omega arith))
    ∙ sym (sets-split d a xs ys)
    ∙ sym (overwrite-sets d a (xs ++ ys) (omega arith))

-- What a run laid over another reads: itself where it lies, and the other elsewhere.
module _ (d : List ℕ) (a : ℕ) (xs : List ℕ) (h : a + length xs ≤ length d) where
  front_length : length (take a d ++ xs) ≡ a + length xs
  front_length = omega (arith, length-append (take a d) xs, length-take-le a d (omega arith))

  pub read-inside : (j z : ℕ) → j < length xs → get_or (overwrite d a xs) (a + j) z ≡ get_or xs j z
  unfolding overwrite
  read-inside j z p =
      let l = front_length in
      let e = length-take-le a d (omega arith) in
      get_or-append (take a d ++ xs) (drop (a + length xs) d) z (a + j) (omega arith)
      ∙ rw e at (get_or-append-add (take a d) xs j z)

  pub read_below : (i z : ℕ) → i < a → get_or (overwrite d a xs) i z ≡ get_or d i z
  unfolding overwrite
  read_below i z p =
      let l = front_length in
      let e = length-take-le a d (omega arith) in
      get_or-append (take a d ++ xs) (drop (a + length xs) d) z i (omega arith)
      ∙ get_or-append (take a d) xs z i (omega arith)
      ∙ get_or-take a d i z p

  pub read_above : (j z : ℕ) → get_or (overwrite d a xs) (a + length xs + j) z ≡ get_or d (a + length xs + j) z
  unfolding overwrite
  read_above j z =
      rw front_length at (get_or-append-add (take a d ++ xs) (drop (a + length xs) d) j z)
      ∙ get_or-drop (a + length xs) d j z
