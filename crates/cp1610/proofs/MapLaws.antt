-- The ranges of a map's words, put into an array one after the other.
use Prim.Native.Nat.{ℕ, zero, suc, ◌-◌, ◌<◌, ◌≤◌}
use mathlib.Core.Path.{◌≡◌, refl, ap}
use mathlib.Core.List.{List, [], ◌∷◌, ◌++◌}
use mathlib.Core.Bool.{Bool, true, false, ◌&&◌}
use mathlib.Core.Logic.{◌⊎◌, inl, inr, ⊎_elim}
use native.Mathlib.Decide.{dec_lt}
use native.Mathlib.Omega.{arith}
use Rattle.std.proofs.lemmas.Bool.{lt-leb, le-leb}
use lib.ListN.{length, set, replicate, length-append}
use Rattle.memory.specs.declared.map.Range.{Range}
use Rattle.cp1610.specs.MapWords.{kind_word, range_at, ranges_to, unlisted, kinds_to}

-- what the array holds once the first n ranges are in it
abbrev pub filled : ℕ → List ℕ → List Range
filled n map = ranges_to n map ++ replicate (16 - n) unlisted

pub to-length : (n : ℕ) (map : List ℕ) → length (ranges_to n map) ≡ n
unfolding ranges_to
to-length zero map = refl
to-length (suc n) map = rw (length-append (ranges_to n map) (range_at map n ∷ []), to-length n map) (omega arith)

set-seam : {A : Type 0} (xs ys : List A) (x y : A) (n : ℕ) → length xs ≡ n → set (xs ++ (x ∷ ys)) n y ≡ (xs ++ (y ∷ [])) ++ ys
set-seam [] ys x y n e = rw (← e)
set-seam (z ∷ xs) ys x y n e = rw (← e) (ap (λ l. z ∷ l) (set-seam xs ys x y (length xs) refl))

pub fill : (n : ℕ) (map : List ℕ) → n < 16 → set (filled n map) n (range_at map n) ≡ filled (suc n) map
unfolding ranges_to
fill n map h =
    let e : 16 - n ≡ suc (16 - suc n) = omega arith in
    rw e (set-seam (ranges_to n map) (replicate (16 - suc n) unlisted) unlisted (range_at map n) n (to-length n map))

and-false : (t : Bool) → (t && false) ≡ false
and-false true = refl
and-false false = refl

-- a kind that is none, in a longer map too
pub kind-none : (i m : ℕ) (map : List ℕ) → i < m → 2 < kind_word map i → kinds_to m map ≡ false
unfolding kinds_to
kind-none i zero map h k = absurd (omega arith)
kind-none i (suc m) map h k =
    ⊎_elim (λ p. rw (kind-none i m map p k))
    (λ (p : i ≡ m). rw (← p, lt-leb _ _ k) (and-false (kinds_to i map)))
    (before-or-at i m (omega arith))
  where
    before-or-at : (i m : ℕ) → i < suc m → (i < m) ⊎ (i ≡ m)
    before-or-at i m h = by (dec_lt i m)
      where
        by : Dec (i < m) → (i < m) ⊎ (i ≡ m)
        by (yes p) = inl p
        by (no p) = inr (omega arith)

pub is-none : (t : Bool) (i m : ℕ) (map : List ℕ) → i < m → 2 < kind_word map i → (t && kinds_to m map) ≡ false
is-none t i m map h k = rw (kind-none i m map h k) (and-false t)

pub kind-some : (i : ℕ) (map : List ℕ) → kinds_to i map ≡ true → kind_word map i ≤ 2 → kinds_to (suc i) map ≡ true
unfolding kinds_to
kind-some i map e h = rw (e, le-leb _ _ h)
