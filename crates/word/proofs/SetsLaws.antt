-- Laws of a run of stores, in two parts, and past the end of what is stored to; and of a part of a slice.
use Rattle.std.proofs.Common.{◌≡◌, ℕ, zero, suc, ◌+◌, ◌-◌, ◌≤◌, List, [], ◌∷◌, ◌++◌, length, take, drop, set, sym, refl, arith, length-drop, length-set, take_all}
use lib.Seq.{sets, set_out}

pub sets-split : (d : List ℕ) (a : ℕ) (xs ys : List ℕ) → sets d a (xs ++ ys) ≡ sets (sets d a xs) (a + length xs) ys
sets-split d a [] ys = let e : a + 0 ≡ a = omega arith in rw e
sets-split d a (x ∷ xs) ys =
    let e : a + suc (length xs) ≡ suc a + length xs = omega arith in
    rw e (sets-split (set d a x) (suc a) xs ys)

-- nothing is stored past the end
pub sets-past : (d : List ℕ) (a : ℕ) (xs : List ℕ) → length d ≤ a → sets d a xs ≡ d
sets-past d a [] h = refl
sets-past d a (x ∷ xs) h = rw (set_out d a x h) (sets-past d (suc a) xs (omega arith))

-- so only those that lie within count
pub sets-within : (n : ℕ) (d : List ℕ) (a : ℕ) (xs : List ℕ) → length d ≤ a + n → sets d a (take n xs) ≡ sets d a xs
sets-within zero d a xs h = sym (sets-past d a xs (omega arith))
sets-within (suc n) d a [] h = refl
sets-within (suc n) d a (x ∷ xs) h = sets-within n (set d a x) (suc a) xs (omega (arith, length-set d a x))

-- the contents of a part of a slice from an index to its end
pub rest : (l : List ℕ) (at : ℕ) → take (length l - at) (drop at l) ≡ drop at l
rest l at = take_all (length l - at) (drop at l) (omega (arith, length-drop at l))
