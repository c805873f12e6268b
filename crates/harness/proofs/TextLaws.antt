-- Laws of what stands before and behind a mark, and from a place on.
use Rattle.std.proofs.Common.{◌≡◌, ℕ, zero, suc, ◌-◌, ◌≤◌, List, [], ◌∷◌, length, take, drop, refl, le_of_suc-le-suc, arith, length-drop, take_all}

-- a part from a place on is all that stands there
pub part-rest : (l : List ℕ) (n : ℕ) → take (length l - n) (drop n l) ≡ drop n l
part-rest l n = take_all (length l - n) (drop n l) (omega (arith, length-drop n l))

pub drop_past : (l : List ℕ) (n : ℕ) → length l ≤ n → drop n l ≡ []
drop_past [] zero h = refl
drop_past [] (suc n) h = refl
drop_past (b ∷ l) zero h = absurd (omega arith)
drop_past (b ∷ l) (suc n) h = drop_past l n (le_of_suc-le-suc h)
