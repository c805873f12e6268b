-- What holds of each entry of a table holds of the one that is taken.
use Prim.Native.Nat.{ℕ, zero, suc}
use mathlib.Core.List.{List, [], ◌∷◌}
use lib.ListN.{get_or}

abbrev pub AllOf : {A : Type 0} → (A → Type 0) → List A → Type 0
AllOf P [] = Unit
AllOf P (x ∷ xs) = P x × AllOf P xs

pub of-table : {A : Type 0} (P : A → Type 0) (xs : List A) (n : ℕ) (x : A) → AllOf P xs → P x → P (get_or xs n x)
of-table P [] n x h p = p
of-table P (y ∷ ys) zero x h p = h.0
of-table P (y ∷ ys) (suc n) x h p = of-table P ys n x h.1 p
