-- What holds of members and of counts.
use Rattle.std.specs.Prelude.{ℕ, ◌-◌, ◌/◌, ◌^◌, ◌<◌, ◌≡◌, Bool, true, false, List, length, replicate}
use Rattle.bitset.specs.Bits.{contains, inserted, LowestOrNone, none, lowest_at, lowest_below, SetBuffer}

-- what was put in is there, each other address is there if it was; nothing is in the empty set, and every address in a set of ones
pub record MemberLaws : Type 0 where
  pub same : (words : List ℕ) (a : ℕ) → a / 64 < length words → contains (inserted words a) a ≡ true
  pub other : (words : List ℕ) (a b : ℕ) → (a ≡ b → ⊥) → contains (inserted words a) b ≡ contains words b
  pub known : (words : List ℕ) (a : ℕ) → contains words a ≡ true → inserted words a ≡ words
  pub none : (n a : ℕ) → contains (replicate n 0) a ≡ false
  pub all : (n a : ℕ) → a / 64 < n → contains (replicate n (2 ^ 64 - 1)) a ≡ true

-- a set's words are fixed by its members
abbrev pub SameMembers : Type 0
SameMembers = (c d : List ℕ) → SetBuffer c → SetBuffer d → ((a : ℕ) → contains c a ≡ contains d a) → c ≡ d

-- "the lowest, or none": it is a member and none below it is; or none below n is
abbrev pub IsLowest : (ℕ → Bool) → ℕ → LowestOrNone → Type 0
IsLowest f n none = (a : ℕ) → a < n → f a ≡ false
IsLowest f n (lowest_at a) = (a < n) × (f a ≡ true) × ((b : ℕ) → b < a → f b ≡ false)

pub record LowestLaws : Type 0 where
  pub is_lowest : (f : ℕ → Bool) (n : ℕ) → IsLowest f n (lowest_below f n)
  pub only : (f : ℕ → Bool) (n : ℕ) (x y : LowestOrNone) → IsLowest f n x → IsLowest f n y → x ≡ y
