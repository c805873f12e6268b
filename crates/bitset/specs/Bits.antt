-- A set of addresses in lent words: document 02, [4]: "one bit an address, 64 to a word, lowest bit first".
use Rattle.std.specs.Prelude.{ℕ, zero, suc, ◌+◌, ◌/◌, ◌%◌, ◌^◌, ◌<◌, ◌≡◌, Bool, not, cond, ◌||◌, List, eqb, length, get_or, set, Option, None, Some}
use Rattle.std.specs.Int.Bits.{bit_or}
use Rattle.word.specs.Word.{bit}

-- "a set buffer .. of 1,024 words": one bit for each of 65,536 addresses
abbrev pub set_length : ℕ
set_length = 1024

-- refusal 18: "a set buffer not of 1,024 words"
abbrev pub is_wrong_length : List ℕ → Bool
is_wrong_length buffer = not (eqb (length buffer) set_length)

-- an address is in the set; words past the end have no members
unfoldable pub contains : List ℕ → ℕ → Bool
contains words a = bit (a % 64) (get_or words (a / 64) 0)

-- the set with an address more
unfoldable pub inserted : List ℕ → ℕ → List ℕ
inserted words a = set words (a / 64) (bit_or (get_or words (a / 64) 0) (2 ^ (a % 64)))

-- an address is in one set or the other
abbrev pub in_either : List ℕ → List ℕ → ℕ → Bool
in_either one other a = contains one a || contains other a

-- how many numbers below n are members
unfoldable pub count_below : (ℕ → Bool) → ℕ → ℕ
count_below f zero = 0
count_below f (suc n) = count_below f n + cond (f n) 1 0

-- "the lowest, or none"
pub data LowestOrNone : Type 0 where
  none : LowestOrNone
  lowest_at : ℕ → LowestOrNone

-- of numbers found in rising order, the first one stays
abbrev pub keep_lowest : LowestOrNone → ℕ → LowestOrNone
keep_lowest none a = lowest_at a
keep_lowest (lowest_at b) a = lowest_at b

-- the lowest member below n
unfoldable pub lowest_below : (ℕ → Bool) → ℕ → LowestOrNone
lowest_below f zero = none
lowest_below f (suc n) = cond (f n) (keep_lowest (lowest_below f n) n) (lowest_below f n)

-- what the code's lowest stands for
abbrev pub lowest_or_none : Option ℕ → LowestOrNone
lowest_or_none None = none
lowest_or_none (Some a) = lowest_at a

-- how many addresses are in the set
abbrev pub size_of : List ℕ → ℕ
size_of words = count_below (contains words) 65536

-- a buffer for a set: its length, and words of 64 bits, as those of each `[u64]` are by its type
pub record SetBuffer (words : List ℕ) : Type 0 where
  pub long : length words ≡ set_length
  pub words_fit : (i : ℕ) → get_or words i 0 < 2 ^ 64
