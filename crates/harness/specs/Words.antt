-- Runs of words.
use Rattle.std.specs.Prelude.{ℕ, zero, suc, ◌+◌, ◌/◌, Bool, cond, not, ◌||◌, List, [], ◌∷◌, length, drop, nat_le, slice_set}
use Rattle.std.specs.List.{list_all}
use Rattle.harness.specs.Text.{hex_number}
use Rattle.harness.specs.Fields.{fields_of, first_value}
use Rattle.harness.specs.Forms.{is_word, first_key}

-- how many words a list has: each takes five columns, the last four
abbrev pub words_in_list : List ℕ → ℕ
words_in_list list = length list / 5 + 1

-- a memory with n words of a list from a place on; a word past its end is passed over
abbrev pub with_list : ℕ → ℕ → List ℕ → List ℕ → List ℕ
with_list zero at list memory = memory
with_list (suc n) at list memory = with_list n (at + 1) (drop 5 list) (slice_set memory at (hex_number 4 list))

-- .. with all its words from an address on
abbrev pub with_list_at : ℕ → List ℕ → List ℕ → List ℕ
with_list_at address list memory = with_list (words_in_list list) address list memory

-- whether the row's first field tells words at an address
abbrev pub tells_words : List ℕ → Bool
tells_words row = is_word (first_key row)

unfoldable pub with_first : List ℕ → List ℕ → List ℕ
with_first row memory = cond (tells_words row) (with_list_at (hex_number 4 row) (first_value row) memory) memory

abbrev pub with_all : List (List ℕ) → List ℕ → List ℕ
with_all [] memory = memory
with_all (field ∷ fields) memory = with_all fields (with_first field memory)

-- a memory with the words that a row's fields tell
abbrev pub with_words : List ℕ → List ℕ → List ℕ
with_words row memory = with_all (fields_of row) memory

unfoldable pub is_inside : List ℕ → ℕ → Bool
is_inside row size = not (tells_words row) || nat_le (hex_number 4 row + words_in_list (first_value row)) size

-- whether all words that a row's fields tell lie inside a memory of this size
abbrev pub are_inside : List ℕ → ℕ → Bool
are_inside row size = list_all (λ field. is_inside field size) (fields_of row)
