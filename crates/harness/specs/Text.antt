-- Text as lists of bytes: what stands before and behind a mark, and the numbers that digits write.
use Rattle.std.specs.Prelude.{ℕ, zero, suc, ◌+◌, ◌*◌, ◌%◌, Bool, cond, ◌||◌, List, [], ◌∷◌, length, take, drop, ◌==◌, nat_lt, slice_index, count_by}
use Rattle.std.specs.List.{list_any, list_all, position}
use Rattle.std.specs.Option.{unwrap_or}
use Rattle.std.specs.Str.{bytes_eq}
use Prim.Native.Char.{code}
use Prim.Native.String.{String, len, char_at}
use Rattle.harness.specs.declared.text.Rows.{Rows}

-- n characters of a string from the i-th, as bytes
abbrev pub quoted_from : ℕ → String → ℕ → List ℕ
quoted_from zero s i = []
quoted_from (suc n) s i = code (char_at s i) ∷ quoted_from n s (suc i)

abbrev pub quoted : String → List ℕ
quoted s = quoted_from (len s) s 0

-- how many bytes stand before the first mark: all, where there is none
abbrev pub length_before : ℕ → List ℕ → ℕ
length_before mark text = unwrap_or (position (λ b. b == mark) text) (length text)

-- how many times the mark stands in a text
abbrev pub count_of : ℕ → List ℕ → ℕ
count_of mark text = count_by (λ b. b == mark) text

unfoldable pub part_before : ℕ → List ℕ → List ℕ
part_before mark text = take (length_before mark text) text

-- all that stands behind the first mark: nothing, where there is none
unfoldable pub part_behind : ℕ → List ℕ → List ℕ
part_behind mark text = drop (length_before mark text + 1) text

-- rows end with a line feed, or with the text
abbrev pub row_end : ℕ
row_end = code "\n"

abbrev pub first_row : List ℕ → List ℕ
first_row = part_before row_end

abbrev pub after_first_row : List ℕ → List ℕ
after_first_row = part_behind row_end

-- the rows of a text, at most so many
unfoldable pub rows_by : ℕ → List ℕ → List (List ℕ)
rows_by zero text = []
rows_by (suc n) [] = []
rows_by (suc n) (b ∷ text) = first_row (b ∷ text) ∷ rows_by n (after_first_row (b ∷ text))

-- no text has more rows than bytes
unfoldable pub rows_of : List ℕ → List (List ℕ)
rows_of text = rows_by (length text) text

-- those that are still to come
abbrev pub rows_left : Rows → List (List ℕ)
rows_left s = rows_of s.rest.now

-- an empty row, or one that starts with `#`
abbrev pub is_remark : List ℕ → Bool
is_remark row = length row == 0 || slice_index row 0 == (code "#")

abbrev pub starts_with : List ℕ → List ℕ → Bool
starts_with text start = bytes_eq start (take (length start) text)

abbrev pub equal_text : List ℕ → List ℕ → Bool
equal_text a b = bytes_eq a b

abbrev pub stands_in : ℕ → List ℕ → Bool
stands_in byte set = list_any (λ b. b == byte) set

-- whether each byte of a text stands in a set
abbrev pub all_stand_in : List ℕ → List ℕ → Bool
all_stand_in text set = list_all (λ b. stands_in b set) text

-- the value of a digit, 0 to 9 or A to F; any other byte has one too, below 16
unfoldable pub digit_value : ℕ → ℕ
digit_value b = cond (nat_lt b (code "A")) (b % 16) ((b + 9) % 16)

-- the number of n hexadecimal digits
abbrev pub hex_number : ℕ → List ℕ → ℕ
hex_number zero row = 0
hex_number (suc n) row = hex_number n row * 16 + digit_value (slice_index row n)

-- the number of n decimal digits, of which the last 18 count
abbrev pub decimal_number : ℕ → List ℕ → ℕ
decimal_number zero row = 0
decimal_number (suc n) row = decimal_number n row % 100000000000000000 * 10 + digit_value (slice_index row n)
