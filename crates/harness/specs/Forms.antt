-- The form of a row of fields: a row that gives each key the form of its values.
use Rattle.std.specs.Prelude.{ℕ, ◌%◌, Bool, true, cond, if◌then◌else◌, not, ◌&&◌, ◌||◌, List, [], ◌∷◌, length, drop, ◌==◌, nat_le, nat_lt, slice_index}
use Rattle.std.specs.List.{list_all, enumerate_from, slice_split}
use Prim.Native.Char.{code}
use Rattle.harness.specs.Text.{quoted, count_of, part_before, part_behind, equal_text, stands_in, all_stand_in}
use Rattle.harness.specs.Fields.{first_field, after_first_field, starts_with_key, fields_of, has_key, value_of_key, first_value}

abbrev pub decimal_digits : List ℕ
decimal_digits = quoted "0123456789"

abbrev pub hex_digits : List ℕ
hex_digits = quoted "0123456789ABCDEF"

abbrev pub is_word : List ℕ → Bool
is_word value = length value == 4 && all_stand_in value hex_digits

-- four columns of digits, and a comma in the fifth
unfoldable pub fits_column : ℕ → ℕ → Bool
fits_column byte column = cond (column % 5 == 4) (byte == (code ",")) (stands_in byte hex_digits)

-- words with commas between them
unfoldable pub is_list : List ℕ → Bool
is_list value = length value % 5 == 4 && list_all (λ p. fits_column p.1 p.0) (enumerate_from 0 value)

abbrev pub is_number : List ℕ → Bool
is_number value = (nat_lt 0 (length value) && nat_le (length value) 18) && all_stand_in value decimal_digits

-- so many binary digits
abbrev pub are_bits : ℕ → List ℕ → Bool
are_bits count value = length value == count && all_stand_in value (quoted "01")

abbrev pub is_bit : List ℕ → Bool
is_bit value = are_bits 1 value

-- bytes of two digits each, or none
abbrev pub is_hex : List ℕ → Bool
is_hex value = length value % 2 == 0 && all_stand_in value hex_digits

abbrev pub is_range_kind : List ℕ → Bool
is_range_kind value = (equal_text value (quoted "rom") || equal_text value (quoted "ram16")) || equal_text value (quoted "ram8")

-- a range of a map, as `0100-01FF:ram16`
unfoldable pub is_range : List ℕ → Bool
is_range value =
    let behind : List ℕ = part_behind (code "-") value in
    (is_word (part_before (code "-") value) && is_word (part_before (code ":") behind)) && is_range_kind (part_behind (code ":") behind)

-- ranges with commas between them, at most so many
unfoldable pub are_ranges : ℕ → List ℕ → Bool
are_ranges n value = nat_lt (count_of (code ",") value) n && list_all is_range (slice_split (λ b. b == (code ",")) value)

-- .. or `none`; one range more can be written than a board takes
abbrev pub is_map_text : List ℕ → Bool
is_map_text value = equal_text value (quoted "none") || are_ranges 17 value

unfoldable pub without_first : List ℕ → ℕ → List ℕ
without_first value letter = cond (slice_index value 0 == letter) (drop 1 value) value

-- some of the letters, in their order
abbrev pub are_picked : List ℕ → List ℕ → Bool
are_picked [] value = length value == 0
are_picked (l ∷ letters) value = are_picked letters (without_first value l)

-- .. or `-` for none
abbrev pub are_letters : List ℕ → List ℕ → Bool
are_letters value letters = equal_text value (quoted "-") || (nat_lt 0 (length value) && are_picked letters value)

-- word, list, number, bit, hex, map, any, or capital letters: the form's first letter tells which
unfoldable pub has_form : List ℕ → List ℕ → Bool
has_form value form =
    let letter : ℕ = slice_index form 0 in
    if letter == (code "w") then is_word value
    else if letter == (code "l") then is_list value
    else if letter == (code "n") then is_number value
    else if letter == (code "b") then is_bit value
    else if letter == (code "h") then is_hex value
    else if letter == (code "m") then is_map_text value
    else if letter == (code "a") then true
    else ((nat_le (code "A") letter && nat_le letter (code "Z")) && are_letters value form)

-- the key of the row's first field
abbrev pub first_key : List ℕ → List ℕ
first_key row = part_before (code "=") (first_field row)

-- the form of a key's values: nothing, where the key is unknown; `0000` stands for every address
unfoldable pub form_of_key : List ℕ → List ℕ → List ℕ
form_of_key form key = cond (is_word key) (value_of_key form (quoted "0000")) (value_of_key form key)

-- the row's first field is one of the form's, and no later one has its key; or it is empty, between two blanks
unfoldable pub first_fits : List ℕ → List ℕ → Bool
first_fits row form =
    cond (length (first_field row) == 0) true
    ((starts_with_key row (first_key row) && not (has_key (after_first_field row) (first_key row)))
    && has_form (first_value row) (form_of_key form (first_key row)))

abbrev pub fit_form : List ℕ → List ℕ → Bool
fit_form row form = list_all (λ field. first_fits field form) (fields_of row)
