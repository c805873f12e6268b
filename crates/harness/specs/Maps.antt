-- The board that a field writes: its map, as `0000-00EF:ram8,5000-6FFF:rom`.
use Rattle.std.specs.Prelude.{ℕ, zero, suc, ◌+◌, min, cond, List, [], ◌∷◌}
use Prim.Native.Char.{code}
use Rattle.memory.specs.declared.map.Kind.{Kind}
use Rattle.memory.specs.declared.map.Kind.TheVariants.{Rom, Ram16, Ram8}
use Rattle.memory.specs.declared.map.Range.{Range}
use Rattle.memory.specs.declared.map.Board.{Board}
use Rattle.memory.specs.Map.{all_ram}
use Rattle.harness.specs.Text.{quoted, count_of, part_before, part_behind, equal_text, hex_number}
use Rattle.harness.specs.Fields.{has_key, value_of_key}

unfoldable pub kind_written : List ℕ → Kind
kind_written text = cond (equal_text text (quoted "rom")) Rom (cond (equal_text text (quoted "ram8")) Ram8 Ram16)

-- the range that `0100-01FF:ram16` writes
unfoldable pub range_written : List ℕ → Range
range_written text =
    let behind : List ℕ = part_behind (code "-") text in
    record { first = hex_number 4 text; last = hex_number 4 behind; kind = kind_written (part_behind (code ":") behind) }

-- the first n ranges of a list with commas; past its end those of an empty text, which a board does not list
unfoldable pub ranges_written : ℕ → List ℕ → List Range
ranges_written zero list = []
ranges_written (suc n) list = range_written (part_before (code ",") list) ∷ ranges_written n (part_behind (code ",") list)

-- how many ranges a list has, counted as far as n
abbrev pub count_written : ℕ → List ℕ → ℕ
count_written n list = min (count_of (code ",") list + 1) n

-- a board with the map that a value writes; a 17th range is only counted, which is what a board with too many looks like
unfoldable pub board_written : List ℕ → Board
board_written value = record { ranges = ranges_written 16 value; count = cond (equal_text value (quoted "none")) 0 (count_written 17 value) }

-- all-RAM, where there is no such field
abbrev pub board_of_key : List ℕ → List ℕ → Board
board_of_key row key = cond (has_key row key) (board_written (value_of_key row key)) all_ram
