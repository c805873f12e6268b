-- The C interface page, "The map": how words stand for a board.
use Rattle.std.specs.Prelude.{ℕ, zero, suc, ◌+◌, ◌*◌, ◌-◌, ◌/◌, ◌%◌, Bool, true, cond, ◌&&◌, List, [], ◌∷◌, ◌++◌, eqb, leb, length, get_or, replicate}
use Rattle.memory.specs.declared.map.Kind.{Kind}
use Rattle.memory.specs.declared.map.Kind.TheVariants.{Rom, Ram16, Ram8}
use Rattle.memory.specs.declared.map.Range.{Range}
use Rattle.memory.specs.declared.map.Board.{Board}
use Rattle.memory.specs.Map.{most_ranges, listed_in}
use Rattle.memory.specs.Bus.{Bus, bus_on}

-- "three a range: first, last, kind (0 ROM, 1 16-bit RAM, 2 8-bit RAM)"
abbrev pub range_words : ℕ
range_words = 3

abbrev pub kind_of : ℕ → Kind
kind_of word = cond (eqb word 0) Rom (cond (eqb word 1) Ram16 Ram8)

abbrev pub kind_word : List ℕ → ℕ → ℕ
kind_word map i = get_or map (i * 3 + 2) 0

unfoldable pub range_at : List ℕ → ℕ → Range
range_at map i = record { first = get_or map (i * 3) 0; last = get_or map (i * 3 + 1) 0; kind = kind_of (kind_word map i) }

-- the ranges from the first on, so many of them
unfoldable pub ranges_to : ℕ → List ℕ → List Range
ranges_to zero map = []
ranges_to (suc n) map = ranges_to n map ++ (range_at map n ∷ [])

-- what stands in the entries that the map does not list counts for nothing
abbrev pub unlisted : Range
unlisted = record { first = 0; last = 0; kind = Rom }

-- the board that a caller's words stand for; "An empty slice is a map without ranges"; no word past the first 16 ranges is looked at
unfoldable pub board_of : List ℕ → Board
board_of map =
    let count : ℕ = length map / range_words in
    record { ranges = ranges_to (listed_in count) map ++ replicate (most_ranges - listed_in count) unlisted; count = count }

-- "A length that is no multiple of 3, or a kind above 2 in one of the first 16 ranges, is no map at all"
unfoldable pub kinds_to : ℕ → List ℕ → Bool
kinds_to zero map = true
kinds_to (suc n) map = kinds_to n map && leb (kind_word map n) 2

unfoldable pub is_map : List ℕ → Bool
is_map map = eqb (length map % range_words) 0 && kinds_to (listed_in (length map / range_words)) map

-- a memory on the board of a map
abbrev pub on_map : List ℕ → List ℕ → Bus
on_map map mem = bus_on (board_of map) mem

-- "`CP1610_ALL_RAM`": one 16-bit range over all addresses
abbrev pub all_ram_words : List ℕ
all_ram_words = 0 ∷ 0xFFFF ∷ 1 ∷ []
