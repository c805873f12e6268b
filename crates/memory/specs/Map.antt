-- Document 02, [1]: "a board map beside the memory: up to 16 ranges, each ROM, 16-bit RAM or 8-bit RAM, first match deciding, unmatched words
-- empty."
use Rattle.std.specs.Prelude.{ℕ, ◌%◌, Bool, cond, ◌&&◌, ◌||◌, List, leb, ltb, take, replicate, Option, None, Some}
use Rattle.std.specs.List.{find, list_any}
use Rattle.memory.specs.declared.map.Kind.{Kind}
use Rattle.memory.specs.declared.map.Kind.TheVariants.{Rom, Ram16, Ram8}
use Rattle.memory.specs.declared.map.Range.{Range}
use Rattle.memory.specs.declared.map.Board.{Board}
use Rattle.memory.specs.Memory.{peek_of, poke_of}

-- a range holds the addresses from its first to its last
unfoldable pub holds : Range → ℕ → Bool
holds r a = leb r.first a && leb a r.last

-- "up to 16 ranges", and so many are looked at of a board that says more
abbrev pub most_ranges : ℕ
most_ranges = 16

unfoldable pub listed_in : ℕ → ℕ
listed_in count = cond (leb count most_ranges) count most_ranges

-- the ranges that a board lists
abbrev pub ranges_of : Board → List Range
ranges_of b = take b.count b.ranges

-- "first match deciding"
abbrev pub deciding : List Range → ℕ → Option Range
deciding rs a = find (λ r. holds r a) rs

-- what a word of the memory is
pub data Cell : Type 0 where
  rom : Cell
  ram16 : Cell
  ram8 : Cell
  empty : Cell

-- "each ROM, 16-bit RAM or 8-bit RAM"
abbrev pub cell_of : Kind → Cell
cell_of Rom = rom
cell_of Ram16 = ram16
cell_of Ram8 = ram8

-- "unmatched words empty"
abbrev pub cell_in : Option Range → Cell
cell_in None = empty
cell_in (Some r) = cell_of r.kind

-- what the word at an address is
unfoldable pub cell_at : Board → ℕ → Cell
cell_at b a = cell_in (deciding (ranges_of b) a)

-- "an empty word reads $FFFF, and other reads give the lent word"
abbrev pub read_as : Cell → List ℕ → ℕ → ℕ
read_as rom m a = peek_of m a
read_as ram16 m a = peek_of m a
read_as ram8 m a = peek_of m a
read_as empty m a = 0xFFFF

-- "A store to ROM or to an empty word does nothing, a store to an 8-bit word keeps the low byte (high byte 0)"
abbrev pub store_as : Cell → List ℕ → ℕ → ℕ → List ℕ
store_as rom m a w = m
store_as ram16 m a w = poke_of m a w
store_as ram8 m a w = poke_of m a (w % 256)
store_as empty m a w = m

-- "one with first above last"
abbrev pub any_reversed : List Range → Bool
any_reversed rs = list_any (λ r. ltb r.last r.first) rs

-- refusal 14: "more than 16 ranges or one with first above last"; each listed range is tested, also one that never decides
unfoldable pub bad_map : Board → Bool
bad_map b = ltb most_ranges b.count || any_reversed (ranges_of b)

-- "An all-RAM map (one 16-bit range over all addresses)"
abbrev pub whole_ram : Range
whole_ram = record { first = 0; last = 0xFFFF; kind = Ram16 }

unfoldable pub all_ram : Board
all_ram = record { ranges = replicate most_ranges whole_ram; count = 1 }
