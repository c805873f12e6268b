-- A range at hand, so that the map is not searched for each word of an instruction. Reads ask whether any range holds an address; which one decides
-- counts for stores alone. So a range at hand is one put in front of the map, for reads.
use Rattle.std.specs.Prelude.{ℕ, suc, ◌≡◌, Bool, true, false, cond, ◌∷◌, Option, None, Some}
use Rattle.memory.specs.declared.map.Kind.TheVariants.{Rom}
use Rattle.memory.specs.declared.map.Range.{Range}
use Rattle.memory.specs.declared.map.Board.{Board}
use Rattle.memory.specs.declared.near.View.{View}
use Rattle.memory.specs.Map.{holds, ranges_of, deciding, Cell, rom, ram16, ram8, empty, cell_at}
use Rattle.memory.specs.Bus.{bus_on, read_of}

-- the board with a range at hand in front of its map
abbrev pub in_front : Range → Board → Board
in_front near b = record { ranges = near ∷ b.ranges; count = suc b.count }

-- a range that holds no address
unfoldable pub no_range : Range
no_range = record { first = 1; last = 0; kind = Rom }

abbrev pub range_in : Option Range → Range
range_in None = no_range
range_in (Some r) = r

-- the range at hand after an address was looked up: the old one while it holds the address, else the one that decides there
unfoldable pub near_of : Board → Range → ℕ → Range
near_of b near a = cond (holds near a) near (range_in (deciding (ranges_of b) a))

abbrev pub is_empty : Cell → Bool
is_empty rom = false
is_empty ram16 = false
is_empty ram8 = false
is_empty empty = true

-- no word of the range is empty
abbrev pub Near : Board → Range → Type 0
Near b r = (a : ℕ) → holds r a ≡ true → is_empty (cell_at b a) ≡ false

-- what the reads of a view give, address by address
abbrev pub reads : View → ℕ → ℕ
reads v = read_of (bus_on (in_front v.near v.board) v.words.now)
