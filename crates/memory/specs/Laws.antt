-- What holds of reads and stores, of the lent words and of a bus.
use Rattle.std.specs.Prelude.{ℕ, ◌%◌, ◌<◌, ◌≤◌, ◌≡◌, Bool, true, false, ◌&&◌, List, [], ◌∷◌, ltb, length, Ok, Err}
use Rattle.refusal.specs.Report.{OneToOne}
use Rattle.refusal.specs.declared.Refusal.TheVariants.{MemoryTooLong, BadMap}
use Rattle.memory.specs.declared.map.Range.{Range}
use Rattle.memory.specs.declared.map.Board.{Board}
use Rattle.memory.specs.Memory.{peek_of, poke_of, too_long}
use Rattle.memory.specs.Map.{Cell, rom, ram16, ram8, empty, ranges_of, cell_at, bad_map, whole_ram, all_ram}
use Rattle.memory.specs.Bus.{Access, plain, mapped, Bus, bus_of, on_board, bus_on, read_of, store_of, admission_of}
use Rattle.memory.specs.Near.{in_front, no_range, near_of, Near}

-- every word read is a 16-bit word: so it is of each `[u16]`, by its type (`are_words` of src/types)
abbrev pub Words : List ℕ → Type 0
Words m = (a : ℕ) → peek_of m a < 65536

-- a word stored within the memory is read back, and each other word stays; "a write there does nothing"
pub record PokeLaws : Type 0 where
  pub same : (m : List ℕ) (a w : ℕ) → a < length m → peek_of (poke_of m a w) a ≡ w
  pub other : (m : List ℕ) (a w b : ℕ) → (a ≡ b → ⊥) → peek_of (poke_of m a w) b ≡ peek_of m b
  pub past_end : (m : List ℕ) (a w : ℕ) → length m ≤ a → poke_of m a w ≡ m
  pub keeps_length : (m : List ℕ) (a w : ℕ) → length (poke_of m a w) ≡ length m
  pub keeps_words : (m : List ℕ) (a w : ℕ) → Words m → w < 65536 → Words (poke_of m a w)

-- every word that a bus reads is a 16-bit word
abbrev pub BusWords : Bus → Type 0
BusWords s = (a : ℕ) → read_of s a < 65536

-- two buses read the same at these addresses
abbrev pub AgreeAt : List ℕ → Bus → Bus → Type 0
AgreeAt [] s t = Unit
AgreeAt (a ∷ rest) s t = (read_of s a ≡ read_of t a) × AgreeAt rest s t

-- whether a store to an address changes a word: it is RAM, and lies within the lent memory
abbrev pub is_ram : Cell → Bool
is_ram rom = false
is_ram ram16 = true
is_ram ram8 = true
is_ram empty = false

abbrev pub is_storable : Access → ℕ → Bool
is_storable plain a = true
is_storable (mapped b) a = is_ram (cell_at b a)

unfoldable pub takes_store : Bus → ℕ → Bool
takes_store s a = is_storable s.access a && ltb a (length s.words)

-- what all above knows of a bus
pub record BusLaws : Type 0 where
  pub one_to_one : OneToOne bus_of
  pub one_to_one_on : (b : Board) → OneToOne (bus_on b)
  -- the bus of lent words is those words
  pub reads : (m : List ℕ) (a : ℕ) → read_of (bus_of m) a ≡ peek_of m a
  pub stores : (m : List ℕ) (a w : ℕ) → store_of (bus_of m) a w ≡ bus_of (poke_of m a w)
  pub words : (m : List ℕ) → Words m → BusWords (bus_of m)
  pub words_on : (b : Board) (m : List ℕ) → Words m → BusWords (bus_on b m)
  -- a store changes one word at most, and none where it is not taken; it lets in whoever was let in, and keeps 16-bit words
  pub other : (s : Bus) (a w c : ℕ) → (a ≡ c → ⊥) → read_of (store_of s a w) c ≡ read_of s c
  pub untaken : (s : Bus) (a w : ℕ) → takes_store s a ≡ false → store_of s a w ≡ s
  pub keeps_admission : (s : Bus) (a w : ℕ) → admission_of (store_of s a w) ≡ admission_of s
  pub keeps_words : (s : Bus) (a w : ℕ) → BusWords s → w < 65536 → BusWords (store_of s a w)

-- who is let in, in the order in which it is asked: 1, and 14 "directly after 1 in every call that takes a map"
pub record AdmissionLaws : Type 0 where
  pub length_first : (b : Board) (m : List ℕ) → too_long m ≡ true → admission_of (bus_on b m) ≡ Err MemoryTooLong
  pub map_after : (b : Board) (m : List ℕ) → too_long m ≡ false → bad_map b ≡ true → admission_of (bus_on b m) ≡ Err BadMap
  pub lets_in : (b : Board) (m : List ℕ) → too_long m ≡ false → bad_map b ≡ false → admission_of (bus_on b m) ≡ Ok tt

-- a bus on a board, and what a store to it leaves: the lent words after it, of which at most the one stored to is another
pub record OnBoard (b : Board) (s : Bus) : Type 0 where
  pub words : List ℕ
  pub lent : s ≡ bus_on b words

pub record MapLaws : Type 0 where
  -- "an empty word reads $FFFF, and other reads give the lent word", also an 8-bit word's high byte
  pub reads_empty : (b : Board) (m : List ℕ) (a : ℕ) → cell_at b a ≡ empty → read_of (bus_on b m) a ≡ 0xFFFF
  pub reads_rom : (b : Board) (m : List ℕ) (a : ℕ) → cell_at b a ≡ rom → read_of (bus_on b m) a ≡ peek_of m a
  pub reads_ram16 : (b : Board) (m : List ℕ) (a : ℕ) → cell_at b a ≡ ram16 → read_of (bus_on b m) a ≡ peek_of m a
  pub reads_ram8 : (b : Board) (m : List ℕ) (a : ℕ) → cell_at b a ≡ ram8 → read_of (bus_on b m) a ≡ peek_of m a
  -- "A store to ROM or to an empty word does nothing", nor does one past the memory: every lent word stays, and so every read
  pub keeps_rom : (b : Board) (m : List ℕ) (a w : ℕ) → cell_at b a ≡ rom → store_of (bus_on b m) a w ≡ bus_on b m
  pub keeps_empty : (b : Board) (m : List ℕ) (a w : ℕ) → cell_at b a ≡ empty → store_of (bus_on b m) a w ≡ bus_on b m
  pub keeps_past : (b : Board) (m : List ℕ) (a w : ℕ) → length m ≤ a → store_of (bus_on b m) a w ≡ bus_on b m
  -- within the lent memory a store to 16-bit RAM reads back, and one to 8-bit RAM "keeps the low byte (high byte 0)"
  pub reads_back : (b : Board) (m : List ℕ) (a w : ℕ) → a < length m → cell_at b a ≡ ram16 → read_of (store_of (bus_on b m) a w) a ≡ w
  pub reads_back_low : (b : Board) (m : List ℕ) (a w : ℕ) → a < length m → cell_at b a ≡ ram8 → read_of (store_of (bus_on b m) a w) a ≡ w % 256
  -- a store leaves lent words on the same board, as many as before, and each but the one stored to as it was
  pub lent_after : (b : Board) (m : List ℕ) (a w : ℕ) → OnBoard b (store_of (bus_on b m) a w)
  pub keeps_length : (b : Board) (m n : List ℕ) (a w : ℕ) → store_of (bus_on b m) a w ≡ bus_on b n → length n ≡ length m
  pub keeps_other : (b : Board) (m n : List ℕ) (a w c : ℕ) → store_of (bus_on b m) a w ≡ bus_on b n → (a ≡ c → ⊥) → peek_of n c ≡ peek_of m c

-- a range at hand changes no read, and stays one at hand
pub record NearLaws : Type 0 where
  pub none : (b : Board) → Near b no_range
  pub moves : (b : Board) (near : Range) (a : ℕ) → Near b near → Near b (near_of b near a)
  pub reads : (b : Board) (near : Range) (m : List ℕ) → Near b near → read_of (bus_on (in_front near b) m) ≡ read_of (bus_on b m)
  -- the word at the address that was looked up is the same by the range at hand after it, whatever was at hand before
  pub fetches : (b : Board) (near : Range) (m : List ℕ) (a : ℕ) → read_of (bus_on (in_front near b) m) a ≡ read_of (bus_on (in_front (near_of b near a) b) m) a

-- a board whose listed ranges are just one 16-bit range over all addresses, whatever stands in its unlisted entries
pub record AllRam (b : Board) : Type 0 where
  pub one : b.count ≡ 1
  pub whole : ranges_of b ≡ whole_ram ∷ []

-- "An all-RAM map .. equals today's behaviour on every input": the equation between two buses that all above is proved by. A read past 65,535 gives $FFFF on
-- both where the memory is not refused by 1; where it is, nothing is read.
pub record AllRamLaws : Type 0 where
  pub made : AllRam all_ram
  pub admits : (b : Board) (m : List ℕ) → AllRam b → admission_of (bus_on b m) ≡ admission_of (bus_of m)
  pub reads : (b : Board) (m : List ℕ) → AllRam b → admission_of (bus_of m) ≡ Ok tt → read_of (bus_on b m) ≡ read_of (bus_of m)
  pub stores :
      (b : Board) (m : List ℕ) →
      AllRam b →
      admission_of (bus_of m) ≡ Ok tt →
      (a w : ℕ) →
      store_of (bus_on b m) a w ≡ on_board b (store_of (bus_of m) a w)
