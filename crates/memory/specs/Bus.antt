-- What a step sees as memory: the lent words, and how they are reached. Nothing above this crate opens a bus; all use the laws of `Laws`.
use Rattle.std.specs.Prelude.{ℕ, cond, List, Result, Ok, Err}
use Rattle.refusal.specs.declared.Refusal.{Refusal}
use Rattle.refusal.specs.declared.Refusal.TheVariants.{MemoryTooLong, BadMap}
use Rattle.memory.specs.declared.map.Board.{Board}
use Rattle.memory.specs.Memory.{peek_of, poke_of, too_long}
use Rattle.memory.specs.Map.{cell_at, read_as, store_as, bad_map}

-- how the words are reached: plainly, at every address the lent word there, or by a board's map
pub data Access : Type 0 where
  plain : Access
  mapped : Board → Access

pub record Bus : Type 0 where
  pub words : List ℕ
  pub access : Access

-- the bus of document 01: lent words, reached plainly
abbrev pub bus_of : List ℕ → Bus
bus_of m = record { words = m; access = plain }

-- the same words on a board
abbrev pub on_board : Board → Bus → Bus
on_board b s = record { words = s.words; access = mapped b }

-- the bus of document 02: "a board map beside the memory"
abbrev pub bus_on : Board → List ℕ → Bus
bus_on b m = on_board b (bus_of m)

-- the word read at an address
abbrev pub read_by : Access → List ℕ → ℕ → ℕ
read_by plain m a = peek_of m a
read_by (mapped b) m a = read_as (cell_at b a) m a

unfoldable pub read_of : Bus → ℕ → ℕ
read_of s a = read_by s.access s.words a

-- the bus after a word was stored at an address
abbrev pub store_by : Access → List ℕ → ℕ → ℕ → List ℕ
store_by plain m a w = poke_of m a w
store_by (mapped b) m a w = store_as (cell_at b a) m a w

unfoldable pub store_of : Bus → ℕ → ℕ → Bus
store_of s a w = record { words = store_by s.access s.words a w; access = s.access }

-- what a step stores: nothing, or a word at an address
pub data Store : Type 0 where
  keep : Store
  put : ℕ → ℕ → Store

abbrev pub stored : Bus → Store → Bus
stored b keep = b
stored b (put a w) = store_of b a w

-- whether a call is let in: refusals 1 and 14, which no step can change; 14 is "directly after 1 in every call that takes a map"
abbrev pub map_admission : Access → Result (Unit {0}) Refusal
map_admission plain = Ok tt
map_admission (mapped b) = cond (bad_map b) (Err BadMap) (Ok tt)

unfoldable pub admission_of : Bus → Result (Unit {0}) Refusal
admission_of s = cond (too_long s.words) (Err MemoryTooLong) (map_admission s.access)

-- a call's outcome: refused at the door, or what it does once it is in
abbrev pub unless_barred : {A : Type 0} → Result (Unit {0}) Refusal → (Refusal → A) → A → A
unless_barred (Ok u) refuse x = x
unless_barred (Err r) refuse x = refuse r
