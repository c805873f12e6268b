-- Document 02, [1]: "An all-RAM map (one 16-bit range over all addresses) equals today's behaviour on every input." On such a board the disassembler
-- leaves what the same definition leaves over plain lent memory, also of one above 65,536 words.
use Rattle.std.specs.Prelude.{ℕ, ◌≡◌, Bool, List}
use Rattle.memory.specs.declared.map.Board.{Board}
use Rattle.memory.specs.Bus.{bus_of, bus_on}
use Rattle.memory.specs.Laws.{AllRam}
use Rattle.listing.specs.Disassemble.{disassemble_of}

abbrev pub AllRamLists : Type 0
AllRamLists =
    (b : Board) (m : List ℕ) →
    AllRam b →
    (at : ℕ) (double : Bool) (room : List ℕ) →
    disassemble_of (bus_on b m) at double room ≡ disassemble_of (bus_of m) at double room
