-- What holds of every input and of every listing. Statements; the proofs are in proofs/.
use Rattle.std.specs.Prelude.{ℕ, ◌+◌, ◌<◌, ◌≤◌, ◌≡◌, Bool, List, length}
use Rattle.refusal.specs.Report.{refused}
use Rattle.memory.specs.declared.map.Board.{Board}
use Rattle.memory.specs.Bus.{bus_of, bus_on}
use Rattle.memory.specs.Laws.{AllRam}
use Rattle.report.specs.declared.Program.{Program}
use Rattle.report.specs.Reading.{input_limit, read_room, input_of, reading_of}
use Rattle.report.specs.Instructions.{lines_from}
use Rattle.report.specs.Program.{report_text}

-- "9: .. before all, over-long program input"
abbrev pub LongRefused : Type 0
LongRefused = (input : List ℕ) → input_limit < length input → reading_of input ≡ refused 9

-- Whatever was read into a room of one byte more, a count above the limit is refused: that of a full room, and one that no room has.
abbrev pub OverLongRefused : Type 0
OverLongRefused =
    (room : List ℕ) (count : ℕ) →
    length room ≡ read_room →
    input_limit < count →
    reading_of (input_of room count) ≡ refused 9

-- The count of `lines_from` runs out only at the end: any two that reach it give the same lines, so that "one line an instruction that
-- starts in it" leaves none out.
abbrev pub EveryInstructionListed : Type 0
EveryInstructionListed =
    (n k : ℕ) (read : ℕ → ℕ) (end at : ℕ) (double : Bool) →
    end ≤ at + n →
    end ≤ at + k →
    lines_from n read end at double ≡ lines_from k read end at double

-- Document 02, [1]: "An all-RAM map (one 16-bit range over all addresses) equals today's behaviour on every input; .. both programs pass all-RAM." On such
-- a board, as `all_ram` is, every file has the text that it has in plain memory.
abbrev pub AllRamText : Type 0
AllRamText =
    (b : Board) →
    AllRam b →
    (program : Program) (input : List ℕ) →
    report_text (bus_on b) program input ≡ report_text bus_of program input
