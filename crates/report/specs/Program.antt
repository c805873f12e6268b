-- What the listing program and the metering program print of their input, to the last byte. How the loaded words are seen as a bus is an
-- argument: document 02, [1], "both programs pass all-RAM", and `AllRamText` says that plain memory has the same text.
use Rattle.std.specs.Prelude.{ℕ, ◌≤◌, ◌≡◌, Bool, List, [], ◌∷◌, ◌++◌, length, take, drop}
use Rattle.refusal.specs.Report.{Report, refused, answered, is_refused}
use Rattle.memory.specs.Map.{all_ram}
use Rattle.memory.specs.Bus.{Bus, bus_on}
use Rattle.records.specs.Records.{Record}
use Rattle.text.specs.Text.{codes, hex_of}
use Rattle.report.specs.declared.Program.{Program}
use Rattle.report.specs.declared.Program.TheVariants.{ListImage, MeterImage}
use Rattle.report.specs.declared.Printed.{Printed}
use Rattle.report.specs.Text.{decimal_text, line_text, lines_text}
use Rattle.report.specs.Reading.{board_number, ReadImage, reading_of}
use Rattle.report.specs.Instructions.{instruction_lines}
use Rattle.report.specs.Regions.{region_lines}

-- the lines of a record of so many words, after the whole load
abbrev pub record_lines : Program → Bus → ℕ → ℕ → List (List ℕ)
record_lines ListImage b address count = instruction_lines b address count
record_lines MeterImage b address count = region_lines b address count

-- the lines of each record in the file's order
abbrev pub records_lines : Program → Bus → List Record → List (List ℕ)
records_lines program b [] = []
records_lines program b (r ∷ rs) = record_lines program b r.address (length r.words) ++ records_lines program b rs

-- "On refusal it prints only `REFUSED n`, n decimal."
unfoldable pub refused_line : ℕ → List ℕ
refused_line n = codes "REFUSED " ++ decimal_text n

-- "`BOARD 0002`"
unfoldable pub board_line : List ℕ
board_line = codes "BOARD " ++ hex_of board_number

-- "`END 0001`"
unfoldable pub end_line : ℕ → List ℕ
end_line n = codes "END " ++ hex_of n

-- the number behind END: of "instruction lines" in the listing, "the number of records" in the metering
abbrev pub end_number : Program → List (List ℕ) → List Record → ℕ
end_number ListImage lines rs = length lines
end_number MeterImage lines rs = length rs

-- the first line, the lines of all records, and the last line
unfoldable pub loaded_text : Program → Bus → List Record → List ℕ
loaded_text program b rs =
    line_text board_line
    ++ (lines_text (records_lines program b rs) ++ line_text (end_line (end_number program (records_lines program b rs) rs)))

-- `seen` is how the loaded words are seen
abbrev pub reading_text : (List ℕ → Bus) → Program → Report ReadImage → List ℕ
reading_text seen program (refused n) = line_text (refused_line n)
reading_text seen program (answered image) = loaded_text program (seen image.memory) image.records

unfoldable pub report_text : (List ℕ → Bus) → Program → List ℕ → List ℕ
report_text seen program input = reading_text seen program (reading_of input)

-- all that a printing leaves: the text's size, whether the input is refused, and the room
pub record Printing : Type 0 where
  pub size : ℕ
  pub refusal : Bool
  pub room : List ℕ

-- the text at the front of the room; the room past it stays
abbrev pub text_put : Bool → List ℕ → List ℕ → Printing
text_put refusal text room = record { size = length text; refusal = refusal; room = text ++ drop (length text) room }

-- "both programs pass all-RAM"
unfoldable pub printing_of : Program → List ℕ → List ℕ → Printing
printing_of program input room = text_put (is_refused (reading_of input)) (report_text (bus_on all_ram) program input) room

-- the printing that the code's answer and the room at its return stand for: the contract says that it is `printing_of`
abbrev pub printing : Printed → List ℕ → Printing
printing p room = record { size = p.size; refusal = p.refused; room = room }

-- the text lies in the room. It follows from the equation, and is stated so that a caller's proof of `&room[..size]` finds it.
abbrev pub Within : ℕ → List ℕ → Type 0
Within size room = (size ≤ length room) × (size ≡ length (take size room))
