-- Document 02, [5]: "The metering program must now pass 57". Its text is the one that it had while it passed 0 and 0 meant 57: each record as the region that is
-- walked at 57. No default stands in this definition, so the law holds in the same words of that text.
use Rattle.std.specs.Prelude.{ℕ, ◌+◌, ◌-◌, ◌≡◌, List, [], ◌∷◌, ◌++◌, length}
use Rattle.refusal.specs.Report.{Report, refused, answered}
use Rattle.memory.specs.Bus.{Bus, read_of}
use Rattle.records.specs.Records.{Record}
use Rattle.meter.specs.Walk.{walk_from}
use Rattle.meter.specs.Meter.{named_of, every_address}
use Rattle.report.specs.declared.Program.TheVariants.{MeterImage}
use Rattle.report.specs.Text.{line_text, lines_text}
use Rattle.report.specs.Reading.{ReadImage, reading_of}
use Rattle.report.specs.Regions.{named_line}
use Rattle.report.specs.Program.{refused_line, board_line, end_line, report_text}

-- the line of the region from first to last, walked at a limit
abbrev pub metered_line : ℕ → Bus → ℕ → ℕ → List ℕ
metered_line limit b first last = named_line first last (named_of every_address (walk_from (read_of b) limit) first last)

-- of each record "its first and last address, longest wait and start, lowest Over start"
abbrev pub metered_lines : ℕ → Bus → List Record → List (List ℕ)
metered_lines limit b [] = []
metered_lines limit b (r ∷ rs) = metered_line limit b r.address (r.address + (length r.words - 1)) ∷ metered_lines limit b rs

-- "The metering program reads and refuses alike and prints the same first line, then for each record .., then the number of records"
abbrev pub metered_text : ℕ → (List ℕ → Bus) → Report ReadImage → List ℕ
metered_text limit seen (refused n) = line_text (refused_line n)
metered_text limit seen (answered image) =
    line_text board_line
    ++ (lines_text (metered_lines limit (seen image.memory) image.records) ++ line_text (end_line (length image.records)))

-- every input's text, refused ones' too
abbrev pub MetersAt57 : Type 0
MetersAt57 = (seen : List ℕ → Bus) (input : List ℕ) → report_text seen MeterImage input ≡ metered_text 57 seen (reading_of input)
