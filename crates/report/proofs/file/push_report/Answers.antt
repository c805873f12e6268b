-- The first line, the lines of the records, and the last line.
use mathlib.Core.Path.{◌≡◌, ◌∙◌}
use native.Mathlib.Omega.{arith}
use Rattle.memory.specs.Map.{all_ram}
use Rattle.memory.specs.Bus.{Bus, bus_on}
use Rattle.report.specs.Reading.{records_of}
use Rattle.report.specs.Program.{records_lines, board_line, end_line, end_number, loaded_text}
use Rattle.report.proofs.LineLaws.{end-number}
use Rattle.report.proofs.PageLaws.{puts_then, adds-few}
use Rattle.report.proofs.LengthLaws.{numbered_length}
use Rattle.report.proofs.file.push_report.Goals as goal

-- the page behind the first line, and behind the lines of the records
pub push_records-requires : goal.push_records-requires
push_records-requires c =
    let w = c.push_numbered.ensures in
    let b = c.requires.1 in
    (c.requires.0, (omega (arith, w.lines, b.lines), omega (arith, w.puts.place, w.stays.size, b.at, b.size, numbered_length 2)))

pub push_numbered-requires-2 : goal.push_numbered-requires-2
push_numbered-requires-2 c =
    let w = c.push_numbered.ensures in
    let b = c.requires.1 in
    let f = c.push_records.ensures in (
      adds-few f.adds (omega (arith, w.lines, b.lines)),
      omega (arith, f.size, f.adds.stays.size, w.puts.place, w.stays.size, b.at, b.size, numbered_length 2),
    )

pub returns : goal.returns
unfolding loaded_text board_line end_line
returns c =
    let a = c.args in
    let rs = records_of a.file.now in
    let seen : Bus = bus_on all_ram a.memory.now in
    let f = c.push_records.ensures.adds in
    let n : end_number a.program (records_lines a.program seen rs) rs ≡ c.push_records.new.page.lines =
    end-number a.program seen rs ∙ omega (arith, f.count, c.push_numbered.ensures.lines, c.requires.1.lines)
    in
    record {
      same_room = c.push_numbered-2.ensures.stays.same_room ∙ f.stays.same_room ∙ c.push_numbered.ensures.stays.same_room;
      puts = rw n (puts_then c.push_numbered.ensures.puts (puts_then f.puts c.push_numbered-2.ensures.puts));
    }
