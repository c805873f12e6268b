-- The disassembler refuses nothing here; its line stands behind the address and a space.
use mathlib.Core.Path.{sym}
use native.Mathlib.Omega.{arith}
use lib.Dec.{lit≤}
use lib.Seq.{length-take-le}
use Rattle.memory.specs.Map.{all_ram}
use Rattle.memory.specs.Bus.{bus_on, read_of}
use Rattle.report.proofs.LengthLaws.{field_length}
use Rattle.report.proofs.LineLaws.{instruction-pieces}
use Rattle.report.proofs.CallLaws.{ListedLine, listed-line, surely-listed}
use Rattle.report.proofs.PageLaws.{writes_then, writes_as, adds-line}
use Rattle.report.proofs.instructions.push_line.Goals as goal
use Rattle.report.proofs.instructions.push_line.Goals.{After-unwrap-listed}

pub unwrap-listed-requires : goal.unwrap-listed-requires
unwrap-listed-requires c = surely-listed c.all_ram.ensures _ _ _ _ _ c.disassemble.ensures (omega arith) (lit≤ tt)

-- the line that was listed
line : (c : After-unwrap-listed) → ListedLine (read_of (bus_on all_ram c.args.memory.now)) c.args.address c.args.double c.disassemble.new.text c.unwrap-listed.result
line c = listed-line c.all_ram.ensures _ _ _ _ _ c.disassemble.ensures (omega arith) (lit≤ tt) c.unwrap-listed.ensures

pub slice_bounds-text-end : goal.slice_bounds-text-end
slice_bounds-text-end c = omega (arith, (line (goal.at.slice_bounds-text-end c).After-unwrap-listed).short)

pub slice_bounds-push_bytes-end : goal.slice_bounds-push_bytes-end
slice_bounds-push_bytes-end c =
    sym (length-take-le _ _ (omega (arith, (line (goal.at.slice_bounds-push_bytes-end c).After-unwrap-listed).short)))

pub push_bytes-requires : goal.push_bytes-requires
push_bytes-requires c =
    let l = line (goal.at.push_bytes-requires c).After-unwrap-listed in
    let w = c.push_field.ensures in
    (omega (arith, w.lines, w.puts.place), omega (arith, l.text_short, w.puts.place, w.stays.size, field_length c.args.address))

pub end_line-requires : goal.end_line-requires
end_line-requires c =
    let l = line (goal.at.end_line-requires c).After-unwrap-listed in
    let w = c.push_field.ensures in
    let b = c.push_bytes.ensures in (
      omega (arith, w.lines, w.puts.place, b.lines, b.puts.place),
      omega (arith, l.text_short, w.puts.place, w.stays.size, b.puts.place, b.stays.size, field_length c.args.address),
    )

pub returns : goal.returns
returns c =
    let a = c.args in
    let l = line (goal.at.returns c).After-unwrap-listed in
    record {
      adds =
          adds-line (writes_as (instruction-pieces (read_of (bus_on all_ram a.memory.now)) a.address a.double)
          (writes_then c.push_field.ensures (writes_then (writes_as l.text_is c.push_bytes.ensures) c.end_line.ensures)));
      words = l.words_are;
      under = l.next_is;
    }
