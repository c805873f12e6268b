-- What is printed at the front of the room: the text of what was read, or why it is refused.
use mathlib.Core.Path.{refl, ap}
use native.Mathlib.Omega.{arith}
use Rattle.refusal.specs.Report.{Report, is_refused}
use Rattle.memory.specs.Map.{all_ram}
use Rattle.memory.specs.Bus.{bus_on}
use Rattle.report.specs.Reading.{ReadImage, zero_words}
use Rattle.report.specs.Program.{reading_text, report_text}
use Rattle.report.proofs.PageLaws.{puts-as, prints-text, prints-within}
use Rattle.report.proofs.print.Goals as goal

pub read-requires : goal.read-requires
unfolding zero_words
read-requires c = refl

pub push_report-requires : goal.push_report-requires
push_report-requires c = (c.in-Ok.ensures.ready, record { at = refl; lines = refl; size = omega arith })

pub returns-in-Ok : goal.returns-in-Ok
unfolding report_text
returns-in-Ok c =
    let a = c.args in
    let e = c.in-Ok.ensures.reading in
    let p = puts-as (ap (λ (r : Report ReadImage). reading_text (bus_on all_ram) a.program r) e) c.push_report.ensures.puts in
    let r = ap (λ (r : Report ReadImage). is_refused r) e in
    record { room_after = prints-text a.program a.input.now p r; within = prints-within a.program a.input.now p r }

pub returns-in-Err : goal.returns-in-Err
unfolding report_text
returns-in-Err c =
    let a = c.args in
    let e = c.in-Err.ensures.reading in
    let p = puts-as (ap (λ (r : Report ReadImage). reading_text (bus_on all_ram) a.program r) e) c.push_refusal.ensures.puts in
    let r = ap (λ (r : Report ReadImage). is_refused r) e in
    record { room_after = prints-text a.program a.input.now p r; within = prints-within a.program a.input.now p r }
