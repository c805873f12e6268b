-- The word, the refusal's number and the line's end.
use Rattle.report.specs.Program.{refused_line}
use Rattle.report.proofs.PageLaws.{writes_then}
use Rattle.report.proofs.page.Page.push_refusal.Goals as goal

pub returns : goal.returns
unfolding refused_line
returns c =
    rw (← c.number.ensures)
    (writes_then (writes_then c.push_bytes.ensures c.push_decimal.ensures) c.end_line.ensures)
