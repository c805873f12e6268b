-- The name, the number and the line's end.
use Rattle.report.proofs.PageLaws.{writes_then}
use Rattle.report.proofs.page.Page.push_numbered.Goals as goal

pub returns : goal.returns
returns c =
    writes_then (writes_then c.push_bytes.ensures c.push_hex.ensures) c.end_line.ensures
