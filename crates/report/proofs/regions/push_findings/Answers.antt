-- The pieces of the line, one behind the other.
use Rattle.meter.specs.Answer.{named_in}
use Rattle.report.proofs.LineLaws.{named-pieces}
use Rattle.report.proofs.PageLaws.{writes_then, writes_as}
use Rattle.report.proofs.regions.push_findings.Goals as goal

pub returns : goal.returns
returns c =
    let a = c.args in
    writes_as (named-pieces a.first a.last (named_in a.findings))
    (writes_then c.push_field.ensures
    (writes_then c.push_field-2.ensures
    (writes_then c.push_wait.ensures
    (writes_then c.push.ensures (writes_then c.push_over.ensures c.end_line.ensures)))))
