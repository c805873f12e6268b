-- The number, then the space.
use Rattle.report.proofs.PageLaws.{writes_then}
use Rattle.report.proofs.page.Page.push_field.Goals as goal

pub returns : goal.returns
returns c = writes_then c.push_hex.ensures c.push.ensures
