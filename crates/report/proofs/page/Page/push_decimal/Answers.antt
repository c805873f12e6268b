-- One digit or two, as the definition chooses.
use borrow.Author.Tests.{lt-ltb, le-ltb}
use Rattle.report.specs.Text.{decimal_text}
use Rattle.report.proofs.PageLaws.{writes_then}
use Rattle.report.proofs.page.Page.push_decimal.Goals as goal

pub returns-then-number-lt10 : goal.returns-then-number-lt10
unfolding decimal_text
returns-then-number-lt10 c = rw (lt-ltb _ _ c.if-number-lt10.true) c.push.ensures

pub returns-else-number-lt10 : goal.returns-else-number-lt10
unfolding decimal_text
returns-else-number-lt10 c =
    rw (le-ltb _ _ c.if-number-lt10.false) (writes_then c.push-else-number-lt10.ensures c.push-else-number-lt10-2.ensures)
