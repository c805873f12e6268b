-- One of two forms.
use Rattle.report.proofs.PageLaws.{writes_then}
use Rattle.report.proofs.regions.push_wait.Goals as goal

pub returns-in-None : goal.returns-in-None
returns-in-None c = rw c.in-None.is c.push_bytes.ensures

pub returns-in-Some : goal.returns-in-Some
returns-in-Some c =
    rw c.in-Some.is
    (writes_then c.push_bytes-in-Some.ensures (writes_then c.push_hex.ensures (writes_then c.push_bytes-in-Some-2.ensures c.push_hex-in-Some.ensures)))
