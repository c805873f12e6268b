-- The meter refuses nothing here, and what it finds is the region's line.
use native.Mathlib.Omega.{arith}
use lib.Dec.{lit≤}
use Rattle.report.specs.Regions.{region_line}
use Rattle.report.proofs.CallLaws.{metered-named, surely-metered}
use Rattle.report.proofs.PageLaws.{adds-line}
use Rattle.report.proofs.regions.push_line.Goals as goal

pub unwrap-findings-requires : goal.unwrap-findings-requires
unwrap-findings-requires c = surely-metered c.all_ram.ensures _ _ _ _ _ c.region.ensures (omega arith) (omega arith) (lit≤ tt)

pub returns : goal.returns
unfolding region_line
returns c =
    rw (← metered-named c.all_ram.ensures _ _ _ _ _ c.region.ensures (omega arith) (omega arith) (lit≤ tt) c.unwrap-findings.ensures)
    (adds-line c.push_findings.ensures)
