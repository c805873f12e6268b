-- The walk's loop keeps `Walking` and is left with a start's answer; the scan around it keeps `Scanning`.
use mathlib.Core.Path.{ap, ◌∙◌}
use native.Mathlib.Omega.{arith}
use borrow.Author.Tests.{eq-eqb, ne_eqb}
use Rattle.meter.specs.Answer.{named_in}
use Rattle.meter.proofs.Loops.{walking, walking_on, walking-less, walking-ends, Scanned, scanned-start, scanned-pass, scanning-on, scanning-end}
use Rattle.meter.proofs.scan.stretch.Goals as goal
use Rattle.meter.proofs.scan.stretch.Goals.{then-starts-address-eq1+in-Break, else-starts-address-eq1, Joined-starts-address-eq1}

pub walk-init : goal.walk-init
walk-init c = walking c.start_at-place.ensures

pub turn_at-requires : goal.turn_at-requires
turn_at-requires c = c.walk.invariant.low

pub walk-smaller : goal.walk-smaller
walk-smaller c = walking-less c.walk.invariant c.turn_at.ensures c.in-Continue.is

pub walk-preserved : goal.walk-preserved
walk-preserved c = walking_on c.walk.invariant c.turn_at.ensures c.in-Continue.is

-- the address of this turn: a start, whose walk was left with its answer, or none
scanned : (c : Joined-starts-address-eq1) → Scanned c.scan.invariant (named_in c.if-starts-address-eq1.findings)
scanned c =
    let k = c.scan.invariant in
    elim c.if-starts-address-eq1.branch [
      | then-starts-address-eq1+in-Break w ↦
          scanned-start k (eq-eqb _ _ w.if-starts-address-eq1.true) (walking-ends w.walk.invariant w.turn_at.ensures w.in-Break.is)
          (ap named_in w.findings-is ∙ w.after-findings.ensures)
      | else-starts-address-eq1 w ↦ scanned-pass k (ne_eqb _ _ w.if-starts-address-eq1.false) (ap named_in w.findings-is)
    ]

pub scan-preserved : goal.scan-preserved
scan-preserved c = scanning-on c.scan.invariant (scanned (goal.at.scan-preserved c).Joined-starts-address-eq1) (omega arith)

pub returns-after-starts-address-eq1 : goal.returns-after-starts-address-eq1
returns-after-starts-address-eq1 c =
    rw (← c.at-view.ensures)
    (scanning-end c.scan.invariant (scanned (goal.at.returns-after-starts-address-eq1 c).Joined-starts-address-eq1) (omega arith))
