-- The loop over the set's words keeps `Collecting`: a word's stretch adds its members, and a word that is 0 has none.
use mathlib.Core.Path.{ap, ◌∙◌}
use native.Mathlib.Omega.{arith}
use Rattle.meter.specs.Answer.{named_in}
use Rattle.meter.proofs.Loops.{collecting, Collected, collected, vacant, collecting-on, collecting-end}
use Rattle.meter.proofs.scan.members.Goals as goal
use Rattle.meter.proofs.scan.members.Goals.{then-starts-ne0, else-starts-ne0, Joined-starts-ne0}

pub loop-i-init : goal.loop-i-init
loop-i-init c = collecting c.args.region.ordered (rw (c.default-findings.ensures.0, c.default-findings.ensures.1))

-- the word of this turn
done : (c : Joined-starts-ne0) → Collected c.loop-i.invariant (named_in c.if-starts-ne0.findings)
done c =
    let k = c.loop-i.invariant in
    elim c.if-starts-ne0.branch [
      | then-starts-ne0 w ↦ ap named_in w.findings-is ∙ collected k (rw (w.max.ensures, w.min.ensures) at w.stretch-findings.ensures)
      | else-starts-ne0 w ↦ ap named_in w.findings-is ∙ vacant k w.if-starts-ne0.false c.args.region.ordered
    ]

pub loop-i-preserved : goal.loop-i-preserved
loop-i-preserved c = collecting-on c.loop-i.invariant (done (goal.at.loop-i-preserved c).Joined-starts-ne0) (omega arith)

pub returns-after-starts-ne0 : goal.returns-after-starts-ne0
returns-after-starts-ne0 c = collecting-end c.loop-i.invariant (done (goal.at.returns-after-starts-ne0 c).Joined-starts-ne0) (omega arith)
