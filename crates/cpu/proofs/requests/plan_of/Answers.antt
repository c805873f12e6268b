-- `plan_of`: quiet lines first, and then document 01's order.
use mathlib.Core.Path.{sym}
use mathlib.Core.Bool.{true, false}
use Rattle.cpu.proofs.PlanLaws.{plan-halted, plan-quiet, plan-grants, plan-last}
use Rattle.cpu.proofs.requests.plan_of.Goals as goal

pub returns-then-status : goal.returns-then-status
returns-then-status c = sym (plan-halted _ _ c.if-status.true)

pub returns-then-quiet : goal.returns-then-quiet
returns-then-quiet c = sym (plan-quiet _ _ c.if-status.false c.requires c.if-quiet.true)

pub returns-then-not-lines : goal.returns-then-not-lines
returns-then-not-lines c =
    sym (plan-grants _ _ c.if-status.false c.if-quiet.false c.if-not-lines.true)

pub returns-then-status-2 : goal.returns-then-status-2
returns-then-status-2 c =
    sym (plan-last _ _ c.if-status.false c.if-quiet.false c.if-not-lines.false true c.if-status-2.true)

pub returns-else-status-2 : goal.returns-else-status-2
returns-else-status-2 c =
    sym (plan-last _ _ c.if-status.false c.if-quiet.false c.if-not-lines.false false c.if-status-2.false)
