-- A step by its plan: each return is the definition's own case.
use mathlib.Core.Path.{sym, ◌∙◌}
use Rattle.cpu.specs.declared.Plan.TheVariants.{Halting, Granting, Interrupting, Executing}
use Rattle.cpu.specs.Step.{refused_step, granted}
use Rattle.cpu.proofs.CodeLaws.{noted-quiet, step-planned, near-planned, executing-runs}
use Rattle.cpu.proofs.admitted_step.Goals as goal

pub plan_of-plan-requires : goal.plan_of-plan-requires
plan_of-plan-requires c = let a = c.args in noted-quiet a.state.status c.noted-status.result a.lines c.noted-status.ensures

pub instruction-requires : goal.instruction-requires
instruction-requires c =
    executing-runs _ _ (sym c.plan_of-plan.ensures ∙ c.in-Executing.is)

pub returns-in-Halting : goal.returns-in-Halting
unfolding refused_step
returns-in-Halting c =
    let plan = sym c.plan_of-plan.ensures ∙ c.in-Halting.is in
    let n = c.noted-status.ensures in
    rw c.finished.ensures record { left = sym (step-planned _ _ _ n _ _ _ Halting plan); near = sym (near-planned _ _ _ n _ _ _ Halting plan) }

pub returns-in-Granting : goal.returns-in-Granting
unfolding granted
returns-in-Granting c =
    let plan = sym c.plan_of-plan.ensures ∙ c.in-Granting.is in
    let n = c.noted-status.ensures in
    rw c.finished-in-Granting.ensures record { left = sym (step-planned _ _ _ n _ _ _ Granting plan); near = sym (near-planned _ _ _ n _ _ _ Granting plan) }

pub returns-in-Interrupting : goal.returns-in-Interrupting
returns-in-Interrupting c =
    let plan = sym c.plan_of-plan.ensures ∙ c.in-Interrupting.is in
    let n = c.noted-status.ensures in record { left = c.interrupt.ensures.left ∙ sym (step-planned _ _ _ n _ _ _ Interrupting plan); near = c.interrupt.ensures.near ∙ sym (near-planned _ _ _ n _ _ _ Interrupting plan) }

pub returns-in-Executing : goal.returns-in-Executing
returns-in-Executing c =
    let plan = sym c.plan_of-plan.ensures ∙ c.in-Executing.is in
    let n = c.noted-status.ensures in record { left = c.instruction.ensures.left ∙ sym (step-planned _ _ _ n _ _ _ Executing plan); near = c.instruction.ensures.near ∙ sym (near-planned _ _ _ n _ _ _ Executing plan) }
