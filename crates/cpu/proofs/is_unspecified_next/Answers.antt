-- The look at the next step goes by its plan.
use Prim.Native.Nat.{ℕ}
use mathlib.Core.Path.{ap, sym, ◌∙◌}
use lib.ListN.{get_or}
use Rattle.decode.specs.Decode.{decode_at}
use Rattle.cpu.specs.declared.Plan.TheVariants.{Halting, Granting, Interrupting, Executing}
use Rattle.cpu.specs.Step.{refused_step, granted, interrupted}
use Rattle.cpu.specs.Inner.Parts.{is_unspecified_form}
use Rattle.cpu.proofs.CodeLaws.{noted-quiet, looked-planned, looks-ahead}
use Rattle.cpu.proofs.is_unspecified_next.Goals as goal

pub plan_of-plan-requires : goal.plan_of-plan-requires
plan_of-plan-requires c = let a = c.args in noted-quiet a.state.status c.noted-status.result a.lines c.noted-status.ensures

pub returns-in-Halting : goal.returns-in-Halting
unfolding refused_step
returns-in-Halting c =
    sym (looked-planned _ _ _ c.noted-status.ensures _ _ Halting (sym c.plan_of-plan.ensures ∙ c.in-Halting.is))

pub returns-in-Granting : goal.returns-in-Granting
unfolding granted
returns-in-Granting c =
    sym (looked-planned _ _ _ c.noted-status.ensures _ _ Granting (sym c.plan_of-plan.ensures ∙ c.in-Granting.is))

pub returns-in-Interrupting : goal.returns-in-Interrupting
unfolding interrupted
returns-in-Interrupting c =
    sym (looked-planned _ _ _ c.noted-status.ensures _ _ Interrupting (sym c.plan_of-plan.ensures ∙ c.in-Interrupting.is))

pub returns-in-Executing : goal.returns-in-Executing
returns-in-Executing c =
    let a = c.args in
    c.is_unspecified_at.ensures
    ∙ ap (λ (read : ℕ → ℕ). is_unspecified_form (decode_at read (get_or a.state.registers 7 0) c.noted-status.result.d)) c.at.ensures
    ∙ looks-ahead a.state.registers c.noted-status.result _ _ a.lines
    ∙ sym (looked-planned _ _ _ c.noted-status.ensures _ _ Executing (sym c.plan_of-plan.ensures ∙ c.in-Executing.is))
