-- A step is let in, and then goes by its plan; or it is refused.
use mathlib.Core.Path.{sym, subst, ◌∙◌}
use Rattle.memory.specs.Near.{Near}
use Rattle.memory.proofs.NearLaws.{near-laws}
use Rattle.cpu.specs.Machine.{machine_of}
use Rattle.cpu.specs.Step.{refused_step}
use Rattle.cpu.proofs.ActionLaws.{step-admitted, step-barred}
use Rattle.cpu.proofs.LocalLaws.{near_step}
use Rattle.cpu.proofs.step.Goals as goal

pub returns-in-Err : goal.returns-in-Err
unfolding refused_step
returns-in-Err c =
    let a = c.args in
    sym (step-barred _ _ a.lines (sym c.admit.ensures ∙ c.in-Err.is))

pub returns : goal.returns
returns c =
    let a = c.args in
    c.admitted_step-left.ensures.left
    ∙ near_step a.board c.no_range.result c.admitted_step-left.result.near (machine_of a.state) a.lines (subst (Near a.board) (sym c.no_range.ensures) (near-laws.none a.board)) c.admitted_step-left.ensures.near a.mem.now
    ∙ sym (step-admitted _ _ a.lines (sym c.admit.ensures ∙ c.in_default.is))
