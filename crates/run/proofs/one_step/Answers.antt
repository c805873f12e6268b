-- `one_step`: admission, then the loop with a budget of 1.
use mathlib.Core.Path.{ap, sym, ◌∙◌}
use Rattle.memory.specs.Bus.{bus_on}
use Rattle.cpu.specs.Machine.{machine_of}
use Rattle.cpu.specs.Step.{refused_step}
use Rattle.cpu.proofs.ActionLaws.{step-barred}
use Rattle.run.specs.Inner.Loop.{LoopEnd}
use Rattle.run.proofs.LoopLaws.{loop-is-step}
use Rattle.run.proofs.one_step.Goals as goal

pub returns-in-Err : goal.returns-in-Err
unfolding refused_step
returns-in-Err c =
    let a = c.args in
    sym (step-barred (machine_of a.state) (bus_on a.board a.mem.now) a.lines (sym c.admit.ensures ∙ c.in-Err.is))

pub returns : goal.returns
returns c =
    let a = c.args in
    ap (λ (e : LoopEnd). e.left) c.make_steps-stopped.ensures.ends
    ∙ loop-is-step (machine_of a.state) (bus_on a.board a.mem.now) a.lines (sym c.admit.ensures ∙ c.in_default.is)
