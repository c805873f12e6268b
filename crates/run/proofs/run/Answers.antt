-- `run`: let in or refused, and then the loop's end.
use mathlib.Core.Path.{◌≡◌, sym, ◌∙◌}
use native.Mathlib.Omega.{arith}
use Rattle.std.proofs.Common.{Ok}
use Rattle.memory.specs.Bus.{bus_on}
use Rattle.cpu.specs.Machine.{machine_of}
use Rattle.run.specs.Run.{refused_run, finish}
use Rattle.run.specs.Inner.Admission.{run_admission}
use Rattle.run.proofs.RunLaws.{run-admits, admits}
use Rattle.run.proofs.LoopLaws.{loop-is-run}
use Rattle.run.proofs.run.Goals as goal

pub returns-in-Err : goal.returns-in-Err
unfolding refused_run
returns-in-Err c = rw (run-admits, ← c.admit.ensures, c.in-Err.is)

pub make_steps-steps-requires : goal.make_steps-steps-requires
make_steps-steps-requires c =
    let a = c.args in
    (admits (machine_of a.state) (bus_on a.board a.mem.now) a.budget (sym c.admit.ensures ∙ c.in_default.is)).low

pub overflow_cast-ended : goal.overflow_cast-ended
overflow_cast-ended c =
    let a = c.args in
    omega (arith, c.make_steps-steps.ensures.below, (admits (machine_of a.state) (bus_on a.board a.mem.now) a.budget (sym c.admit.ensures ∙ c.in_default.is)).low)

pub returns : goal.returns
unfolding finish
returns c =
    let a = c.args in
    let e : run_admission (machine_of a.state) (bus_on a.board a.mem.now) a.budget ≡ Ok tt = sym c.admit.ensures ∙ c.in_default.is in
    let k = admits _ _ _ e in
    rw (
      run-admits,
      e,
      loop-is-run a.lines a.budget (machine_of a.state) (bus_on a.board a.mem.now) k.admitted,
      ← c.make_steps-steps.ensures.ends,
      c.ended_by.ensures,
    )
