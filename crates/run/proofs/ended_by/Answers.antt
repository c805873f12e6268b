-- `ended_by`: halted, then unspecified, then budget.
use mathlib.Core.Path.{sym, ◌∙◌}
use Rattle.memory.specs.Bus.{bus_on}
use Rattle.cpu.specs.Machine.{machine_of}
use Rattle.run.proofs.RunLaws.{ends-halted, ends-unspecified, ends-budget}
use Rattle.run.proofs.ended_by.Goals as goal

pub returns-then-state : goal.returns-then-state
returns-then-state c = let a = c.args in sym (ends-halted (machine_of a.state) (bus_on a.board a.mem.now) a.lines c.if-state.true)

pub returns-then-is_unspecified_next : goal.returns-then-is_unspecified_next
returns-then-is_unspecified_next c =
    let a = c.args in
    sym (ends-unspecified (machine_of a.state) (bus_on a.board a.mem.now) a.lines c.if-state.false (sym c.is_unspecified_next.ensures ∙ c.if-is_unspecified_next.true))

pub returns-else-is_unspecified_next : goal.returns-else-is_unspecified_next
returns-else-is_unspecified_next c =
    let a = c.args in
    sym (ends-budget (machine_of a.state) (bus_on a.board a.mem.now) a.lines c.if-state.false (sym c.is_unspecified_next.ensures ∙ c.if-is_unspecified_next.false))
