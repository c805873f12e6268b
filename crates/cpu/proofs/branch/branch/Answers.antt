-- Taken, or not.
use mathlib.Core.Path.{sym, ◌∙◌}
use Rattle.memory.specs.Near.{reads}
use Rattle.cpu.proofs.RowAnswers.{taken-leaves, not-taken-leaves}
use Rattle.cpu.proofs.branch.branch.Goals as goal

pub returns-then-is_taken : goal.returns-then-is_taken
returns-then-is_taken c = λ r.
    rw (c.goes_to.ensures, c.branch_target.ensures, c.branch_row.ensures, c.read-displacement.ensures, c.wrapping_add.ensures)
    (taken-leaves c.args.status _ r (reads c.args.view.now) _ _ (sym c.is_taken.ensures ∙ c.if-is_taken.true))

pub returns-else-is_taken : goal.returns-else-is_taken
returns-else-is_taken c = λ r.
    rw (c.goes_on.ensures, c.branch_row-else-is_taken.ensures)
    (not-taken-leaves c.args.status _ r (reads c.args.view.now) _ _ (sym c.is_taken.ensures ∙ c.if-is_taken.false))
