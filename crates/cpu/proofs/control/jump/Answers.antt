-- The jumps.
use Rattle.memory.specs.Near.{reads}
use Rattle.cpu.proofs.RowAnswers.{jump-leaves}
use Rattle.cpu.proofs.control.jump.Goals as goal

pub returns : goal.returns
returns c = λ r external.
    rw (c.goes_to.ensures, c.status_after.ensures, c.held.ensures, c.jump_target.ensures, c.wrapping_add-3.ensures, c.return_register.ensures, c.interrupts_after-i.ensures, c.jump_row-row.ensures)
    (jump-leaves c.args.status _ r (reads c.args.view.now) external _ _ (rw c.wrapping_add.ensures at c.read-second.ensures) (rw c.wrapping_add-2.ensures at c.read-third.ensures))
