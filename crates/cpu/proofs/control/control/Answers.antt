-- SDBD to SETC, by d.
use Rattle.cpu.proofs.RowAnswers.{control-leaves}
use Rattle.cpu.proofs.control.control.Goals as goal

pub returns : goal.returns
returns c = λ r read external.
    rw (c.goes_on.ensures, c.status_after.ensures, c.switched-2.ensures, c.held.ensures, c.switched.ensures, c.control_row-row.ensures)
    (control-leaves c.args.status _ r read external _ c.requires.0)
