-- The shifts, by s.
use Rattle.cpu.proofs.RowAnswers.{shift-leaves}
use Rattle.cpu.proofs.single.shifted.Goals as goal

pub returns : goal.returns
returns c = λ read external.
    rw (c.writes_to.ensures, c.shifted.ensures, c.shift_row.ensures, c.held-f.ensures, c.register.ensures)
    (shift-leaves c.args.begun.status _ _ read external _ _ c.requires.0)
