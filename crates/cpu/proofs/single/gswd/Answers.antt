-- The status word, and no flag.
use Rattle.cpu.proofs.RowAnswers.{gswd-leaves}
use Rattle.cpu.proofs.single.gswd.Goals as goal

pub returns : goal.returns
returns c = λ r read external.
    rw (c.writes_to.ensures, c.held-2.ensures, c.register_row.ensures, c.status_word-word.ensures, c.held.ensures)
    (gswd-leaves c.args.status _ r read external _)
