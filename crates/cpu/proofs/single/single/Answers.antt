-- The rows of one register, by s.
use mathlib.Core.Path.{◌≡◌}
use borrow.Author.Rules.{rules}
use lib.ListN.{get_or}
use Rattle.word.specs.Word.{wrap_add}
use Rattle.cpu.proofs.RowAnswers.{single-leaves}
use Rattle.cpu.proofs.single.single.Goals as goal

pub returns : goal.returns
returns c = λ read external.
    let given = c.requires in
    let on : get_or c.args.begun.registers 7 0 ≡ wrap_add c.args.begun.pc 1 = search rules in
    rw (c.writes_to.ensures, c.single_result.ensures, c.register_row.ensures, c.held-f.ensures, c.register.ensures)
    (single-leaves c.args.begun.status _ _ read external _ _ on given.0 given.1 given.2 given.3)
