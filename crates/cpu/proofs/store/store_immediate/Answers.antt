-- To the word after the opcode.
use mathlib.Core.Path.{◌≡◌}
use borrow.Author.Rules.{rules}
use lib.ListN.{get_or}
use Rattle.word.specs.Word.{wrap_add}
use Rattle.cpu.proofs.StoreLaws.{immediate-stores}
use Rattle.cpu.proofs.store.store_immediate.Goals as goal

pub returns : goal.returns
returns c = λ read.
    let on : get_or c.args.begun.registers 7 0 ≡ wrap_add c.args.begun.pc 1 = search rules in
    rw (c.goes_on.ensures, c.store.ensures, c.register.ensures, c.wrapping_add-address.ensures, c.store_row-row.ensures)
    (immediate-stores _ _ c.args.begun.status read _ on _ c.requires)
