-- Through R1 to R6.
use mathlib.Core.Path.{◌≡◌}
use borrow.Author.Rules.{rules}
use lib.ListN.{get_or}
use Rattle.word.specs.Word.{wrap_add}
use Rattle.cpu.proofs.StoreLaws.{through-stores}
use Rattle.cpu.proofs.store.store_through.Goals as goal

pub returns : goal.returns
returns c = λ read.
    let pre = c.requires in
    let on : get_or c.args.begun.registers 7 0 ≡ wrap_add c.args.begun.pc 1 = search rules in
    rw (c.goes_on.ensures, c.wrapping_add.ensures, c.store_pointer.ensures, c.store.ensures, c.register.ensures, c.register-address.ensures, c.store_row-row.ensures)
    (through-stores _ _ c.args.begun.status read _ on _ pre.3 _ pre.0 pre.1 pre.2)
