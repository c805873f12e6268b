-- At the address in the next word.
use mathlib.Core.Path.{ap, ◌∙◌}
use Rattle.word.specs.Word.{wrap_add}
use Rattle.decode.specs.declared.rows.Row.{Row}
use Rattle.cpu.proofs.StoreLaws.{direct-stores}
use Rattle.cpu.proofs.store.store_direct.Goals as goal

pub returns : goal.returns
returns c =
    rw (c.goes_to.ensures, c.store.ensures, c.operand.ensures, c.read-address.ensures, c.wrapping_add.ensures, c.store_row-row.ensures)
    (direct-stores _ _ c.args.begun.status _ _ _ _ (c.wrapping_add-next.ensures ∙ ap (λ (row : Row). wrap_add c.args.begun.pc row.words) c.store_row-row.ensures))
