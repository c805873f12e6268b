-- The result of the two registers, written: MOVR by its entry of the table, the others by theirs.
use borrow.Author.Rules.{rules}
use lib.ListN.{get_or}
use Rattle.word.specs.Word.{wrap_add}
use mathlib.Core.Path.{◌≡◌, ◌∙◌}
use mathlib.Core.Bool.{false}
use native.Mathlib.Omega.{arith}
use lib.Dec.{eqb}
use Rattle.decode.proofs.RowLaws.{others-cost}
use Rattle.cpu.proofs.OperateLaws.{movr-leaves, others-leave}
use Rattle.std.proofs.lemmas.Bool.Decides.{nat_tests}
use Rattle.cpu.proofs.operate.register.Goals as goal

pub returns-in-2 : goal.returns-in-2
returns-in-2 c =
    let pre = c.requires in
    let on : get_or c.args.begun.registers 7 0 ≡ wrap_add c.args.begun.pc 1 = search rules in
    rw (c.writes_to.ensures, c.set_sz.ensures, c.movr_row.ensures, c.held-f.ensures, c.register.ensures, c.register-operand.ensures)
    (movr-leaves _ _ c.args.begun.status on _ _ _ c.in-2.is pre.2 pre.3)

pub returns-in_default : goal.returns-in_default
returns-in_default c =
    let pre = c.requires in
    let on : get_or c.args.begun.registers 7 0 ≡ wrap_add c.args.begun.pc 1 = search rules in
    let other : eqb c.args.row 2 ≡ false = grind (arith, nat_tests) in
    let entry = c.register_row.ensures ∙ others-cost c.args.row c.args.d other in
    rw (c.writes_to-in_default.ensures, c.operated.ensures, entry, c.held-f.ensures, c.register.ensures, c.register-operand.ensures)
    (others-leave _ _ c.args.begun.status on _ _ _ other pre.0 pre.1 pre.2 pre.3)
