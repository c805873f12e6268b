-- R6 is one on and R7 the interrupt address.
use mathlib.Core.Path.{ap, ◌∙◌}
use native.Mathlib.Omega.{arith}
use borrow.Author.Rules.{rules}
use Rattle.std.proofs.lemmas.List.{length-set}
use Rattle.cpu.specs.Machine.{with_register}
use Rattle.cpu.proofs.RegisterLaws.{set-is}
use Rattle.cpu.proofs.requests.interrupted_registers.Goals as goal

pub returns : goal.returns
returns c =
    let r = c.args.registers in
    set-is _ 7 0x1004 (search (rules, length-set)) (omega arith)
    ∙ rw c.wrapping_add.ensures (ap (with_register 7 0x1004) (set-is r 6 _ (search rules) (omega arith)))
