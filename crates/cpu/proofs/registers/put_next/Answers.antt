-- `put_next`: the last of eight is put.
use native.Mathlib.Omega.{arith}
use borrow.Author.Rules.{rules}
use Rattle.cpu.proofs.RegisterLaws.{set-is}
use Rattle.cpu.proofs.registers.put_next.Goals as goal

pub returns : goal.returns
returns c = set-is c.args.registers 7 c.args.next (search rules) (omega arith)
