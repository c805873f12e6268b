-- The fetch of each addressing mode.
use mathlib.Core.Path.{sym}
use native.Mathlib.Omega.{arith}
use Rattle.cpu.specs.Inner.Operate.{fetched_of}
use Rattle.cpu.proofs.OperateLaws.{fetched-rising, fetched-through}
use Rattle.std.proofs.lemmas.Bool.Decides.{nat_tests}
use Rattle.cpu.proofs.operate.fetch.Goals as goal

pub returns-in-0 : goal.returns-in-0
unfolding fetched_of
returns-in-0 c = rw (c.direct.ensures, c.in-0.is)

pub returns-in-6 : goal.returns-in-6
unfolding fetched_of
returns-in-6 c = rw (c.stack.ensures, c.in-6.is)

pub returns-in-7 : goal.returns-in-7
unfolding fetched_of
returns-in-7 c = rw (c.immediate.ensures, c.in-7.is)

pub returns-in-4 : goal.returns-in-4
returns-in-4 c = rw (c.rising.ensures, c.register.ensures) (sym (fetched-rising _ _ _ _ _ (omega arith) (omega arith) (omega arith)))

pub returns-in_default : goal.returns-in_default
returns-in_default c =
    rw (c.through.ensures, c.register-in_default.ensures)
    (sym (fetched-through _ _ _ _ _ (omega arith) (grind (arith, nat_tests)) (grind (arith, nat_tests))))
