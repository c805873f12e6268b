-- By the addressing mode.
use Rattle.cpu.proofs.store.store.Goals as goal

pub returns-in-0 : goal.returns-in-0
returns-in-0 c = rw c.in-0.is c.store_direct.ensures

pub returns-in-7 : goal.returns-in-7
returns-in-7 c = rw c.in-7.is (c.store_immediate.ensures _)

pub returns-in_default : goal.returns-in_default
returns-in_default c = c.store_through.ensures _
