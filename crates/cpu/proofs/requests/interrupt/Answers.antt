-- Interrupt entry: R7 is pushed.
use mathlib.Core.Path.{refl}
use Rattle.cpu.specs.Step.{interrupted}
use Rattle.cpu.proofs.requests.interrupt.Goals as goal

pub returns : goal.returns
unfolding interrupted
returns c = rw (c.finished.ensures, c.interrupted_status.ensures, c.interrupted_registers.ensures, c.store.ensures) record { left = refl; near = refl }
