-- The turn is of what is decoded in steps, the opcode's instruction and then its form.
use Rattle.meter.proofs.Loops.{decoded-turn}
use Rattle.meter.proofs.walk.turn_at.Goals as goal

pub returns : goal.returns
returns c = decoded-turn _ _ _ c.turn.ensures c.read.ensures c.instruction-instr.ensures c.specified_at-decoded.ensures
