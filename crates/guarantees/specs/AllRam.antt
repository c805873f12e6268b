-- Document 02, [1]: "An all-RAM map (one 16-bit range over all addresses) equals today's behaviour on every input": of a step, a list of steps, a run, the
-- disassembler and the wait meter, on a board that lists just that range, whatever stands in its unlisted entries. Each is the same definition at both
-- ends: on the board, and on lent words that are reached plainly, as document 01 has it.
use Rattle.cpu.specs.AllRam.{AllRamSteps}
use Rattle.run.specs.AllRam.{AllRamRuns}
use Rattle.meter.specs.AllRam.{AllRamMeter}
use Rattle.listing.specs.AllRam.{AllRamLists}

pub record AllRamIsTheBase : Type 0 where
  pub steps : AllRamSteps
  pub runs : AllRamRuns
  pub meters : AllRamMeter
  pub lists : AllRamLists
