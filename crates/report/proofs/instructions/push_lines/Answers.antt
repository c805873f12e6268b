-- The loop over the instructions of a record, by the record `Listed`.
use native.Mathlib.Omega.{arith}
use Rattle.memory.specs.Map.{all_ram}
use Rattle.memory.specs.Bus.{bus_on, read_of}
use Rattle.report.proofs.LineLaws.{words-some}
use Rattle.report.proofs.WalkLaws.{listed-none, listed-on, listed-end}
use Rattle.report.proofs.instructions.push_lines.Goals as goal

pub loop-next-init : goal.loop-next-init
loop-next-init c = listed-none _ _ _ _ c.requires.1

pub loop-next-smaller : goal.loop-next-smaller
loop-next-smaller c =
    omega (arith, c.push_line-line.ensures.words, words-some (read_of (bus_on all_ram c.args.memory.now)) c.loop-next.next c.loop-next.double)

pub loop-next-preserved : goal.loop-next-preserved
loop-next-preserved c = listed-on c.loop-next.invariant c.loop-next-test.true c.push_line-line.ensures

pub returns : goal.returns
returns c = listed-end c.loop-next.invariant c.loop-next-test.false
