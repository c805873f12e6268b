use Prim.Native.Nat.{◌-◌}
use lib.ListN.{length}
use Rattle.cpu.specs.Step.{outcome_near}
use Rattle.run.proofs.LoopLaws.{Looping}
use Rattle.run.proofs.make_steps.Given as goal

abbrev pub invariant-loop-cycles : goal.invariant-loop-cycles
invariant-loop-cycles l =
    Looping l.lines l.budget l.board (outcome_near l.board l.initial.last l.initial.mem) (length l.initial.mem) l.last l.mem l.steps l.cycles

abbrev pub decreases-loop-cycles : goal.decreases-loop-cycles
decreases-loop-cycles l = l.budget - l.cycles
