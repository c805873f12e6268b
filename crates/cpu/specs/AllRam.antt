-- Document 02, [1]: "An all-RAM map (one 16-bit range over all addresses) equals today's behaviour on every input": of a step, and of every list of
-- steps. Today's is the same definition on lent words that are reached plainly. Memory above 65,536 words is among the inputs: 1 refuses it on both.
use Rattle.std.specs.Prelude.{◌≡◌, List, map, ℕ}
use Rattle.memory.specs.declared.map.Board.{Board}
use Rattle.memory.specs.Bus.{bus_of, on_board, bus_on}
use Rattle.memory.specs.Laws.{AllRam}
use Rattle.cpu.specs.declared.Lines.{Lines}
use Rattle.cpu.specs.Machine.{Machine}
use Rattle.cpu.specs.Step.{Outcome, step_of}
use Rattle.cpu.specs.Steps.{StepMade, steps_from}

-- what a step leaves, and a step that was made, with the same words on a board
abbrev pub outcome_on : Board → Outcome → Outcome
outcome_on b o = record { machine = o.machine; answer = o.answer; bus = on_board b o.bus }

abbrev pub step_on : Board → StepMade → StepMade
step_on b t = record { machine = t.machine; bus = on_board b t.bus; lines = t.lines; left = outcome_on b t.left }

pub record AllRamSteps : Type 0 where
  pub one :
      (b : Board) →
      AllRam b →
      (m : Machine) (words : List ℕ) (l : Lines) →
      step_of m (bus_on b words) l ≡ outcome_on b (step_of m (bus_of words) l)
  pub list :
      (b : Board) →
      AllRam b →
      (m : Machine) (words : List ℕ) (ls : List Lines) →
      steps_from m (bus_on b words) ls ≡ map (step_on b) (steps_from m (bus_of words) ls)
