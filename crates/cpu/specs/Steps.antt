-- The list of steps from a machine and a bus: run and demand 3 share it.
use Rattle.std.specs.Prelude.{ℕ, ◌+◌, ◌≡◌, false, List, [], ◌∷◌}
use Rattle.refusal.specs.Report.{is_refused}
use Rattle.cpu.specs.declared.Lines.{Lines}
use Rattle.cpu.specs.Answer.{cycles_of}
use Rattle.memory.specs.Bus.{Bus}
use Rattle.cpu.specs.Machine.{Machine}
use Rattle.cpu.specs.Step.{Outcome, step_of}

-- a step that was made: what it was given, and what it left
pub record StepMade : Type 0 where
  pub machine : Machine
  pub bus : Bus
  pub lines : Lines
  pub left : Outcome

-- "Each step gets the state and memory that the last one left": refused steps included, one step for each of the lines
unfoldable pub steps_from : Machine → Bus → List Lines → List StepMade
steps_from m b [] = []
steps_from m b (l ∷ ls) =
    record { machine = m; bus = b; lines = l; left = step_of m b l }
    ∷ steps_from (step_of m b l).machine (step_of m b l).bus ls

-- the sum of the cycles that the steps answered
unfoldable pub cycles_of_all : List StepMade → ℕ
cycles_of_all [] = 0
cycles_of_all (t ∷ ts) = cycles_of t.left.answer + cycles_of_all ts

-- the machine and the bus that the last step left, and those given where there is none
unfoldable pub last_machine : Machine → List StepMade → Machine
last_machine m [] = m
last_machine m (t ∷ ts) = last_machine t.left.machine ts

unfoldable pub last_bus : Bus → List StepMade → Bus
last_bus b [] = b
last_bus b (t ∷ ts) = last_bus t.left.bus ts

-- none of these steps is refused
unfoldable pub Unrefused : List StepMade → Type 0
Unrefused [] = Unit
Unrefused (t ∷ ts) = (is_refused t.left.answer ≡ false) × Unrefused ts
