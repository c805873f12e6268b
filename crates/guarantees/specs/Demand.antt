-- Demand 3: what the meter's answer says of every list of steps. Above each field stands the demand's sentence; document 01's
-- second paragraph under "Wait meter" fixes the premise and the sums.
use Rattle.std.specs.Prelude.{ℕ, ◌-◌, ◌≤◌, ◌≡◌, true, false, cond, List, [], ◌∷◌, length}
use Rattle.refusal.specs.Report.{answered}
use Rattle.memory.specs.Bus.{Bus, read_of}
use Rattle.cpu.specs.declared.Lines.{Lines}
use Rattle.cpu.specs.Machine.{Machine, register}
use Rattle.cpu.specs.Steps.{StepMade, steps_from, cycles_of_all, Unrefused}
use Rattle.meter.specs.Answer.{wait, over}
use Rattle.meter.specs.Walk.{limit_of}
use Rattle.meter.specs.Meter.{wait_of}
use Rattle.meter.specs.Reads.{reads_from}
use Rattle.meter.specs.Laws.{WalkEquation, ReadsEquation, AnswersTheWalk, NamesItsStarts, NamesItsMembers}
use Rattle.guarantees.specs.Grants.{grants, before_grant, last_untaken}
use Rattle.guarantees.specs.Unstored.{Unstored}

-- "Take any machine that is not halted, has its double-byte mark clear and stands between instructions where a request can't yet be
-- heard": "the double-byte mark is D, and a request can't yet be heard while the machine is not ready"
pub record Stands (m : Machine) : Type 0 where
  pub running : m.running.halted ≡ false
  pub clear : m.switches.d ≡ false
  pub unready : m.running.ready ≡ false

-- "with the bus request low in each"
abbrev pub RequestsLow : List Lines → Type 0
RequestsLow [] = Unit
RequestsLow (l ∷ ls) = (l.busrq ≡ false) × RequestsLow ls

-- All that is asked of a machine, a bus and the lines of its steps, for a limit. There is no premise on INTRM, on the external inputs, on the
-- registers or on the memory's words.
pub record Premises (m : Machine) (b : Bus) (ls : List Lines) (limit : ℕ) : Type 0 where
  pub stands : Stands m
  pub low : RequestsLow ls
  -- "The one further premise is that no store changes a word that the walk reads later."
  pub unstored : Unstored (reads_from (read_of b) (limit_of limit) (register 7 m)) (steps_from m b ls)

-- "If the meter answered W": t is the list of steps
pub record Waits (t : List StepMade) (w : ℕ) : Type 0 where
  -- "the first grant comes after exactly W cycles, or W less 2 where the last instruction is a branch, other than NOPP, that is not taken"
  pub exact : grants t ≡ true → cycles_of_all (before_grant t) ≡ cond (last_untaken (before_grant t)) (w - 2) w
  -- "No step before it is refused"
  pub unrefused : grants t ≡ true → Unrefused (before_grant t)
  -- "every list of W steps reaches it"
  pub reached : w ≤ length t → grants t ≡ true
  -- "A list that ends before the grant has no refused step either, if the answer was Wait."
  pub ended : grants t ≡ false → Unrefused t

-- what the meter's answer foretells of a list of steps: "The meter is given the machine's R7 and the memory that the first step gets."
pub record Foretells (m : Machine) (b : Bus) (ls : List Lines) (limit : ℕ) : Type 0 where
  -- "If the meter answered W"
  pub waits : (w : ℕ) → wait_of b (register 7 m) limit ≡ answered (wait w) → Waits (steps_from m b ls) w
  -- "If the meter answered that the wait is over limit L, no grant comes before cycle L less 1."
  -- "L is the limit walked with, also where 0 was given."
  pub exceeds :
      wait_of b (register 7 m) limit ≡ answered over →
      grants (steps_from m b ls) ≡ true →
      limit_of limit - 1 ≤ cycles_of_all (before_grant (steps_from m b ls))

-- Demand 3, a single claim
pub record Demand3 : Type 0 where
  -- document 01's walk by its own rules, and the words that it reads
  pub walks : WalkEquation
  pub reads : ReadsEquation
  -- "Ask the meter about its address, with any limit: unless it refuses, it answers exactly what document 01's walk answers there."
  pub answers : AnswersTheWalk
  -- "Then make any list of steps from it, refused ones included, with the bus request low in each. Each step gets the state and memory
  -- that the last one left, and nobody else writes them. .. This holds whatever INTRM and the external inputs do."
  pub steps : (m : Machine) (b : Bus) (ls : List Lines) (limit : ℕ) → Premises m b ls limit → Foretells m b ls limit
  -- "For a region, unless the call is refused, the longest wait that this walk answers, if any, and its lowest start are named"
  pub regions : NamesItsStarts
  -- document 02, [4]: "Demand 3 for this mode ranges over members only."
  pub members : NamesItsMembers
