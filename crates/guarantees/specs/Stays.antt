-- Document 02, [4], held against document 01's step: "over unchanged memory" no machine leaves the reached set. What an instruction leads to, by the rows'
-- table and its words, is where a step that makes it goes on, unless the path ends there.
use Rattle.std.specs.Prelude.{◌≡◌, true, false, List, [], ◌∷◌, ℕ}
use Rattle.memory.specs.Bus.{Bus, read_of}
use Rattle.decode.specs.declared.Instr.{Instr}
use Rattle.decode.specs.Decode.{writes_r7}
use Rattle.decode.specs.Rows.{row_of}
use Rattle.cpu.specs.declared.Lines.{Lines}
use Rattle.cpu.specs.Machine.{Machine, register}
use Rattle.cpu.specs.Step.{step_of}
use Rattle.cpu.specs.Steps.{StepMade, steps_from}
use Rattle.cpu.specs.Laws.{Executes}
use Rattle.reach.specs.declared.Node.{Node}
use Rattle.reach.specs.Ways.{node_at, successors}
use Rattle.reach.specs.Paths.{◌∈◌, Reached}
use Rattle.guarantees.specs.Instances.{machine}
use Rattle.guarantees.specs.Reached.{branch_and_data}

-- where a machine stands
abbrev pub node_of : Machine → Node
node_of m = node_at (register 7 m) m.switches.d

-- a step that makes an instruction, one that neither halts nor writes its result to R7
pub record StepsOn (m : Machine) (b : Bus) (l : Lines) (i : Instr) : Type 0 where
  pub executes : Executes m b l i
  pub running : (row_of i m.switches.d).halts ≡ false
  pub in_path : writes_r7 i ≡ false

-- a list of such steps, each of which leaves the memory as it was
unfoldable pub OnPath : List StepMade → Type 0
OnPath [] = Unit
OnPath (x ∷ t) =
    ((i : Instr) × StepsOn x.machine x.bus x.lines i) × (x.left.bus ≡ x.bus) × OnPath t

-- .. and each of which leaves its machine where a path leads
unfoldable pub AllReached : (ℕ → ℕ) → List ℕ → List StepMade → Type 0
AllReached read entries [] = Unit
AllReached read entries (x ∷ t) =
    Reached (successors read) entries (node_of x.left.machine) × AllReached read entries t

pub record StaysReached : Type 0 where
  -- a step goes on at a node to which its instruction leads, whatever the registers, the flags and the lines are
  pub leads : (m : Machine) (b : Bus) (l : Lines) (i : Instr) → StepsOn m b l i → node_of (step_of m b l).machine ∈ successors (read_of b) (node_of m)
  -- so no list of steps from a reached node leaves the reached nodes
  pub stays :
      (m : Machine) (b : Bus) (ls : List Lines) (entries : List ℕ) →
      Reached (successors (read_of b)) entries (node_of m) →
      OnPath (steps_from m b ls) →
      AllReached (read_of b) entries (steps_from m b ls)

-- the premises are met: B $0000 of `Reached`, twice, with the bus not requested, INTRM low, I clear, and every external input 1
abbrev pub unrequested : Lines
unrequested = record { intrm = false; busrq = true; external = 0xFFFF }

pub record StaysInstance : Type 0 where
  pub on_path : OnPath (steps_from (machine 0 0 false) branch_and_data (unrequested ∷ unrequested ∷ []))
