-- What holds of every step, on every machine, bus and lines unless premises are named.
use Rattle.std.specs.Prelude.{ℕ, ◌%◌, ◌<◌, ◌≤◌, ◌≡◌, Bool, true, false, not, cond, List, [], ◌∷◌, leb, ltb, length, Some, Ok}
use Rattle.refusal.specs.Report.{refused, answered}
use Rattle.word.specs.Word.{wrap_add, signed}
use Rattle.word.specs.ThroughCarry.{CarryRow, rlc_row, row_number, form_of, Gives}
use Rattle.memory.specs.declared.map.Range.{Range}
use Rattle.memory.specs.declared.map.Board.{Board}
use Rattle.memory.specs.Memory.{peek_of}
use Rattle.memory.specs.Bus.{Bus, bus_of, bus_on, read_of, put, admission_of}
use Rattle.memory.specs.Near.{in_front, Near}
use Rattle.memory.specs.Laws.{AgreeAt, BusWords, takes_store, OnBoard}
use Rattle.decode.specs.declared.Instr.{Instr}
use Rattle.decode.specs.declared.Instr.TheVariants.{Shift, Register, Branch, Read}
use Rattle.decode.specs.declared.rows.Row.{Row}
use Rattle.decode.specs.Fields.{mode_of, branch_target}
use Rattle.decode.specs.Rows.{row_of}
use Rattle.decode.specs.Reads.{decoding_reads}
use Rattle.decode.specs.Laws.{Begins}
use Rattle.cpu.specs.declared.Lines.{Lines}
use Rattle.cpu.specs.declared.Plan.TheVariants.{Executing}
use Rattle.cpu.specs.Machine.{Machine, register, beside}
use Rattle.cpu.specs.Answer.{StepDone, done}
use Rattle.cpu.specs.Branch.{is_taken}
use Rattle.cpu.specs.Modes.{Fetch, fetch_of}
use Rattle.cpu.specs.Execute.{begun}
use Rattle.cpu.specs.Step.{noted, plan_of, decoded, execution_words, executed, admitted_action, action_of, Outcome, made, step_of, admitted_step, near_after, step_reads}

-- "A refusal hands back its number, no other result, and no lent word or byte altered."
abbrev pub RefusedKeepsAll : Type 0
RefusedKeepsAll =
    (m : Machine) (b : Bus) (l : Lines) (n : ℕ) →
    (step_of m b l).answer ≡ refused n →
    ((step_of m b l).machine ≡ m) × ((step_of m b l).bus ≡ b)

-- who is let in before a step is let in after it
abbrev pub KeepsAdmission : Type 0
KeepsAdmission = (m : Machine) (b : Bus) (l : Lines) → admission_of (step_of m b l).bus ≡ admission_of b

-- a step on lent words leaves lent words, and as many: reached plainly, and on a board
pub record Plain (b : Bus) : Type 0 where
  pub words : List ℕ
  pub lent : b ≡ bus_of words

pub record LeavesWords : Type 0 where
  pub plain : (m : Machine) (before : List ℕ) (l : Lines) → Plain (step_of m (bus_of before) l).bus
  pub on_board : (b : Board) (m : Machine) (before : List ℕ) (l : Lines) → OnBoard b (step_of m (bus_on b before) l).bus

pub record KeepsLength : Type 0 where
  pub plain :
      (m : Machine) (before after : List ℕ) (l : Lines) →
      (step_of m (bus_of before) l).bus ≡ bus_of after →
      length after ≡ length before
  pub on_board :
      (b : Board) (m : Machine) (before after : List ℕ) (l : Lines) →
      (step_of m (bus_on b before) l).bus ≡ bus_on b after →
      length after ≡ length before

-- a step changes at most one word: the one that its action names, where the bus takes a store there. Every other read stays, and on a board every other
-- lent word, also one that no address reads.
pub record ChangesOneWord : Type 0 where
  pub reads :
      (m : Machine) (b : Bus) (l : Lines) (a : ℕ) →
      ((w : ℕ) → (action_of m b l).store ≡ put a w → takes_store b a ≡ true → ⊥) →
      read_of (step_of m b l).bus a ≡ read_of b a
  pub lent :
      (b : Board) (m : Machine) (before after : List ℕ) (l : Lines) (a : ℕ) →
      (step_of m (bus_on b before) l).bus ≡ bus_on b after →
      ((w : ℕ) → (action_of m (bus_on b before) l).store ≡ put a w → takes_store (bus_on b before) a ≡ true → ⊥) →
      peek_of after a ≡ peek_of before a

-- buses that agree on what a step reads, and let in alike, give the same action: machine, answer and store
abbrev pub StepIsLocal : Type 0
StepIsLocal =
    (m : Machine) (b c : Bus) (l : Lines) →
    admission_of b ≡ admission_of c →
    AgreeAt (step_reads m b l) b c →
    action_of m b l ≡ action_of m c l

-- once let in, a step goes by what is read, and by nothing else of the bus
abbrev pub GoesByReads : Type 0
GoesByReads =
    (m : Machine) (b c : Bus) (l : Lines) → read_of b ≡ read_of c → admitted_action m b l ≡ admitted_action m c l

-- so a range at hand changes no step, and the one after a step is at hand too
pub record StepsNear : Type 0 where
  pub same :
      (b : Board) (near : Range) (m : Machine) (words : List ℕ) (l : Lines) →
      Near b near →
      made (bus_on b words) (admitted_action m (bus_on (in_front near b) words) l) ≡ admitted_step m (bus_on b words) l
  pub moves : (b : Board) (near : Range) (m : Machine) (l : Lines) → Near b near → Near b (near_after b near m l)

-- an executing step reads first what decoding reads: these are the words that demand 3's walk reads at the instruction
abbrev pub DecodesFirst : Type 0
DecodesFirst =
    (m : Machine) (b : Bus) (l : Lines) →
    plan_of (noted m l) l ≡ Executing →
    Begins (decoding_reads (read_of b) (register 7 m)) (step_reads m b l)

-- "the bus is granted, 1 cycle"; an interrupt "12 cycles"; an instruction 4 to 12
pub record Costs (kind cycles : ℕ) : Type 0 where
  pub grant : kind ≡ 3 → cycles ≡ 1
  pub interrupt : kind ≡ 4 → cycles ≡ 12
  pub instruction : kind ≡ 5 → (4 ≤ cycles) × (cycles ≤ 12)
  pub kinds : (3 ≤ kind) × (kind ≤ 5)

abbrev pub EveryCost : Type 0
EveryCost = (m : Machine) (b : Bus) (l : Lines) (x : StepDone) → (step_of m b l).answer ≡ answered x → Costs x.kind x.cycles

-- eight registers, each a 16-bit word: so it is of each `State`, by its type (`are_sound` of src/types)
pub record Sound (m : Machine) : Type 0 where
  pub eight : length m.registers ≡ 8
  pub words : (n : ℕ) → register n m < 65536

-- the step goes by item 5, and makes this instruction
pub record Executes (m : Machine) (b : Bus) (l : Lines) (i : Instr) : Type 0 where
  pub admitted : admission_of b ≡ Ok tt
  pub plan : plan_of (noted m l) l ≡ Executing
  pub instruction : decoded m b ≡ Some i

-- a branch from this machine and bus left this: "9 taken, 7 not", and R7 is the target or the address after its words
pub record Branches (m : Machine) (b : Bus) (branch : ℕ) (taken : Bool) (left : Outcome) : Type 0 where
  pub costs : left.answer ≡ done 5 (cond taken 9 7)
  pub goes :
      register 7 left.machine
      ≡ cond taken (branch_target (register 7 m) branch (read_of b (wrap_add (register 7 m) 1))) (wrap_add (register 7 m) 2)

abbrev pub NineTakenSevenNot : Type 0
NineTakenSevenNot =
    (m : Machine) (b : Bus) (l : Lines) (branch : ℕ) →
    Executes m b l (Branch branch) →
    Branches m b branch (is_taken m.flags l.external branch) (step_of m b l)

-- "After a compare, BLT is taken exactly if d is below the operand as signed numbers; BC exactly if d is not below it unsigned."
-- Bits 4 to 0 of BLT are 5, forward and backward, and 1 of BC. x is d and y the operand; `next` are the lines of the step after.
abbrev pub OrderTells : Machine → Bus → Lines → Lines → ℕ → ℕ → Type 0
OrderTells m b l next x y =
    let left : Outcome = step_of m b l in
    (branch : ℕ) →
    Executes left.machine left.bus next (Branch branch) →
    let tells : Bool → Type 0 = λ taken. Branches left.machine left.bus branch taken (step_of left.machine left.bus next) in
    (branch % 32 ≡ 5 → tells (ltb (signed x) (signed y))) × (branch % 32 ≡ 1 → tells (not (ltb x y)))

-- CMPR: both operands are registers, and "R7 as operand is the address after the instruction's words"
abbrev pub AfterCmpr : Type 0
AfterCmpr =
    (m : Machine) (b : Bus) (l next : Lines) (s d : ℕ) →
    Sound m →
    BusWords b →
    Executes m b l (Register 5 s d) →
    let k : Machine = begun (row_of (Register 5 s d) m.switches.d) (noted m l) in
    OrderTells m b l next (register d k) (register s k)

-- CMP: "moves the pointer first and takes the destination operand after"
abbrev pub AfterCmp : Type 0
AfterCmp =
    (m : Machine) (b : Bus) (l next : Lines) (s d : ℕ) →
    Sound m →
    BusWords b →
    Executes m b l (Read 13 s d) →
    let k : Machine = begun (row_of (Read 13 s d) m.switches.d) (noted m l) in
    let f : Fetch = fetch_of (mode_of s) m.switches.d (register 7 m) k in
    OrderTells m b l next (register d f.after) (f.operand (execution_words (noted m l) b (Read 13 s d)))

-- document 02, [6]: a step that makes one of the rows that shift through carry leaves in the register that d names, and in the flags, what the row's
-- form gives of what stood there
abbrev pub ShiftsBitByBit : Type 0
ShiftsBitByBit =
    (m : Machine) (b : Bus) (l : Lines) (row : CarryRow) (d : ℕ) →
    Sound m →
    Executes m b l (Shift (row_number row) d) →
    let after : Machine = (step_of m b l).machine in
    Gives (form_of row (leb 4 d)) (beside (register (d % 4) m) m.flags) (beside (register (d % 4) after) after.flags)

-- a machine of document 01's case, "RLC R0,2 of $8001, C 0, O 1", which makes the row, whatever the lines are
abbrev pub shifting : Machine
shifting =
    record {
      registers = 0x8001 ∷ 0 ∷ 0 ∷ 0 ∷ 0 ∷ 0 ∷ 0 ∷ 0 ∷ [];
      flags = record { s = false; z = false; o = true; c = false };
      switches = record { i = false; d = false };
      running = record { halted = false; ready = false };
      intrm = record { level = true; mark = false };
    }

abbrev pub ShiftsInstance : Type 0
ShiftsInstance = (l : Lines) → Executes shifting (bus_of (0x054 ∷ [])) l (Shift (row_number rlc_row) 4)

-- what an instruction leaves beside its result is its row's: D, ready, halted; and one that is not interruptible goes on in line
pub record ByItsRow (row : Row) (m after : Machine) : Type 0 where
  pub double : after.switches.d ≡ row.double
  pub ready : after.running.ready ≡ row.interruptible
  pub halted : m.running.halted ≡ false → after.running.halted ≡ row.halts
  pub in_line : row.interruptible ≡ false → register 7 after ≡ wrap_add (register 7 m) row.words

abbrev pub GoesByItsRow : Type 0
GoesByItsRow =
    (i : Instr) (m : Machine) (b : Bus) (l : Lines) → ByItsRow (row_of i m.switches.d) m (executed m b l i).machine

-- a step keeps eight registers
abbrev pub KeepsEight : Type 0
KeepsEight = (m : Machine) (b : Bus) (l : Lines) → length m.registers ≡ 8 → length (step_of m b l).machine.registers ≡ 8

abbrev pub StaysSound : Type 0
StaysSound =
    (m : Machine) (b : Bus) (l : Lines) →
    Sound m →
    BusWords b →
    Sound (step_of m b l).machine × BusWords (step_of m b l).bus
