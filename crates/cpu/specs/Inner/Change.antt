-- What the code's rows answer: a change of registers and status, with its cycles. A row's contract says that its change leaves the machine that the
-- row's definition leaves.
use Rattle.std.specs.Prelude.{ℕ, ◌≡◌, Bool, false, cond, List, [], ◌∷◌, map, eqb, get_or}
use Rattle.word.specs.declared.Flagged.{Flagged}
use Rattle.word.specs.Word.{wrap_add}
use Rattle.decode.specs.declared.Instr.{Instr}
use Rattle.decode.specs.declared.rows.Row.{Row}
use Rattle.decode.specs.Rows.{row_of}
use Rattle.cpu.specs.declared.Status.{Status}
use Rattle.cpu.specs.declared.change.Change.{Change}
use Rattle.cpu.specs.Machine.{Machine, with_register, beside}
use Rattle.cpu.specs.Modes.{Effect}
use Rattle.cpu.specs.Reads.{execution_reads}
use Rattle.cpu.specs.Execute.{execute_of, instruction_cycles}
use Rattle.cpu.specs.Inner.Parts.{machine_in, flags_in}

-- the number that is no register's
abbrev pub no_register : ℕ
no_register = 8

-- the eight registers with a pointer moved: only R4 to R6 are moved so
abbrev pub with_pointer : ℕ → ℕ → List ℕ → List ℕ
with_pointer p v r =
    let at : ℕ → ℕ = λ k. cond (eqb p k) v (get_or r k 0) in
    get_or r 0 0 ∷ get_or r 1 0 ∷ get_or r 2 0 ∷ get_or r 3 0 ∷ at 4 ∷ at 5 ∷ at 6 ∷ get_or r 7 0 ∷ []

-- the registers after a change: R7 goes on and the pointer moves, and what is written to the destination comes last
abbrev pub written_by : Change → List ℕ → List ℕ
written_by x r =
    with_register x.destination x.value (with_pointer x.pointer x.moved (with_register 7 x.next r))

-- the machine that a change leaves
abbrev pub changed : Change → List ℕ → Machine
changed x r = machine_in (written_by x r) x.status

-- the status after an instruction: flags and I from what it did, the marks from its row
abbrev pub status_after : Status → Row → Flagged → Bool → Status
status_after k row f i =
    record {
      halted = row.halts;
      s = f.s;
      z = f.z;
      o = f.o;
      c = f.c;
      i = i;
      d = row.double;
      ready = row.interruptible;
      level = k.level;
      pending = k.pending;
    }

-- register d takes a result with its flags
abbrev pub writes_to : Status → Row → ℕ → ℕ → Flagged → Change
writes_to k row pc d f =
    record {
      destination = d;
      value = f.value;
      pointer = no_register;
      moved = 0;
      next = wrap_add pc row.words;
      cycles = row.cycles;
      status = status_after k row f k.i;
    }

-- no register but R7 changes, and no flag
abbrev pub goes_to : Status → Row → ℕ → Change
goes_to k row next =
    record {
      destination = no_register;
      value = 0;
      pointer = no_register;
      moved = 0;
      next = next;
      cycles = row.cycles;
      status = status_after k row (beside 0 (flags_in k)) k.i;
    }

-- the machine begun with a row: the opcode is at pc, the registers are r, and the status is k. A machine that executes is not halted.
abbrev pub begun_at : Row → ℕ → List ℕ → Status → Machine
begun_at row pc r k =
    record {
      registers = with_register 7 (wrap_add pc row.words) r;
      flags = flags_in k;
      switches = record { i = k.i; d = false };
      running = record { halted = false; ready = row.interruptible };
      intrm = record { level = k.level; mark = k.pending };
    }

-- what an instruction at pc does
abbrev pub effect_at : Instr → ℕ → List ℕ → Status → (ℕ → ℕ) → ℕ → Effect
effect_at i pc r k read external =
    let m : Machine = begun_at (row_of i k.d) pc r k in
    execute_of i k.d (map read (execution_reads i k.d read pc m)) pc external m

abbrev pub cycles_at : Instr → ℕ → List ℕ → Status → ℕ → ℕ
cycles_at i pc r k external =
    instruction_cycles i (row_of i k.d) external (begun_at (row_of i k.d) pc r k)

-- a change of the registers r that leaves this machine, in so many cycles
pub record Leaves (x : Change) (r : List ℕ) (m : Machine) (cycles : ℕ) : Type 0 where
  pub machine : changed x r ≡ m
  pub costs : x.cycles ≡ cycles
