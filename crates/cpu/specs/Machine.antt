-- Document 01, "State: eight registers, flags S Z O C I D, halted, ready, the previous INTRM level and the pending mark."
use Rattle.std.specs.Prelude.{ℕ, Bool, true, false, not, cond, ◌&&◌, ◌||◌, List, [], ◌∷◌, eqb, get_or}
use Rattle.word.specs.declared.Flagged.{Flagged}
use Rattle.word.specs.Flags.{with_sign}
use Rattle.cpu.specs.declared.State.{State}

pub record Flags : Type 0 where
  pub s : Bool
  pub z : Bool
  pub o : Bool
  pub c : Bool

-- I: an interrupt may be served; D: the double-byte mark
pub record Switches : Type 0 where
  pub i : Bool
  pub d : Bool

-- ready: a request is heard before the next instruction
pub record Running : Type 0 where
  pub halted : Bool
  pub ready : Bool

-- an input pin: its level at the last step (true: high), and whether its fall waits to be served
pub record Pin : Type 0 where
  pub level : Bool
  pub mark : Bool

pub record Machine : Type 0 where
  pub registers : List ℕ
  pub flags : Flags
  pub switches : Switches
  pub running : Running
  pub intrm : Pin

-- "Reset gives R7 = $1000, other registers 0, flags clear, not halted, not ready, previous level high, none pending."
unfoldable pub reset_machine : Machine
reset_machine =
    record {
      registers = 0 ∷ 0 ∷ 0 ∷ 0 ∷ 0 ∷ 0 ∷ 0 ∷ 0x1000 ∷ [];
      flags = record { s = false; z = false; o = false; c = false };
      switches = record { i = false; d = false };
      running = record { halted = false; ready = false };
      intrm = record { level = true; mark = false };
    }

-- one group changed
abbrev pub set_registers : List ℕ → Machine → Machine
set_registers r m = record { registers = r; flags = m.flags; switches = m.switches; running = m.running; intrm = m.intrm }

abbrev pub set_flags : Flags → Machine → Machine
set_flags f m = record { registers = m.registers; flags = f; switches = m.switches; running = m.running; intrm = m.intrm }

abbrev pub set_switches : Bool → Bool → Machine → Machine
set_switches i d m =
    record { registers = m.registers; flags = m.flags; switches = record { i = i; d = d }; running = m.running; intrm = m.intrm }

abbrev pub set_running : Bool → Bool → Machine → Machine
set_running halted ready m =
    record { registers = m.registers; flags = m.flags; switches = m.switches; running = record { halted = halted; ready = ready }; intrm = m.intrm }

abbrev pub set_intrm : Pin → Machine → Machine
set_intrm p m = record { registers = m.registers; flags = m.flags; switches = m.switches; running = m.running; intrm = p }

-- register n
abbrev pub register : ℕ → Machine → ℕ
register n m = get_or m.registers n 0

-- the eight registers, with v in register n
abbrev pub with_register : ℕ → ℕ → List ℕ → List ℕ
with_register n v r =
    let at : ℕ → ℕ = λ k. cond (eqb n k) v (get_or r k 0) in
    at 0 ∷ at 1 ∷ at 2 ∷ at 3 ∷ at 4 ∷ at 5 ∷ at 6 ∷ at 7 ∷ []

abbrev pub set_register : ℕ → ℕ → Machine → Machine
set_register n v m = set_registers (with_register n v m.registers) m

-- single flags
abbrev pub set_c : Bool → Machine → Machine
set_c b m = set_flags (record { s = m.flags.s; z = m.flags.z; o = m.flags.o; c = b }) m

abbrev pub set_i : Bool → Machine → Machine
set_i b m = set_switches b m.switches.d m

abbrev pub set_d : Bool → Machine → Machine
set_d b m = set_switches m.switches.i b m

-- a word beside the flags, and the flags beside a word: `Flagged` is a result with its flags
abbrev pub beside : ℕ → Flags → Flagged
beside v f = record { value = v; s = f.s; z = f.z; o = f.o; c = f.c }

abbrev pub flags_of : Flagged → Flags
flags_of f = record { s = f.s; z = f.z; o = f.o; c = f.c }

-- "S = bit 15, Z = result zero"; O and C stay
abbrev pub with_sz : ℕ → Flags → Flagged
with_sz v f = with_sign v f.o f.c

-- the result of a row goes to register d, its flags with it
unfoldable pub result : ℕ → Flagged → Machine → Machine
result d f m = set_flags (flags_of f) (set_register d f.value m)

-- Item 2: "pending becomes true exactly if INTRM is low and it was pending or the previous level was high; the level is recorded"
unfoldable pub seen_by : Bool → Pin → Pin
seen_by level p = record { level = level; mark = not level && (p.mark || p.level) }

-- the machine that the code's state stands for: the same in groups
abbrev pub machine_of : State → Machine
machine_of st =
    let k = st.status in
    record {
      registers = st.registers;
      flags = record { s = k.s; z = k.z; o = k.o; c = k.c };
      switches = record { i = k.i; d = k.d };
      running = record { halted = k.halted; ready = k.ready };
      intrm = record { level = k.level; mark = k.pending };
    }
