-- Document 01, "Cases": those marked P, "proved together as a single table".
use Rattle.std.specs.Prelude.{ℕ, zero, suc, ◌≡◌, Bool, true, false, not, List, [], ◌∷◌, ◌++◌, map}
use Rattle.refusal.specs.Report.{Report, answered}
use Rattle.memory.specs.Bus.{Bus, bus_of}
use Rattle.cpu.specs.declared.Lines.{Lines}
use Rattle.cpu.specs.Machine.{Machine}
use Rattle.cpu.specs.Answer.{StepDone, done}
use Rattle.cpu.specs.Steps.{StepMade, steps_from, last_machine}
use Rattle.meter.specs.Answer.{Answer, wait as waiting}
use Rattle.meter.specs.Meter.{wait_of}

-- "flags S Z O C I D": something of each, in this order
pub record OfFlags (A : Type 0) : Type 0 where
  pub s : A
  pub z : A
  pub o : A
  pub c : A
  pub i : A
  pub d : A

abbrev pub flags : {A : Type 0} → A → A → A → A → A → A → OfFlags A
flags s z o c i d = record { s = s; z = z; o = o; c = c; i = i; d = d }

-- how a flag stands before a case
pub data Start : Type 0 where
  -- the row sets or clears it: it starts as the complement of what is expected, so that a row that leaves it alone fails
  set : Start
  -- the row keeps it: it starts clear
  kept : Start
  -- it is given: by the paper, or as the comment at the case says
  given : Bool → Start

abbrev pub starts_as : Start → Bool → Bool
starts_as set expected = not expected
starts_as kept expected = false
starts_as (given b) expected = b

-- what a case comes to: after its steps R0 to R7, the flags and what each step answered; or what the meter answers
pub data Result : Type 0 where
  leaves : List ℕ → OfFlags Bool → List (Report StepDone) → Result
  meters : Report Answer → Result

-- a case: words at an address, R0 to R6 (R7 is the address) and the flags before, and what is expected
pub record Case : Type 0 where
  pub address : ℕ
  pub words : List ℕ
  pub registers : List ℕ
  pub start : OfFlags Start
  pub expected : Result

-- "ADDR R0,R1 ($FFFF, 1): 0, Z C"
abbrev pub addr_case : Case
addr_case =
    record {
      address = 0;
      words = 0x0C1 ∷ [];
      registers = 0xFFFF ∷ 1 ∷ 0 ∷ 0 ∷ 0 ∷ 0 ∷ 0 ∷ [];
      start = flags set set set set kept set;
      expected =
          leaves (0xFFFF ∷ 0 ∷ 0 ∷ 0 ∷ 0 ∷ 0 ∷ 0 ∷ 1 ∷ []) (flags false true false true false false) (done 5 6 ∷ []);
    }

-- "SUBR R0,R1 (1, $8000): $7FFF, C O"
abbrev pub subr_case : Case
subr_case =
    record {
      address = 0;
      words = 0x101 ∷ [];
      registers = 1 ∷ 0x8000 ∷ 0 ∷ 0 ∷ 0 ∷ 0 ∷ 0 ∷ [];
      start = flags set set set set kept set;
      expected =
          leaves (1 ∷ 0x7FFF ∷ 0 ∷ 0 ∷ 0 ∷ 0 ∷ 0 ∷ 1 ∷ []) (flags false false true true false false) (done 5 6 ∷ []);
    }

-- "CMPR R1,R2 (2, 1): S only, R2 stays"
abbrev pub cmpr_case : Case
cmpr_case =
    record {
      address = 0;
      words = 0x14A ∷ [];
      registers = 0 ∷ 2 ∷ 1 ∷ 0 ∷ 0 ∷ 0 ∷ 0 ∷ [];
      start = flags set set set set kept set;
      expected = leaves (0 ∷ 2 ∷ 1 ∷ 0 ∷ 0 ∷ 0 ∷ 0 ∷ 1 ∷ []) (flags true false false false false false) (done 5 6 ∷ []);
    }

-- "NEGR of 0: Z C"
abbrev pub negr_case : Case
negr_case =
    record {
      address = 0;
      words = 0x020 ∷ [];
      registers = 0 ∷ 0 ∷ 0 ∷ 0 ∷ 0 ∷ 0 ∷ 0 ∷ [];
      start = flags set set set set kept set;
      expected = leaves (0 ∷ 0 ∷ 0 ∷ 0 ∷ 0 ∷ 0 ∷ 0 ∷ 1 ∷ []) (flags false true false true false false) (done 5 6 ∷ []);
    }

-- "RLC R0,2 of $8001, C 0, O 1: $0005, C 1, O 0"
abbrev pub rlc_twice_case : Case
rlc_twice_case =
    record {
      address = 0;
      words = 0x054 ∷ [];
      registers = 0x8001 ∷ 0 ∷ 0 ∷ 0 ∷ 0 ∷ 0 ∷ 0 ∷ [];
      start = flags set set (given true) (given false) kept set;
      expected =
          leaves (0x0005 ∷ 0 ∷ 0 ∷ 0 ∷ 0 ∷ 0 ∷ 0 ∷ 1 ∷ []) (flags false false false true false false) (done 5 8 ∷ []);
    }

-- "SAR of $0101: $0080, S": SAR keeps O and C
abbrev pub sar_case : Case
sar_case =
    record {
      address = 0;
      words = 0x068 ∷ [];
      registers = 0x0101 ∷ 0 ∷ 0 ∷ 0 ∷ 0 ∷ 0 ∷ 0 ∷ [];
      start = flags set set kept kept kept set;
      expected =
          leaves (0x0080 ∷ 0 ∷ 0 ∷ 0 ∷ 0 ∷ 0 ∷ 0 ∷ 1 ∷ []) (flags true false false false false false) (done 5 6 ∷ []);
    }

-- "SWAP by two of $1234: $3434": SWAP keeps O and C
abbrev pub swap_twice_case : Case
swap_twice_case =
    record {
      address = 0;
      words = 0x044 ∷ [];
      registers = 0x1234 ∷ 0 ∷ 0 ∷ 0 ∷ 0 ∷ 0 ∷ 0 ∷ [];
      start = flags set set kept kept kept set;
      expected =
          leaves (0x3434 ∷ 0 ∷ 0 ∷ 0 ∷ 0 ∷ 0 ∷ 0 ∷ 1 ∷ []) (flags false false false false false false) (done 5 8 ∷ []);
    }

-- "001 2B8 0034 0012: R0 = $1234, 14 cycles": 001 sets D, so it starts clear, and 2B8 clears it
abbrev pub double_immediate_case : Case
double_immediate_case =
    record {
      address = 0;
      words = 0x001 ∷ 0x2B8 ∷ 0x0034 ∷ 0x0012 ∷ [];
      registers = 0 ∷ 0 ∷ 0 ∷ 0 ∷ 0 ∷ 0 ∷ 0 ∷ [];
      start = flags kept kept kept kept kept (given false);
      expected =
          leaves (0x1234 ∷ 0 ∷ 0 ∷ 0 ∷ 0 ∷ 0 ∷ 0 ∷ 4 ∷ []) (flags false false false false false false)
          (done 5 4 ∷ done 5 10 ∷ []);
    }

-- "at $100, 220 0001: stays at $100, 9"
abbrev pub branch_back_case : Case
branch_back_case =
    record {
      address = 0x100;
      words = 0x220 ∷ 0x0001 ∷ [];
      registers = 0 ∷ 0 ∷ 0 ∷ 0 ∷ 0 ∷ 0 ∷ 0 ∷ [];
      start = flags kept kept kept kept kept set;
      expected =
          leaves (0 ∷ 0 ∷ 0 ∷ 0 ∷ 0 ∷ 0 ∷ 0 ∷ 0x100 ∷ []) (flags false false false false false false) (done 5 9 ∷ []);
    }

-- "at $100, 004 110 234: R5 = $103, R7 = $1234"
abbrev pub jsr_case : Case
jsr_case =
    record {
      address = 0x100;
      words = 0x004 ∷ 0x110 ∷ 0x234 ∷ [];
      registers = 0 ∷ 0 ∷ 0 ∷ 0 ∷ 0 ∷ 0 ∷ 0 ∷ [];
      start = flags kept kept kept kept kept set;
      expected =
          leaves (0 ∷ 0 ∷ 0 ∷ 0 ∷ 0 ∷ 0x103 ∷ 0 ∷ 0x1234 ∷ []) (flags false false false false false false)
          (done 5 12 ∷ []);
    }

-- "GSWD with S C: $9090"
abbrev pub gswd_case : Case
gswd_case =
    record {
      address = 0;
      words = 0x030 ∷ [];
      registers = 0 ∷ 0 ∷ 0 ∷ 0 ∷ 0 ∷ 0 ∷ 0 ∷ [];
      start = flags (given true) kept kept (given true) kept set;
      expected =
          leaves (0x9090 ∷ 0 ∷ 0 ∷ 0 ∷ 0 ∷ 0 ∷ 0 ∷ 1 ∷ []) (flags true false false true false false) (done 5 6 ∷ []);
    }

-- "048 04C 007 034: wait 24"
abbrev pub wait_case : Case
wait_case =
    record {
      address = 0;
      words = 0x048 ∷ 0x04C ∷ 0x007 ∷ 0x034 ∷ [];
      registers = 0 ∷ 0 ∷ 0 ∷ 0 ∷ 0 ∷ 0 ∷ 0 ∷ [];
      start = flags kept kept kept kept kept kept;
      expected = meters (answered (waiting 24));
    }

-- the table
abbrev pub table : List Case
table = addr_case ∷ subr_case ∷ cmpr_case ∷ negr_case ∷ rlc_twice_case ∷ sar_case ∷ swap_twice_case ∷ double_immediate_case ∷ branch_back_case ∷ jsr_case ∷ gswd_case ∷ wait_case ∷ []

-- nothing is requested, and the external inputs are 0
abbrev pub quiet : Lines
quiet = record { intrm = true; busrq = true; external = 0 }

unfoldable pub zeros : ℕ → List ℕ
zeros zero = []
zeros (suc n) = 0 ∷ zeros n

abbrev pub bus_before : Case → Bus
bus_before c = bus_of (zeros c.address ++ c.words)

-- the machine before a case, from the flags expected after it: between instructions, a request not yet heard
abbrev pub machine_before : Case → OfFlags Bool → Machine
machine_before c f =
    let start = c.start in
    record {
      registers = c.registers ++ (c.address ∷ []);
      flags =
          record {
            s = starts_as start.s f.s;
            z = starts_as start.z f.z;
            o = starts_as start.o f.o;
            c = starts_as start.c f.c;
          };
      switches = record { i = starts_as start.i f.i; d = starts_as start.d f.d };
      running = record { halted = false; ready = false };
      intrm = record { level = true; mark = false };
    }

-- what steps from a machine leave
abbrev pub leaves_after : Machine → List StepMade → Result
leaves_after m made =
    let after : Machine = last_machine m made in
    leaves
    after.registers
    (flags after.flags.s after.flags.z after.flags.o after.flags.c after.switches.i after.switches.d)
    (map (λ (t : StepMade). t.left.answer) made)

-- what a case comes to: as many steps as answers are expected; or the meter's answer, with limit 0
abbrev pub result_for : Result → Case → Result
result_for (leaves registers f answers) c =
    let m : Machine = machine_before c f in
    leaves_after m (steps_from m (bus_before c) (map (λ (a : Report StepDone). quiet) answers))
result_for (meters answer) c = meters (wait_of (bus_before c) c.address 0)

-- each of these cases comes to what is expected
abbrev pub AllHold : List Case → Type 0
AllHold [] = Unit
AllHold (c ∷ rest) = (result_for c.expected c ≡ c.expected) × AllHold rest

-- every case of the table does
abbrev pub EveryCase : Type 0
EveryCase = AllHold table
