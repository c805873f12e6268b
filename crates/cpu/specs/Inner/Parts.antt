-- The parts of a state as the code has them, registers apart from a flat status, beside the machine in groups.
use Rattle.std.specs.Prelude.{ℕ, Bool, true, false, not, ◌&&◌, ◌||◌, List, Result, Option, None, Some}
use Rattle.refusal.specs.declared.Refusal.{Refusal}
use Rattle.memory.specs.declared.map.Range.{Range}
use Rattle.decode.specs.declared.Instr.{Instr}
use Rattle.cpu.specs.declared.Status.{Status}
use Rattle.cpu.specs.declared.State.{State}
use Rattle.cpu.specs.declared.Lines.{Lines}
use Rattle.cpu.specs.declared.Done.{Done}
use Rattle.cpu.specs.declared.NearStep.{NearStep}
use Rattle.cpu.specs.Machine.{Flags, Machine, machine_of}

abbrev pub state_of : List ℕ → Status → State
state_of r k = record { registers = r; status = k }

abbrev pub machine_in : List ℕ → Status → Machine
machine_in r k = machine_of (state_of r k)

abbrev pub flags_in : Status → Flags
flags_in k = record { s = k.s; z = k.z; o = k.o; c = k.c }

-- item 2 on a status
abbrev pub noted_in : Status → Lines → Status
noted_in k l =
    record {
      halted = k.halted;
      s = k.s;
      z = k.z;
      o = k.o;
      c = k.c;
      i = k.i;
      d = k.d;
      ready = k.ready;
      level = l.intrm;
      pending = not l.intrm && (k.pending || k.level);
    }

-- the marks after interrupt entry
abbrev pub interrupted_in : Status → Status
interrupted_in k =
    record {
      halted = k.halted;
      s = k.s;
      z = k.z;
      o = k.o;
      c = k.c;
      i = k.i;
      d = false;
      ready = false;
      level = k.level;
      pending = false;
    }

-- whether what is decoded is an unspecified form
abbrev pub is_unspecified_form : Option Instr → Bool
is_unspecified_form None = true
is_unspecified_form (Some i) = false

abbrev pub stepped_of : List ℕ → Status → Result Done Refusal → Range → NearStep
stepped_of r k a near = record { state = state_of r k; answer = a; near = near }
