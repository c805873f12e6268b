-- One step: document 01, "The board the step sees", its order 1 to 5.
use Rattle.std.specs.Prelude.{false, not, cond, ◌&&◌, List, [], ◌++◌, map, ℕ, Option, None, Some}
use Rattle.refusal.specs.declared.Refusal.{Refusal}
use Rattle.refusal.specs.declared.Refusal.TheVariants.{Halted, Unspecified}
use Rattle.refusal.specs.Refusals.{refusal_number}
use Rattle.refusal.specs.Report.{Report, refused}
use Rattle.word.specs.Word.{wrap_add}
use Rattle.memory.specs.declared.map.Range.{Range}
use Rattle.memory.specs.declared.map.Board.{Board}
use Rattle.memory.specs.Bus.{Bus, bus_on, read_of, Store, keep, put, stored, admission_of, unless_barred}
use Rattle.memory.specs.Near.{near_of}
use Rattle.decode.specs.declared.Instr.{Instr}
use Rattle.decode.specs.declared.rows.Row.{Row}
use Rattle.decode.specs.Decode.{decode_at}
use Rattle.decode.specs.Rows.{row_of}
use Rattle.decode.specs.Reads.{decoding_reads}
use Rattle.cpu.specs.declared.Lines.{Lines}
use Rattle.cpu.specs.declared.Plan.{Plan}
use Rattle.cpu.specs.declared.Plan.TheVariants.{Halting, Granting, Interrupting, Executing}
use Rattle.cpu.specs.declared.Stepped.{Stepped}
use Rattle.cpu.specs.declared.NearStep.{NearStep}
use Rattle.cpu.specs.Machine.{Machine, machine_of, register, set_register, set_switches, set_running, set_intrm, seen_by}
use Rattle.cpu.specs.Answer.{StepDone, done, step_report}
use Rattle.cpu.specs.Modes.{Effect}
use Rattle.cpu.specs.Reads.{execution_reads}
use Rattle.cpu.specs.Execute.{begun, execute_of, instruction_cycles}

-- Item 2, for the whole machine
unfoldable pub noted : Machine → Lines → Machine
noted m l = set_intrm (seen_by l.intrm m.intrm) m

-- "halted"; "ready and BUSRQ low"; "ready, I set and pending"; "else one instruction". m has the level and the mark recorded.
unfoldable pub plan_of : Machine → Lines → Plan
plan_of m l =
    cond m.running.halted Halting
    (cond (m.running.ready && not l.busrq) Granting
    (cond (m.running.ready && (m.switches.i && m.intrm.mark)) Interrupting Executing))

-- what a step does: the machine that it leaves, what it reports, and at most one store
pub record Action : Type 0 where
  pub machine : Machine
  pub answer : Report StepDone
  pub store : Store

-- "A refused step also leaves the INTRM level and mark unrecorded."
unfoldable pub refused_step : Machine → Refusal → Action
refused_step m r = record { machine = m; answer = refused (refusal_number r); store = keep }

-- Item 3: "the bus is granted, 1 cycle, nothing else changes"
unfoldable pub granted : Machine → Action
granted m = record { machine = m; answer = done 3 1; store = keep }

-- Item 4: "word at R6 := R7, R6 + 1, R7 := $1004, pending, ready and D clear, 12 cycles"
unfoldable pub interrupted : Machine → Action
interrupted m =
    record {
      machine =
          set_intrm (record { level = m.intrm.level; mark = false })
          (set_running m.running.halted false
          (set_switches m.switches.i false
          (set_register 7 0x1004 (set_register 6 (wrap_add (register 6 m) 1) m))));
      answer = done 4 12;
      store = put (register 6 m) (register 7 m);
    }

-- the words that the execution of the instruction at R7 reads
unfoldable pub execution_words : Machine → Bus → Instr → List ℕ
execution_words m b i =
    let row : Row = row_of i m.switches.d in
    map (read_of b) (execution_reads i m.switches.d (read_of b) (register 7 m) (begun row m))

-- Item 5: one instruction, which comes by the memory through these words alone
unfoldable pub executed_from : Machine → List ℕ → Lines → Instr → Action
executed_from m words l i =
    let row : Row = row_of i m.switches.d in
    let e : Effect = execute_of i m.switches.d words (register 7 m) l.external (begun row m) in
    record { machine = e.machine; answer = done 5 (instruction_cycles i row l.external m); store = e.store }

unfoldable pub executed : Machine → Bus → Lines → Instr → Action
executed m b l i = executed_from m (execution_words m b i) l i

-- refusal 3: "step meets an unspecified form"; given is the machine as it was given
abbrev pub decoded_action : Option Instr → Machine → Machine → Bus → Lines → Action
decoded_action None given m b l = refused_step given Unspecified
decoded_action (Some i) given m b l = executed m b l i

-- the instruction at R7
abbrev pub decoded : Machine → Bus → Option Instr
decoded m b = decode_at (read_of b) (register 7 m) m.switches.d

abbrev pub planned : Plan → Machine → Machine → Bus → Lines → Action
planned Halting given m b l = refused_step given Halted
planned Granting given m b l = granted m
planned Interrupting given m b l = interrupted m
planned Executing given m b l = decoded_action (decoded m b) given m b l

-- a step on an admitted bus: item 1's "halted", items 2 to 5
unfoldable pub admitted_action : Machine → Bus → Lines → Action
admitted_action given b l = planned (plan_of (noted given l) l) given (noted given l) b l

-- Item 1: "memory length"
unfoldable pub action_of : Machine → Bus → Lines → Action
action_of given b l = unless_barred (admission_of b) (refused_step given) (admitted_action given b l)

-- all that a step leaves
pub record Outcome : Type 0 where
  pub machine : Machine
  pub answer : Report StepDone
  pub bus : Bus

-- the one place where a step's store is made
abbrev pub made : Bus → Action → Outcome
made b a = record { machine = a.machine; answer = a.answer; bus = stored b a.store }

-- one step, and one that was let in already: a run asks once
unfoldable pub step_of : Machine → Bus → Lines → Outcome
step_of m b l = made b (action_of m b l)

unfoldable pub admitted_step : Machine → Bus → Lines → Outcome
admitted_step m b l = made b (admitted_action m b l)

-- the outcome that the code's answer and the memory at its return, on a board, stand for: the step's contract says that it is `step_of`
abbrev pub outcome : Board → Stepped → List ℕ → Outcome
outcome b x m = record { machine = machine_of x.state; answer = step_report x.answer; bus = bus_on b m }

-- the same of the code's step with a range at hand, and the range at hand after it: the one in which the opcode stands
abbrev pub outcome_near : Board → NearStep → List ℕ → Outcome
outcome_near b x m = record { machine = machine_of x.state; answer = step_report x.answer; bus = bus_on b m }

abbrev pub near_by : Plan → Board → Range → Machine → Range
near_by Halting b near m = near
near_by Granting b near m = near
near_by Interrupting b near m = near
near_by Executing b near m = near_of b near (register 7 m)

unfoldable pub near_after : Board → Range → Machine → Lines → Range
near_after b near m l = near_by (plan_of (noted m l) l) b near m

-- The addresses that a step reads, in order: what decoding reads, then what the execution reads. A refusal before that, a grant and an interrupt read
-- nothing; an unspecified form is told by what decoding reads.
abbrev pub decoded_reads : Option Instr → Machine → Bus → List ℕ
decoded_reads None m b = []
decoded_reads (Some i) m b =
    execution_reads i m.switches.d (read_of b) (register 7 m) (begun (row_of i m.switches.d) m)

abbrev pub planned_reads : Plan → Machine → Bus → List ℕ
planned_reads Halting m b = []
planned_reads Granting m b = []
planned_reads Interrupting m b = []
planned_reads Executing m b = decoding_reads (read_of b) (register 7 m) ++ decoded_reads (decoded m b) m b

unfoldable pub step_reads : Machine → Bus → Lines → List ℕ
step_reads m b l = planned_reads (plan_of (noted m l) l) (noted m l) b
