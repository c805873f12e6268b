-- Document 01, "Run".
use Rattle.std.specs.Prelude.{ℕ, zero, suc, ◌+◌, ◌-◌, Bool, not, cond, ◌&&◌, List, ltb, Result}
use Rattle.refusal.specs.declared.Refusal.{Refusal}
use Rattle.refusal.specs.declared.Refusal.TheVariants.{BudgetTooHigh, Halted as HaltedMachine}
use Rattle.refusal.specs.Refusals.{refusal_number, reported}
use Rattle.refusal.specs.Report.{Report, refused, answered, OneToOne}
use Rattle.memory.specs.declared.map.Board.{Board}
use Rattle.memory.specs.Bus.{Bus, bus_on, admission_of, unless_barred}
use Rattle.cpu.specs.declared.Lines.{Lines}
use Rattle.cpu.specs.Machine.{Machine, machine_of}
use Rattle.cpu.specs.Answer.{cycles_of, meets_unspecified}
use Rattle.cpu.specs.Step.{Outcome, admitted_step}
use Rattle.run.specs.declared.Cause.{Cause}
use Rattle.run.specs.declared.Cause.TheVariants.{Halted, Unspecified, Budget}
use Rattle.run.specs.declared.Ended.{Ended}
use Rattle.run.specs.declared.Ran.{Ran}

-- "which cause ended it (halted, then unspecified, then budget)": the causes in this order, counted from 0
abbrev pub cause_number : Cause → ℕ
cause_number Halted = 0
cause_number Unspecified = 1
cause_number Budget = 2

-- "The run hands back state, steps, cycles and which cause ended it"
pub record RunDone : Type 0 where
  pub steps : ℕ
  pub cycles : ℕ
  pub cause : ℕ

abbrev pub run_report : Result Ended Refusal → Report RunDone
run_report answer = reported (λ e. record { steps = e.steps; cycles = e.cycles; cause = cause_number e.cause }) answer

-- no two answers are reported alike
abbrev pub RunsApart : Type 0
RunsApart = OneToOne run_report

-- all that a run leaves
pub record RunOutcome : Type 0 where
  pub machine : Machine
  pub answer : Report RunDone
  pub bus : Bus

-- the outcome that the code's answer and the memory at its return, on a board, stand for: the run's contract says that it is `run_of`
abbrev pub run_outcome : Board → Ran → List ℕ → RunOutcome
run_outcome b x m = record { machine = machine_of x.state; answer = run_report x.answer; bus = bus_on b m }

-- a refused run changes nothing
unfoldable pub refused_run : Machine → Bus → Refusal → RunOutcome
refused_run m b r = record { machine = m; answer = refused (refusal_number r); bus = b }

-- why no more steps are made: "halted, then unspecified, then budget"
unfoldable pub cause_of : Machine → Bus → Lines → Cause
cause_of m b l =
    cond m.running.halted Halted
    (cond (meets_unspecified (admitted_step m b l).answer) Unspecified Budget)

unfoldable pub finish : Machine → Bus → Lines → ℕ → ℕ → RunOutcome
finish m b l steps cycles =
    record {
      machine = m;
      answer = answered (record { steps = steps; cycles = cycles; cause = cause_number (cause_of m b l) });
      bus = b;
    }

-- "Steps are made while the sum is below the budget, the machine is not halted and the next step is not refused by 3."
unfoldable pub steps_on : Machine → Bus → Lines → ℕ → ℕ → Bool
steps_on m b l budget cycles =
    ltb cycles budget && (not m.running.halted && not (meets_unspecified (admitted_step m b l).answer))

-- the run from a machine on an admitted bus, with at most this many turns to go
unfoldable pub run_from : ℕ → Machine → Bus → Lines → ℕ → ℕ → ℕ → RunOutcome
run_from zero m b l budget steps cycles = finish m b l steps cycles
run_from (suc turns) m b l budget steps cycles =
    let next : Outcome = admitted_step m b l in
    cond (steps_on m b l budget cycles)
    (run_from turns next.machine next.bus l budget (steps + 1) (cycles + cycles_of next.answer))
    (finish m b l steps cycles)

-- the run from where it stands; each step adds a cycle or more, so the turns do not run out (`Laws.RunEquation` has no such count)
unfoldable pub run_on : Machine → Bus → Lines → ℕ → ℕ → ℕ → RunOutcome
run_on m b l budget steps cycles = run_from (budget - cycles) m b l budget steps cycles

-- "Budget 0 to 1,000,000 cycles, lines fixed." "Run tests 1, 4, 2.", and 14 after 1; no step changes who is let in, so 1 and 14 are asked once
unfoldable pub run_of : Machine → Bus → Lines → ℕ → RunOutcome
run_of m b l budget =
    unless_barred (admission_of b) (refused_run m b)
    (cond (ltb 1000000 budget) (refused_run m b BudgetTooHigh)
    (cond m.running.halted (refused_run m b HaltedMachine) (run_on m b l budget 0 0)))
