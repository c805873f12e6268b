-- What holds of every run.
use Rattle.std.specs.Prelude.{ℕ, zero, suc, ◌+◌, ◌<◌, ◌≤◌, ◌≡◌, ◌↔◌, true, false, cond, List, [], ◌∷◌, Ok}
use Rattle.refusal.specs.Report.{UnlessRefused}
use Rattle.memory.specs.Bus.{Bus, admission_of}
use Rattle.cpu.specs.declared.Lines.{Lines}
use Rattle.cpu.specs.Machine.{Machine}
use Rattle.cpu.specs.Answer.{cycles_of, meets_unspecified}
use Rattle.cpu.specs.Step.{step_of}
use Rattle.cpu.specs.Steps.{steps_from, last_machine, last_bus, cycles_of_all, Unrefused}
use Rattle.run.specs.declared.Cause.TheVariants.{Halted, Unspecified, Budget}
use Rattle.run.specs.Run.{cause_number, RunDone, RunOutcome, finish, steps_on, run_on, run_of}

-- The run by its own rule, with no count.
abbrev pub RunEquation : Type 0
RunEquation =
    (m : Machine) (b : Bus) (l : Lines) (budget steps cycles : ℕ) →
    admission_of b ≡ Ok tt →
    run_on m b l budget steps cycles
    ≡ cond (steps_on m b l budget cycles)
    (run_on (step_of m b l).machine (step_of m b l).bus l budget (steps + 1) (cycles + cycles_of (step_of m b l).answer))
    (finish m b l steps cycles)

-- fixed lines, n times
unfoldable pub repeated : ℕ → Lines → List Lines
repeated zero l = []
repeated (suc n) l = l ∷ repeated n l

-- "state and sum equal the rows' steps": as many steps as the run names, none of them refused, give the sum that it names, and the last leaves
-- its machine and bus; the sum fixes their number, by `SumFixesSteps`.
pub record Made (m : Machine) (b : Bus) (l : Lines) (o : RunOutcome) (x : RunDone) : Type 0 where
  pub unrefused : Unrefused (steps_from m b (repeated x.steps l))
  pub sum : x.cycles ≡ cycles_of_all (steps_from m b (repeated x.steps l))
  pub machine : o.machine ≡ last_machine m (steps_from m b (repeated x.steps l))
  pub bus : o.bus ≡ last_bus b (steps_from m b (repeated x.steps l))

abbrev pub SumFixesSteps : Type 0
SumFixesSteps =
    (m : Machine) (b : Bus) (l : Lines) (n k : ℕ) →
    Unrefused (steps_from m b (repeated n l)) →
    Unrefused (steps_from m b (repeated k l)) →
    cycles_of_all (steps_from m b (repeated n l)) ≡ cycles_of_all (steps_from m b (repeated k l)) →
    n ≡ k

abbrev pub MakesItsSteps : Type 0
MakesItsSteps =
    (m : Machine) (b : Bus) (l : Lines) (budget : ℕ) →
    UnlessRefused (Made m b l (run_of m b l budget)) (run_of m b l budget).answer

-- "Cycles stay below budget + 12."
abbrev pub CyclesBelow : Type 0
CyclesBelow =
    (m : Machine) (b : Bus) (l : Lines) (budget : ℕ) →
    UnlessRefused (λ x. x.cycles < budget + 12) (run_of m b l budget).answer

-- the cause is halted exactly if the machine is halted, and unspecified exactly if it is not and the step from there is refused by 3
pub record CauseSays (l : Lines) (o : RunOutcome) (x : RunDone) : Type 0 where
  pub halted : x.cause ≡ cause_number Halted ↔ o.machine.running.halted ≡ true
  pub unspecified :
      x.cause ≡ cause_number Unspecified
      ↔ ((o.machine.running.halted ≡ false) × (meets_unspecified (step_of o.machine o.bus l).answer ≡ true))

abbrev pub CauseIsRight : Type 0
CauseIsRight =
    (m : Machine) (b : Bus) (l : Lines) (budget : ℕ) →
    UnlessRefused (CauseSays l (run_of m b l budget)) (run_of m b l budget).answer

-- a run that its budget ended has spent it
abbrev pub BudgetIsSpent : Type 0
BudgetIsSpent =
    (m : Machine) (b : Bus) (l : Lines) (budget : ℕ) →
    UnlessRefused (λ x. x.cause ≡ cause_number Budget → budget ≤ x.cycles) (run_of m b l budget).answer

-- a run of budget 0 changes nothing
abbrev pub NoBudgetNoChange : Type 0
NoBudgetNoChange =
    (m : Machine) (b : Bus) (l : Lines) → ((run_of m b l 0).machine ≡ m) × ((run_of m b l 0).bus ≡ b)
