-- The code's loop: it goes by what each step answers. `proofs/LoopLaws` equates it with the run and with one step.
use Rattle.std.specs.Prelude.{ℕ, zero, suc, ◌+◌, ◌-◌, cond, List, eqb, ltb}
use Rattle.memory.specs.declared.map.Board.{Board}
use Rattle.memory.specs.Bus.{Bus, bus_on}
use Rattle.cpu.specs.declared.Lines.{Lines}
use Rattle.cpu.specs.declared.NearStep.{NearStep}
use Rattle.cpu.specs.Machine.{Machine, machine_of}
use Rattle.cpu.specs.Answer.{done, step_report, cycles_of}
use Rattle.cpu.specs.Step.{Outcome, admitted_step}
use Rattle.run.specs.declared.Stop.{Stop}

-- where the loop stopped
pub record LoopEnd : Type 0 where
  pub steps : ℕ
  pub cycles : ℕ
  pub left : Outcome

abbrev pub stop : ℕ → ℕ → Outcome → LoopEnd
stop steps cycles o = record { steps = steps; cycles = cycles; left = o }

-- the end that the code's place and the memory at its return, on a board, stand for
abbrev pub loop_end : Board → Stop → List ℕ → LoopEnd
loop_end b x m = stop x.steps x.cycles (record { machine = machine_of x.state; answer = step_report x.answer; bus = bus_on b m })

-- the code's place, from what the last step left
abbrev pub stopped_of : NearStep → ℕ → ℕ → Stop
stopped_of x steps cycles = record { state = x.state; steps = steps; cycles = cycles; answer = x.answer }

-- what is left before the first step
abbrev pub unstepped : Machine → Bus → Outcome
unstepped m b = record { machine = m; answer = done 3 0; bus = b }

-- at most `turns` turns, from what the last step left
unfoldable pub loop_from : ℕ → Lines → ℕ → ℕ → ℕ → Outcome → LoopEnd
loop_from zero l budget steps cycles o = stop steps cycles o
loop_from (suc turns) l budget steps cycles o =
    let next : Outcome = admitted_step o.machine o.bus l in
    cond (ltb cycles budget)
    (cond (eqb (cycles_of next.answer) 0) (stop steps cycles next)
    (loop_from turns l budget (steps + 1) (cycles + cycles_of next.answer) next))
    (stop steps cycles o)

-- a turn adds a cycle or more, so that this many turns do not run out
unfoldable pub loop_on : Lines → ℕ → ℕ → ℕ → Outcome → LoopEnd
loop_on l budget steps cycles o = loop_from (budget - cycles) l budget steps cycles o

unfoldable pub loop_of : Machine → Bus → Lines → ℕ → LoopEnd
loop_of m b l budget = loop_on l budget 0 0 (unstepped m b)
