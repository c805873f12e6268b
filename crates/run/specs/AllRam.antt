-- Document 02, [1]: "An all-RAM map (one 16-bit range over all addresses) equals today's behaviour on every input": of a run. Today's is the same
-- definition on lent words that are reached plainly.
use Rattle.std.specs.Prelude.{ℕ, ◌≡◌, List}
use Rattle.memory.specs.declared.map.Board.{Board}
use Rattle.memory.specs.Bus.{bus_of, on_board, bus_on}
use Rattle.memory.specs.Laws.{AllRam}
use Rattle.cpu.specs.declared.Lines.{Lines}
use Rattle.cpu.specs.Machine.{Machine}
use Rattle.run.specs.Run.{RunOutcome, run_of}

-- what a run leaves, with the same words on a board
abbrev pub run_outcome_on : Board → RunOutcome → RunOutcome
run_outcome_on b o = record { machine = o.machine; answer = o.answer; bus = on_board b o.bus }

abbrev pub AllRamRuns : Type 0
AllRamRuns =
    (b : Board) →
    AllRam b →
    (m : Machine) (words : List ℕ) (l : Lines) (budget : ℕ) →
    run_of m (bus_on b words) l budget ≡ run_outcome_on b (run_of m (bus_of words) l budget)
