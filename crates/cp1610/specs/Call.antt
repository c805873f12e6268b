-- The C interface page, its table: what the calls of the processor answer and leave. b is the bus of the caller's words on the board of its map.
use Rattle.std.specs.Prelude.{ℕ, not, ◌||◌, List, [], ◌∷◌}
use Rattle.refusal.specs.Report.{answered}
use Rattle.memory.specs.Bus.{Bus}
use Rattle.cpu.specs.Machine.{Machine, reset_machine}
use Rattle.cpu.specs.Answer.{StepDone}
use Rattle.cpu.specs.Step.{Outcome, step_of}
use Rattle.run.specs.Run.{RunDone, RunOutcome, run_of}
use Rattle.cp1610.specs.Words.{state_length, unpacked, packed, lines_of}
use Rattle.cp1610.specs.MapWords.{is_map}
use Rattle.cp1610.specs.Answers.{success_word, run_length, run_words}
use Rattle.cp1610.specs.Called.{items, memory, called, is_short, CallRule}

-- document 01's reset, "kind 1"
unfoldable pub reset_call : List ℕ → CallRule Machine
reset_call words =
    record {
      short = is_short state_length words;
      before = items words ∷ [];
      report = answered reset_machine;
      success = λ m. called (success_word 1 0) (items (packed words m) ∷ []);
    }

-- the outcome of a step as the caller sees it: "kind 3 grant, 4 interrupt, 5 instruction; value = cycles"
abbrev pub stepped_call : List ℕ → List ℕ → Bus → Outcome → CallRule StepDone
stepped_call words map b o =
    record {
      short = is_short state_length words || not (is_map map);
      before = items words ∷ memory b ∷ [];
      report = o.answer;
      success = λ x. called (success_word x.kind x.cycles) (items (packed words o.machine) ∷ memory o.bus ∷ []);
    }

-- document 01's step of the machine that the words stand for, with the lines that the number stands for
unfoldable pub step_call : List ℕ → List ℕ → Bus → ℕ → CallRule StepDone
step_call words map b lines = stepped_call words map b (step_of (unpacked words) b (lines_of lines))

-- the outcome of a run as the caller sees it: "kind 1; out = steps, cycles, cause"
abbrev pub ran_call : List ℕ → List ℕ → Bus → List ℕ → RunOutcome → CallRule RunDone
ran_call words map b out o =
    record {
      short = is_short state_length words || (is_short run_length out || not (is_map map));
      before = items words ∷ memory b ∷ items out ∷ [];
      report = o.answer;
      success = λ x. called (success_word 1 0) (items (packed words o.machine) ∷ memory o.bus ∷ items (run_words out x) ∷ []);
    }

-- document 01's run, likewise
unfoldable pub run_call : List ℕ → List ℕ → Bus → ℕ → ℕ → List ℕ → CallRule RunDone
run_call words map b lines budget out = ran_call words map b out (run_of (unpacked words) b (lines_of lines) budget)
