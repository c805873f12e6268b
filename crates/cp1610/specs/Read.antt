-- How a caller reads what a call leaves, by the C interface page, and what document 01 answers to the call.
use Rattle.std.specs.Prelude.{ℕ, ◌-◌, ◌/◌, ◌%◌, ◌≤◌, ◌<◌, ◌≡◌, true, cond, List, [], eqb, length, get_or, take}
use Rattle.refusal.specs.Report.{Report, refused, answered}
use Rattle.memory.specs.Bus.{Bus, bus_of}
use Rattle.cpu.specs.Machine.{Machine, reset_machine}
use Rattle.cpu.specs.Answer.{StepDone}
use Rattle.cpu.specs.Step.{Outcome, step_of}
use Rattle.run.specs.Run.{RunDone, RunOutcome, run_of}
use Rattle.meter.specs.Answer.{Answer, wait, over, halts, unspecified, no_wait, longest, no_over, over_at, Named}
use Rattle.meter.specs.Meter.{wait_of, region_of, region_reached_of}
use Rattle.listing.specs.Answer.{ListedLine}
use Rattle.listing.specs.Disassemble.{Disassembly, disassemble_of}
use Rattle.listing.specs.Assemble.{assemble_of}
use Rattle.records.specs.Loading.{Loading}
use Rattle.image.specs.Load.{load_of}
use Rattle.image.specs.Write.{Writing, write_of}
use Rattle.pair.specs.Load.{load_pair_of}
use Rattle.pair.specs.Answer.{PairLengths}
use Rattle.pair.specs.Write.{PairWriting, write_pair_of}
use Rattle.bitset.specs.Bits.{none, lowest_at}
use Rattle.reach.specs.Summary.{SetSummary}
use Rattle.reach.specs.Reach.{reach_of}
use Rattle.cp1610.specs.Words.{state_length, is_set, unpacked, lines_of}
use Rattle.cp1610.specs.MapWords.{is_map, on_map}
use Rattle.cp1610.specs.Answers.{is_refusal, run_length}
use Rattle.cp1610.specs.Called.{Lent, items, memory, Called}
use Rattle.cp1610.specs.MeterCall.{region_length}
use Rattle.cp1610.specs.ListingCall.{line_words, list_length}
use Rattle.cp1610.specs.PairCall.{pair_length}
use Rattle.cp1610.specs.ReachCall.{reach_length}
use Rattle.cp1610.specs.Calls.{
  Call,
  cp1610_reset,
  cp1610_step,
  cp1610_run,
  cp1610_wait,
  cp1610_region,
  cp1610_list,
  cp1610_assemble,
  cp1610_load,
  cp1610_write,
  cp1610_load_pair,
  cp1610_write_pair,
  cp1610_reach,
  cp1610_region_reached,
}

-- the items and the bus of what is lent
abbrev pub items_of : Lent → List ℕ
items_of (items l) = l
items_of (memory b) = []

abbrev pub bus_in : Lent → Bus
bus_in (items l) = bus_of []
bus_in (memory b) = b

-- .. at a place, counted from 0, among the buffers that a call was lent
abbrev pub items_in : Called → ℕ → List ℕ
items_in c place = items_of (get_or c.lent place (items []))

abbrev pub memory_in : Called → ℕ → Bus
memory_in c place = bus_in (get_or c.lent place (items []))

-- "the high 32 bits are the kind, the low 32 the value"
abbrev pub kind_in : Called → ℕ
kind_in c = c.result / 0x100000000

abbrev pub value_in : Called → ℕ
value_in c = c.result % 0x100000000

-- "2^32 + number of records", "2^32 + length", "2^32 + number of mapping lines"
abbrev pub count_in : Called → ℕ
count_in c = c.result - 0x100000000

-- "A value below 2^32 is a refusal .. Any other value is a success", of which `read` reads the answer
abbrev pub read_report : {A : Type 0} → (Called → A) → Called → Report A
read_report read c = cond (is_refusal c.result) (refused c.result) (answered (read c))

-- the machine that the state's words stand for
abbrev pub read_machine : Called → Machine
read_machine c = unpacked (items_in c 0)

-- "kind 3 grant, 4 interrupt, 5 instruction; value = cycles"
abbrev pub read_step_done : Called → StepDone
read_step_done c = record { kind = kind_in c; cycles = value_in c }

abbrev pub read_step : Called → Outcome
read_step c = record { machine = read_machine c; answer = read_report read_step_done c; bus = memory_in c 1 }

-- "out = steps, cycles, cause"
abbrev pub read_run_done : Called → RunDone
read_run_done c =
    let out : ℕ → ℕ = λ n. get_or (items_in c 2) n 0 in
    record { steps = out 0; cycles = out 1; cause = out 2 }

abbrev pub read_run : Called → RunOutcome
read_run c = record { machine = read_machine c; answer = read_report read_run_done c; bus = memory_in c 1 }

-- "kind 1 Wait (value = cycles), 2 Over, 3 Halts, 4 Unspecified (value = address)"
abbrev pub read_walk : Called → Answer
read_walk c =
    cond (eqb (kind_in c) 1) (wait (value_in c))
    (cond (eqb (kind_in c) 2) over (cond (eqb (kind_in c) 3) halts (unspecified (value_in c))))

-- "out = has wait, longest, its start, has over, over start"
abbrev pub read_named : Called → Named
read_named c =
    let out : ℕ → ℕ = λ n. get_or (items_in c 0) n 0 in
    record {
      longest_wait = cond (is_set (out 0)) (longest (out 1) (out 2)) no_wait;
      lowest_over = cond (is_set (out 3)) (over_at (out 4)) no_over;
    }

-- "out = text length, words used, next D"
abbrev pub read_listed_line : Called → ListedLine
read_listed_line c =
    let out : ℕ → ℕ = λ n. get_or (items_in c 1) n 0 in
    record { length = out 0; words = out 1; double = is_set (out 2) }

abbrev pub read_listing : Called → Disassembly
read_listing c = record { answer = read_report read_listed_line c; room = items_in c 0 }

-- "value = count of words"
abbrev pub read_assembled : Called → List ℕ
read_assembled c = take (value_in c) (items_in c 0)

abbrev pub read_loading : Called → Loading
read_loading c = record { answer = read_report count_in c; memory = items_in c 0 }

abbrev pub read_writing : Called → Writing
read_writing c = record { answer = read_report count_in c; room = items_in c 0 }

-- "out = bytes of the flat file, bytes of the text"
abbrev pub read_pair_lengths : Called → PairLengths
read_pair_lengths c =
    let out : ℕ → ℕ = λ n. get_or (items_in c 2) n 0 in
    record { bin = out 0; cfg = out 1 }

abbrev pub read_pair_writing : Called → PairWriting
read_pair_writing c = record { answer = read_report read_pair_lengths c; bin = items_in c 0; cfg = items_in c 1 }

-- "out = addresses in the set, addresses, each once, of rows that write R7 and end a path, has a lowest of these, the lowest"
abbrev pub read_summary : Called → SetSummary
read_summary c =
    let out : ℕ → ℕ = λ n. get_or (items_in c 2) n 0 in
    record { addresses = out 0; writers = out 1; lowest_writer = cond (is_set (out 2)) (lowest_at (out 3)) none }

-- what document 01 answers to a call: of what type, and what
abbrev pub AnswerTo : Call → Type 0
AnswerTo (cp1610_reset state) = Report Machine
AnswerTo (cp1610_step state mem map lines) = Outcome
AnswerTo (cp1610_run state mem map lines budget out) = RunOutcome
AnswerTo (cp1610_wait mem map address limit) = Report Answer
AnswerTo (cp1610_region mem map first last limit out) = Report Named
AnswerTo (cp1610_list mem map address d text out) = Disassembly
AnswerTo (cp1610_assemble line d words) = Report (List ℕ)
AnswerTo (cp1610_load board mem file) = Loading
AnswerTo (cp1610_write board mem first last room) = Writing
AnswerTo (cp1610_load_pair mem bin cfg) = Loading
AnswerTo (cp1610_write_pair mem first last bin cfg out) = PairWriting
AnswerTo (cp1610_reach mem map entries clear set out clear' set') = Report SetSummary
AnswerTo (cp1610_region_reached mem map first last limit clear set out) = Report Named

abbrev pub answer_to : (c : Call) → AnswerTo c
answer_to (cp1610_reset state) = answered reset_machine
answer_to (cp1610_step state mem map lines) = step_of (unpacked state) (on_map map mem) (lines_of lines)
answer_to (cp1610_run state mem map lines budget out) = run_of (unpacked state) (on_map map mem) (lines_of lines) budget
answer_to (cp1610_wait mem map address limit) = wait_of (on_map map mem) address limit
answer_to (cp1610_region mem map first last limit out) = region_of (on_map map mem) first last limit
answer_to (cp1610_list mem map address d text out) = disassemble_of (on_map map mem) address (is_set d) text
answer_to (cp1610_assemble line d words) = assemble_of line (is_set d)
answer_to (cp1610_load board mem file) = load_of board mem file
answer_to (cp1610_write board mem first last room) = write_of board mem first last room
answer_to (cp1610_load_pair mem bin cfg) = load_pair_of mem bin cfg
answer_to (cp1610_write_pair mem first last bin cfg out) = write_pair_of mem first last bin cfg
answer_to (cp1610_reach mem map entries clear set out clear' set') = reach_of (on_map map mem) entries clear set clear' set'
answer_to (cp1610_region_reached mem map first last limit clear set out) = region_reached_of (on_map map mem) first last limit clear set

-- how a caller reads it
abbrev pub read_back : (c : Call) → Called → AnswerTo c
read_back (cp1610_reset state) = read_report read_machine
read_back (cp1610_step state mem map lines) = read_step
read_back (cp1610_run state mem map lines budget out) = read_run
read_back (cp1610_wait mem map address limit) = read_report read_walk
read_back (cp1610_region mem map first last limit out) = read_report read_named
read_back (cp1610_list mem map address d text out) = read_listing
read_back (cp1610_assemble line d words) = read_report read_assembled
read_back (cp1610_load board mem file) = read_loading
read_back (cp1610_write board mem first last room) = read_writing
read_back (cp1610_load_pair mem bin cfg) = read_loading
read_back (cp1610_write_pair mem first last bin cfg out) = read_pair_writing
read_back (cp1610_reach mem map entries clear set out clear' set') = read_report read_summary
read_back (cp1610_region_reached mem map first last limit clear set out) = read_report read_named

-- what a caller has to see to: buffers as long as the table says, and words that are a map; an address has 16 bits by its type
abbrev pub WellLent : Call → Type 0
WellLent (cp1610_reset state) = state_length ≤ length state
WellLent (cp1610_step state mem map lines) = (state_length ≤ length state) × (is_map map ≡ true)
WellLent (cp1610_run state mem map lines budget out) = (state_length ≤ length state) × (run_length ≤ length out) × (is_map map ≡ true)
WellLent (cp1610_wait mem map address limit) = (is_map map ≡ true) × (address < 65536)
WellLent (cp1610_region mem map first last limit out) = (region_length ≤ length out) × (is_map map ≡ true)
WellLent (cp1610_list mem map address d text out) = (list_length ≤ length out) × (is_map map ≡ true)
WellLent (cp1610_assemble line d words) = line_words ≤ length words
WellLent (cp1610_load board mem file) = Unit
WellLent (cp1610_write board mem first last room) = Unit
WellLent (cp1610_load_pair mem bin cfg) = Unit
WellLent (cp1610_write_pair mem first last bin cfg out) = pair_length ≤ length out
WellLent (cp1610_reach mem map entries clear set out clear' set') = (reach_length ≤ length out) × (is_map map ≡ true)
WellLent (cp1610_region_reached mem map first last limit clear set out) = (region_length ≤ length out) × (is_map map ≡ true)
