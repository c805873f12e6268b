-- The C interface page, its table: what the calls of the wait meter answer and leave.
use Rattle.std.specs.Prelude.{ℕ, not, ◌||◌, List, [], ◌∷◌, ◌++◌, drop}
use Rattle.refusal.specs.Report.{Report, refused, answered}
use Rattle.memory.specs.Bus.{Bus}
use Rattle.meter.specs.Answer.{Answer, wait, over, halts, unspecified, Longest, no_wait, longest, Lowest, no_over, over_at, Named}
use Rattle.meter.specs.Meter.{wait_of, region_of, region_reached_of}
use Rattle.cp1610.specs.MapWords.{is_map}
use Rattle.cp1610.specs.Answers.{success_word}
use Rattle.cp1610.specs.Called.{items, Called, called, is_short, CallRule, by_report}

-- "kind 1 Wait (value = cycles), 2 Over, 3 Halts, 4 Unspecified (value = address)"
abbrev pub walked_word : Answer → ℕ
walked_word (wait cycles) = success_word 1 cycles
walked_word over = success_word 2 0
walked_word halts = success_word 3 0
walked_word (unspecified address) = success_word 4 address

abbrev pub wait_word : Report Answer → ℕ
wait_word (refused n) = n
wait_word (answered a) = walked_word a

-- document 01's wait meter for an address: nothing is written
unfoldable pub wait_call : List ℕ → Bus → ℕ → ℕ → CallRule Answer
wait_call map b address limit =
    record {
      short = not (is_map map);
      before = [];
      report = wait_of b address limit;
      success = λ a. called (walked_word a) [];
    }

-- "out = has wait, longest, its start, has over, over start (0 where there is none)"
abbrev pub region_length : ℕ
region_length = 5

abbrev pub longest_words : Longest → List ℕ
longest_words no_wait = 0 ∷ 0 ∷ 0 ∷ []
longest_words (longest cycles start) = 1 ∷ cycles ∷ start ∷ []

abbrev pub lowest_words : Lowest → List ℕ
lowest_words no_over = 0 ∷ 0 ∷ []
lowest_words (over_at start) = 1 ∷ start ∷ []

-- `out` after a region was metered: "the items past what is named stay"
unfoldable pub region_words : List ℕ → Longest → Lowest → List ℕ
region_words out l o = longest_words l ++ lowest_words o ++ drop region_length out

-- what a region names, as the caller sees it: "kind 1"
abbrev pub named_success : List ℕ → Named → Called
named_success out n = called (success_word 1 0) (items (region_words out n.longest_wait n.lowest_over) ∷ [])

-- .. by a report
abbrev pub named_answer : List ℕ → Report Named → Called
named_answer out report = by_report (items out ∷ []) (named_success out) report

abbrev pub named_call : List ℕ → List ℕ → Report Named → CallRule Named
named_call map out report =
    record {
      short = is_short region_length out || not (is_map map);
      before = items out ∷ [];
      report = report;
      success = named_success out;
    }

-- document 01's wait meter for a region
unfoldable pub region_call : List ℕ → Bus → ℕ → ℕ → ℕ → List ℕ → CallRule Named
region_call map b first last limit out = named_call map out (region_of b first last limit)

-- document 02's second mode of it
unfoldable pub region_reached_call : List ℕ → Bus → ℕ → ℕ → ℕ → List ℕ → List ℕ → List ℕ → CallRule Named
region_reached_call map b first last limit clear set out = named_call map out (region_reached_of b first last limit clear set)
