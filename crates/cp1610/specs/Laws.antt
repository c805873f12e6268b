-- What a caller in C reads from the calls: what document 01's definitions answer. Proved in `proofs/AnswerLaws`, `proofs/ReadLaws`,
-- `proofs/StepsLaws` and `proofs/LimitLaws`; `Calls` has what holds of every refused call.
use Rattle.std.specs.Prelude.{ℕ, ◌≤◌, ◌≡◌, true, List, [], ◌∷◌, map as each, length, take, drop, replicate}
use Rattle.refusal.specs.Report.{UnlessRefused}
use Rattle.memory.specs.Bus.{Bus, read_of}
use Rattle.memory.specs.Laws.{AllRam}
use Rattle.cpu.specs.Machine.{Machine}
use Rattle.cpu.specs.Steps.{StepMade, steps_from}
use Rattle.listing.specs.Answer.{ListedLine}
use Rattle.listing.specs.Disassemble.{text_at, Disassembly}
use Rattle.cp1610.specs.Words.{state_length, is_set, unpacked, packed, lines_of}
use Rattle.cp1610.specs.MapWords.{board_of, is_map, on_map, all_ram_words}
use Rattle.cp1610.specs.Called.{Called, call_by}
use Rattle.cp1610.specs.Answers.{run_length}
use Rattle.cp1610.specs.Call.{step_call}
use Rattle.cp1610.specs.MeterCall.{region_length}
use Rattle.cp1610.specs.ListingCall.{line_words, list_length}
use Rattle.cp1610.specs.PairCall.{pair_length}
use Rattle.cp1610.specs.ReachCall.{reach_length, HoldsSet}
use Rattle.cp1610.specs.Calls.{
  Call,
  cp1610_reset,
  cp1610_step,
  cp1610_run,
  cp1610_wait,
  cp1610_region,
  cp1610_list,
  cp1610_assemble,
  cp1610_write_pair,
  cp1610_reach,
  cp1610_region_reached,
  call_of,
}
use Rattle.cp1610.specs.Read.{items_in, memory_in, read_step, read_listing, answer_to, read_back, WellLent}

-- unpacking what was packed gives the machine back; it has eight registers, as every state's array has
abbrev pub UnpacksPacked : Type 0
UnpacksPacked = (words : List ℕ) (m : Machine) → length m.registers ≡ 8 → unpacked (packed words m) ≡ m

-- "A buffer longer than the table says is taken; the items past what is named stay."
pub record KeepsRest (words : List ℕ) (m : Machine) : Type 0 where
  pub rest : drop state_length (packed words m) ≡ drop state_length words
  pub size : state_length ≤ length words → length (packed words m) ≡ length words

-- what a caller reads from any call is document 01's answer: nothing of it is lost on the way
abbrev pub ReadsTheAnswer : Type 0
ReadsTheAnswer = (c : Call) → WellLent c → read_back c (call_of c) ≡ answer_to c

-- a line's text is the first bytes of its room, as many as `out` says
abbrev pub HasText : List ℕ → Disassembly → Type 0
HasText line x = UnlessRefused (λ (l : ListedLine). take l.length x.room ≡ line) x.answer

abbrev pub ReadsTheText : Type 0
ReadsTheText =
    (mem map : List ℕ) (address d : ℕ) (text out : List ℕ) →
    WellLent (cp1610_list mem map address d text out) →
    HasText (text_at (read_of (on_map map mem)) address (is_set d)) (read_listing (call_of (cp1610_list mem map address d text out)))

-- document 02, [5]: "A limit of 0 should mean 48." A call of the wait meter answers and leaves the same at both.
pub record CallsAtZero : Type 0 where
  pub wait : (mem map : List ℕ) (address : ℕ) → call_of (cp1610_wait mem map address 0) ≡ call_of (cp1610_wait mem map address 48)
  pub region : (mem map : List ℕ) (first last : ℕ) (out : List ℕ) → call_of (cp1610_region mem map first last 0 out) ≡ call_of (cp1610_region mem map first last 48 out)
  pub region_reached :
      (mem map : List ℕ) (first last : ℕ) (clear set out : List ℕ) →
      call_of (cp1610_region_reached mem map first last 0 clear set out) ≡ call_of (cp1610_region_reached mem map first last 48 clear set out)

-- the header's map of one 16-bit range over all addresses is a map, and an all-RAM board's
pub record HeaderMap : Type 0 where
  pub map_is : is_map all_ram_words ≡ true
  pub all-ram : AllRam (board_of all_ram_words)

-- the premise can be met: each function that has one, with the shortest buffers that are long enough and the map of no range
pub record ShortestAreWellLent : Type 0 where
  pub reset : WellLent (cp1610_reset (replicate state_length 0))
  pub step : (mem : List ℕ) (lines : ℕ) → WellLent (cp1610_step (replicate state_length 0) mem [] lines)
  pub run : (mem : List ℕ) (lines budget : ℕ) → WellLent (cp1610_run (replicate state_length 0) mem [] lines budget (replicate run_length 0))
  pub wait : (mem : List ℕ) (limit : ℕ) → WellLent (cp1610_wait mem [] 65535 limit)
  pub region : (mem : List ℕ) (first last limit : ℕ) → WellLent (cp1610_region mem [] first last limit (replicate region_length 0))
  pub list : (mem : List ℕ) (address d : ℕ) (text : List ℕ) → WellLent (cp1610_list mem [] address d text (replicate list_length 0))
  pub assemble : (line : List ℕ) (d : ℕ) → WellLent (cp1610_assemble line d (replicate line_words 0))
  pub write_pair : (mem : List ℕ) (first last : ℕ) (bin cfg : List ℕ) → WellLent (cp1610_write_pair mem first last bin cfg (replicate pair_length 0))
  pub reach : (mem entries clear set clear' set' : List ℕ) → WellLent (cp1610_reach mem [] entries clear set (replicate reach_length 0) clear' set')
  pub region_reached : (mem : List ℕ) (first last limit : ℕ) (clear set : List ℕ) → WellLent (cp1610_region_reached mem [] first last limit clear set (replicate region_length 0))

-- what `cp1610_reach` leaves is one thing, though its rule names the buffers as they are left: `HoldsSet` fixes them
abbrev pub ReachCallIsOne : Type 0
ReachCallIsOne =
    (mem map entries clear set out clear₁ set₁ clear₂ set₂ : List ℕ) →
    let c₁ : Called = call_of (cp1610_reach mem map entries clear set out clear₁ set₁) in
    let c₂ : Called = call_of (cp1610_reach mem map entries clear set out clear₂ set₂) in
    HoldsSet (on_map map mem) entries clear₁ set₁ c₁.result →
    HoldsSet (on_map map mem) entries clear₂ set₂ c₂.result →
    c₁ ≡ c₂

-- calls of a step one after the other with the same buffers, one for each of the numbers that stand for lines
unfoldable pub calls_from : List ℕ → List ℕ → Bus → List ℕ → List Called
calls_from words map b [] = []
calls_from words map b (n ∷ ns) =
    let c : Called = call_by (step_call words map b n) in
    c ∷ calls_from (items_in c 0) map (memory_in c 1) ns

-- a caller who keeps calling with one map makes the list of steps
abbrev pub CallsAreSteps : Type 0
CallsAreSteps =
    (words map : List ℕ) (b : Bus) (ns : List ℕ) →
    state_length ≤ length words →
    is_map map ≡ true →
    each read_step (calls_from words map b ns) ≡ each (λ (x : StepMade). x.left) (steps_from (unpacked words) b (each lines_of ns))
