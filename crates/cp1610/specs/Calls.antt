-- Every call of the C interface in one type, with all that it leaves, and what a refused one leaves.
use Rattle.std.specs.Prelude.{ℕ, ◌≡◌, true, List, [], ◌∷◌}
use Rattle.cp1610.specs.MapWords.{on_map}
use Rattle.cp1610.specs.Answers.{is_refusal}
use Rattle.cp1610.specs.Called.{Lent, items, memory, Called, call_by}
use Rattle.cp1610.specs.Call.{reset_call, step_call, run_call}
use Rattle.cp1610.specs.MeterCall.{wait_call, region_call, region_reached_call}
use Rattle.cp1610.specs.ListingCall.{list_call, assemble_call}
use Rattle.cp1610.specs.ImageCall.{load_call, write_call}
use Rattle.cp1610.specs.PairCall.{load_pair_call, write_pair_call}
use Rattle.cp1610.specs.ReachCall.{reach_call}

-- the functions of the table, with their arguments in its order
pub data Call : Type 0 where
  cp1610_reset : (state : List ℕ) → Call
  cp1610_step : (state mem map : List ℕ) (lines : ℕ) → Call
  cp1610_run : (state mem map : List ℕ) (lines budget : ℕ) (out : List ℕ) → Call
  cp1610_wait : (mem map : List ℕ) (address limit : ℕ) → Call
  cp1610_region : (mem map : List ℕ) (first last limit : ℕ) (out : List ℕ) → Call
  cp1610_list : (mem map : List ℕ) (address d : ℕ) (text out : List ℕ) → Call
  cp1610_assemble : (line : List ℕ) (d : ℕ) (words : List ℕ) → Call
  cp1610_load : (board : ℕ) (mem file : List ℕ) → Call
  cp1610_write : (board : ℕ) (mem : List ℕ) (first last : ℕ) (room : List ℕ) → Call
  cp1610_load_pair : (mem bin cfg : List ℕ) → Call
  cp1610_write_pair : (mem : List ℕ) (first last : ℕ) (bin cfg out : List ℕ) → Call
  -- the last two are what a success leaves in `clear` and `set`
  cp1610_reach : (mem map entries clear set out clear' set' : List ℕ) → Call
  cp1610_region_reached : (mem map : List ℕ) (first last limit : ℕ) (clear set out : List ℕ) → Call

-- all that it leaves: each function's contract says that it leaves this. What decodes sees the caller's words on the board of its map; the calls of
-- files see the words.
abbrev pub call_of : Call → Called
call_of (cp1610_reset state) = call_by (reset_call state)
call_of (cp1610_step state mem map lines) = call_by (step_call state map (on_map map mem) lines)
call_of (cp1610_run state mem map lines budget out) = call_by (run_call state map (on_map map mem) lines budget out)
call_of (cp1610_wait mem map address limit) = call_by (wait_call map (on_map map mem) address limit)
call_of (cp1610_region mem map first last limit out) = call_by (region_call map (on_map map mem) first last limit out)
call_of (cp1610_list mem map address d text out) = call_by (list_call map (on_map map mem) address d text out)
call_of (cp1610_assemble line d words) = call_by (assemble_call line d words)
call_of (cp1610_load board mem file) = call_by (load_call board mem file)
call_of (cp1610_write board mem first last room) = call_by (write_call board mem first last room)
call_of (cp1610_load_pair mem bin cfg) = call_by (load_pair_call mem bin cfg)
call_of (cp1610_write_pair mem first last bin cfg out) = call_by (write_pair_call mem first last bin cfg out)
call_of (cp1610_reach mem map entries clear set out clear' set') = call_by (reach_call map (on_map map mem) entries clear set out clear' set')
call_of (cp1610_region_reached mem map first last limit clear set out) = call_by (region_reached_call map (on_map map mem) first last limit clear set out)

-- the table's arguments that are marked `mut`
abbrev pub lent_to : Call → List Lent
lent_to (cp1610_reset state) = items state ∷ []
lent_to (cp1610_step state mem map lines) = items state ∷ memory (on_map map mem) ∷ []
lent_to (cp1610_run state mem map lines budget out) = items state ∷ memory (on_map map mem) ∷ items out ∷ []
lent_to (cp1610_wait mem map address limit) = []
lent_to (cp1610_region mem map first last limit out) = items out ∷ []
lent_to (cp1610_list mem map address d text out) = items text ∷ items out ∷ []
lent_to (cp1610_assemble line d words) = items words ∷ []
lent_to (cp1610_load board mem file) = items mem ∷ []
lent_to (cp1610_write board mem first last room) = items room ∷ []
lent_to (cp1610_load_pair mem bin cfg) = items mem ∷ []
lent_to (cp1610_write_pair mem first last bin cfg out) = items bin ∷ items cfg ∷ items out ∷ []
lent_to (cp1610_reach mem map entries clear set out clear' set') = items clear ∷ items set ∷ items out ∷ []
lent_to (cp1610_region_reached mem map first last limit clear set out) = items out ∷ []

-- "A refused call alters nothing at all: not the state, its words 8 to 17 included, not memory, not `out`, not `text`, not `words`,
-- not the room."
abbrev pub RefusedAltersNothing : Type 0
RefusedAltersNothing = (c : Call) → is_refusal (call_of c).result ≡ true → (call_of c).lent ≡ lent_to c
