-- Document 02, [4]: the set of reached addresses. The call answers by `reach_of`, and leaves in the two lent buffers what `LeavesSet` says.
use Rattle.std.specs.Prelude.{ℕ, ◌≡◌, true, false, cond, ◌||◌, List, ◌↔◌, ltb, length}
use Rattle.refusal.specs.declared.Refusal.TheVariants.{TooManyEntries, WrongSetLength}
use Rattle.refusal.specs.Refusals.{refusal_number}
use Rattle.refusal.specs.Report.{Report, refused, answered}
use Rattle.memory.specs.Bus.{Bus, read_of, admission_of, unless_barred}
use Rattle.bitset.specs.Bits.{contains, is_wrong_length, SetBuffer}
use Rattle.reach.specs.declared.Node.{Node}
use Rattle.reach.specs.Ways.{node_at, successors}
use Rattle.reach.specs.Paths.{Reached}
use Rattle.reach.specs.Summary.{SetSummary, summary_of}

-- "The set is two lent buffers, reached with D clear and with D set .. An address is in a buffer exactly if such a path leads there with that D over
-- unchanged memory." `ReachedSetIsOne` of `Laws`: one pair of buffers alone meets this.
pub record ReachedSet (next : Node → List Node) (entries clear set : List ℕ) : Type 0 where
  pub clear_buffer : SetBuffer clear
  pub set_buffer : SetBuffer set
  pub in_clear : (a : ℕ) → (contains clear a ≡ true) ↔ Reached next entries (node_at a false)
  pub in_set : (a : ℕ) → (contains set a ≡ true) ↔ Reached next entries (node_at a true)

-- "from up to 16 entry points"
abbrev pub most_entries : ℕ
most_entries = 16

-- What the call answers: refusals 1, 14, 17 and 18, and else the summary of the buffers as they are left. The first two lists of words are the buffers
-- that are lent, the last two what is left in them.
unfoldable pub reach_of : Bus → List ℕ → List ℕ → List ℕ → List ℕ → List ℕ → Report SetSummary
reach_of b entries clear set clear' set' =
    unless_barred (admission_of b) (λ r. refused (refusal_number r))
    (cond (ltb most_entries (length entries)) (refused (refusal_number TooManyEntries))
    (cond (is_wrong_length clear || is_wrong_length set) (refused (refusal_number WrongSetLength))
    (answered (summary_of (read_of b) clear' set'))))

-- a refused call leaves both buffers as they were
pub record Unmoved (clear set clear' set' : List ℕ) : Type 0 where
  pub clear_is : clear' ≡ clear
  pub set_is : set' ≡ set

-- what the call leaves in the buffers, by what it answers
abbrev pub LeavesSet : Bus → List ℕ → List ℕ → List ℕ → List ℕ → List ℕ → Report SetSummary → Type 0
LeavesSet b entries clear set clear' set' (refused n) = Unmoved clear set clear' set'
LeavesSet b entries clear set clear' set' (answered s) = ReachedSet (successors (read_of b)) entries clear' set'

pub record Reaches (b : Bus) (entries clear set clear' set' : List ℕ) (r : Report SetSummary) : Type 0 where
  pub answer : r ≡ reach_of b entries clear set clear' set'
  pub left : LeavesSet b entries clear set clear' set' r
