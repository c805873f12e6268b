-- The C interface page, its table: what building the reached set answers and leaves.
use Rattle.std.specs.Prelude.{ℕ, ◌≡◌, false, not, ◌||◌, List, [], ◌∷◌, ◌++◌, drop}
use Rattle.memory.specs.Bus.{Bus, read_of}
use Rattle.bitset.specs.Bits.{LowestOrNone, none, lowest_at}
use Rattle.reach.specs.Ways.{successors}
use Rattle.reach.specs.Summary.{SetSummary}
use Rattle.reach.specs.Reach.{ReachedSet, reach_of}
use Rattle.cp1610.specs.MapWords.{is_map}
use Rattle.cp1610.specs.Answers.{is_refusal, success_word}
use Rattle.cp1610.specs.Called.{items, called, is_short, CallRule}

-- "out = addresses in the set, addresses, each once, of rows that write R7 and end a path, has a lowest of these, the lowest (0 where there is none)"
abbrev pub reach_length : ℕ
reach_length = 4

abbrev pub lowest_writer_words : LowestOrNone → List ℕ
lowest_writer_words none = 0 ∷ 0 ∷ []
lowest_writer_words (lowest_at a) = 1 ∷ a ∷ []

unfoldable pub reach_words : List ℕ → SetSummary → List ℕ
reach_words out s = s.addresses ∷ s.writers ∷ (lowest_writer_words s.lowest_writer ++ drop reach_length out)

-- document 02's set; clear' and set' are what a success leaves in `clear` and `set`, and `HoldsSet` says what that is
unfoldable pub reach_call : List ℕ → Bus → List ℕ → List ℕ → List ℕ → List ℕ → List ℕ → List ℕ → CallRule SetSummary
reach_call map b entries clear set out clear' set' =
    record {
      short = is_short reach_length out || not (is_map map);
      before = items clear ∷ items set ∷ items out ∷ [];
      report = reach_of b entries clear set clear' set';
      success = λ s. called (success_word 1 0) (items clear' ∷ items set' ∷ items (reach_words out s) ∷ []);
    }

-- unless the call is refused, both buffers hold the reached set
abbrev pub HoldsSet : Bus → List ℕ → List ℕ → List ℕ → ℕ → Type 0
HoldsSet b entries clear' set' result = is_refusal result ≡ false → ReachedSet (successors (read_of b)) entries clear' set'
