-- The words that the walk reads.
use Rattle.std.specs.Prelude.{ℕ, zero, suc, List, [], ◌∷◌}
use Rattle.decode.specs.Reads.{decoding_reads}
use Rattle.meter.specs.declared.walk.Place.{Place}
use Rattle.meter.specs.Walk.{start_at, turn_at, after_turn}

-- "the words that the walk reads are each instruction's opcode word and a jump's second word": those that decoding reads, of each
-- instruction of the walk in its order. The recursion is the walk's.
unfoldable pub reads_by : ℕ → (ℕ → ℕ) → ℕ → Place → List (List ℕ)
reads_by zero read limit p = []
reads_by (suc n) read limit p =
    decoding_reads read p.address ∷ after_turn (λ a. []) (reads_by n read limit) (turn_at read limit p)

-- from a place on; `ReadsEquation` of `Laws` has no count
unfoldable pub reads_on : (ℕ → ℕ) → ℕ → Place → List (List ℕ)
reads_on read limit p = reads_by (suc limit) read limit p

-- from an address
unfoldable pub reads_from : (ℕ → ℕ) → ℕ → ℕ → List (List ℕ)
reads_from read limit a = reads_on read limit (start_at a)
