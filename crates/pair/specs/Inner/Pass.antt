-- What the reader's two passes make of the lines. No public contract speaks of these.
use Rattle.std.specs.Prelude.{ℕ, max, ◌+◌, ◌≡◌, true, List, [], ◌∷◌, length, Result, Ok, Err}
use Rattle.refusal.specs.declared.Refusal.{Refusal}
use Rattle.refusal.specs.declared.Refusal.TheVariants.{MalformedMapping}
use Rattle.records.specs.Records.{all_within, placed}
use Rattle.records.specs.Region.{span_of}
use Rattle.pair.specs.declared.line.Mapping.{Mapping}
use Rattle.pair.specs.declared.check.Checked.{Checked}
use Rattle.pair.specs.Read.{Mappings, listed, malformed}
use Rattle.pair.specs.Load.{mapped_records, are_there}

-- the places behind a mapping's last word: in the flat file, and in memory
abbrev pub file_end : Mapping → ℕ
file_end m = m.last + 1

abbrev pub target_end : Mapping → ℕ
target_end m = m.target + span_of m.first m.last

-- .. and behind the last words of all, from such places on
abbrev pub file_ends : ℕ → List Mapping → ℕ
file_ends n [] = n
file_ends n (m ∷ ms) = file_ends (max n (file_end m)) ms

abbrev pub target_ends : ℕ → List Mapping → ℕ
target_ends n [] = n
target_ends n (m ∷ ms) = target_ends (max n (target_end m)) ms

-- what the first pass answers after so many mappings that reach so far, if the rest is such lines
abbrev pub gathered : ℕ → ℕ → ℕ → Mappings → Result Checked Refusal
gathered count words end (listed ms) =
    Ok (record { count = count + length ms; words = file_ends words ms; end = target_ends end ms })
gathered count words end malformed = Err MalformedMapping

-- the lines are good, the flat file has the words that they name, and what these words make lies within a memory of len words
abbrev pub Fits : List ℕ → ℕ → Mappings → Type 0
Fits words len (listed ms) = (are_there (length words) ms ≡ true) × (all_within len (mapped_records words ms) ≡ true)
Fits words len malformed = ⊥

-- the memory with what such lines put there
abbrev pub placed_mappings : List ℕ → List ℕ → Mappings → List ℕ
placed_mappings words m (listed ms) = placed m (mapped_records words ms)
placed_mappings words m malformed = m
