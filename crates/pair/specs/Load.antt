-- The reader of pairs: "tested 1, 15 over all lines, 16, 11 (targets too)". "What is read goes into memory as the loader's result does, later
-- lines winning; the answer is the number of mapping lines."
use Rattle.std.specs.Prelude.{ℕ, ◌/◌, ◌%◌, Bool, true, cond, ◌&&◌, List, [], ◌∷◌, eqb, ltb, length}
use Rattle.refusal.specs.declared.Refusal.TheVariants.{MemoryTooLong, PastMemory, MalformedMapping, MissingFileWords}
use Rattle.memory.specs.Memory.{too_long}
use Rattle.bigendian.specs.Numbers.{all_words}
use Rattle.records.specs.Records.{Record, record_over, all_within}
use Rattle.records.specs.Region.{words_between}
use Rattle.records.specs.Loading.{Loading, refuse_load, accept_load}
use Rattle.pair.specs.declared.line.Mapping.{Mapping}
use Rattle.pair.specs.Read.{Mappings, listed, malformed, mappings_of}

-- the records that a flat file's words make: "file word range, then target address"
abbrev pub mapped_records : List ℕ → List Mapping → List Record
mapped_records words [] = []
mapped_records words (m ∷ ms) = record_over m.target (words_between words m.first m.last) ∷ mapped_records words ms

-- the file words that these mappings name are among the n that there are
abbrev pub are_there : ℕ → List Mapping → Bool
are_there n [] = true
are_there n (m ∷ ms) = ltb m.last n && are_there n ms

-- "16, file words named that aren't there or an odd byte count"
abbrev pub has_its_words : List ℕ → List Mapping → Bool
has_its_words bin ms = eqb (length bin % 2) 0 && are_there (length bin / 2) ms

-- "11 (targets too)"
abbrev pub targets_tested : List ℕ → List Record → Loading
targets_tested m rs = cond (all_within (length m) rs) (accept_load m rs) (refuse_load m PastMemory)

-- each test is over all lines before the next one is made
abbrev pub lines_tested : List ℕ → List ℕ → Mappings → Loading
lines_tested m bin (listed ms) =
    cond (has_its_words bin ms) (targets_tested m (mapped_records (all_words bin) ms)) (refuse_load m MissingFileWords)
lines_tested m bin malformed = refuse_load m MalformedMapping

unfoldable pub load_pair_of : List ℕ → List ℕ → List ℕ → Loading
load_pair_of m bin cfg = cond (too_long m) (refuse_load m MemoryTooLong) (lines_tested m bin (mappings_of cfg))
