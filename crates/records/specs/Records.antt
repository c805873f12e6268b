-- A record is an address and words. Document 01 puts each into memory from its address on.
use Rattle.std.specs.Prelude.{ℕ, ◌+◌, Bool, true, false, cond, List, [], ◌∷◌, ◌++◌, leb, length, take, drop}

-- a record's words, and the address of the first of them
pub record Record : Type 0 where
  pub address : ℕ
  pub words : List ℕ

abbrev pub record_over : ℕ → List ℕ → Record
record_over address words = record { address = address; words = words }

-- "11: record or written region past the lent memory": so many words from an address on lie within a memory of len words. The address
-- wraps nowhere, so that two words at $FFFF are past every memory; exactly full is within.
abbrev pub is_within : ℕ → ℕ → ℕ → Bool
is_within len address count = leb (address + count) len

-- every record of a list lies within
abbrev pub all_within : ℕ → List Record → Bool
all_within len [] = true
all_within len (r ∷ rs) = cond (is_within len r.address (length r.words)) (all_within len rs) false

-- xs in the place of what stands in d from index a on; all else stays
unfoldable pub overwrite : List ℕ → ℕ → List ℕ → List ℕ
overwrite d a xs = take a d ++ xs ++ drop (a + length xs) d

-- what memory holds after the records, put there one after the other: "Later words win."
abbrev pub placed : List ℕ → List Record → List ℕ
placed m [] = m
placed m (r ∷ rs) = placed (overwrite m r.address r.words) rs
