-- What holds of records that lie within a memory, and of the records of a region. Statements; the proofs are in proofs/.
use Rattle.std.specs.Prelude.{ℕ, ◌+◌, ◌<◌, ◌≤◌, ◌≡◌, true, cond, List, [], ◌∷◌, ◌++◌, eqb, length, take, drop}
use Rattle.memory.specs.Memory.{peek_of}
use Rattle.records.specs.Records.{Record, record_over, is_within, all_within, overwrite, placed}
use Rattle.records.specs.Loading.{laying, LoadedAlike}
use Rattle.records.specs.Cut.{cut_of, record_count}

-- a record puts a word at the address a
abbrev pub Covers : Record → ℕ → Type 0
Covers r a = (r.address ≤ a) × (a < r.address + length r.words)

-- none of these does
abbrev pub Untouched : List Record → ℕ → Type 0
Untouched [] a = Unit
Untouched (r ∷ rs) a = (Covers r a → ⊥) × Untouched rs a

pub record PlacedLaws : Type 0 where
  -- records one after the other, in two lists
  pub in_turn : (m : List ℕ) (rs qs : List Record) → placed m (rs ++ qs) ≡ placed (placed m rs) qs
  pub keeps_length : (m : List ℕ) (rs : List Record) → all_within (length m) rs ≡ true → length (placed m rs) ≡ length m
  -- a word that no record is put over stays
  pub outside :
      (m : List ℕ) (rs : List Record) (a : ℕ) →
      all_within (length m) rs ≡ true →
      Untouched rs a →
      peek_of (placed m rs) a ≡ peek_of m a
  -- "Later words win": word j of a record is there afterwards, unless a later record is put over it
  pub later_wins :
      (m : List ℕ) (rs : List Record) (r : Record) (qs : List Record) (j : ℕ) →
      all_within (length m) (rs ++ r ∷ qs) ≡ true →
      j < length r.words →
      Untouched qs (r.address + j) →
      peek_of (placed m (rs ++ r ∷ qs)) (r.address + j) ≡ peek_of r.words j

-- every record has a word or more, and at most `limit`
abbrev pub Sized : ℕ → List Record → Type 0
Sized limit [] = Unit
Sized limit (r ∷ rs) = (0 < length r.words) × (length r.words ≤ limit) × Sized limit rs

-- words cut at any limit from 1 on
pub record CutLaws : Type 0 where
  -- the cut by its own rule: no words make no record, others a record of the first and then the rest's records
  pub equation :
      (limit a : ℕ) (ws : List ℕ) →
      0 < limit →
      cut_of limit a ws
      ≡ cond (eqb (length ws) 0) [] (record_over a (take limit ws) ∷ cut_of limit (a + length (take limit ws)) (drop limit ws))
  pub sized : (limit a : ℕ) (ws : List ℕ) → 0 < limit → Sized limit (cut_of limit a ws)
  pub count : (limit a : ℕ) (ws : List ℕ) → 0 < limit → length (cut_of limit a ws) ≡ record_count limit (length ws)
  -- the words lie within exactly where all their records do
  pub exactly :
      (limit a : ℕ) (ws : List ℕ) (len : ℕ) →
      0 < limit →
      0 < length ws →
      all_within len (cut_of limit a ws) ≡ is_within len a (length ws)
  -- where the words lie within, so do the records, and these leave what the words laid there at once would
  pub within :
      (limit a : ℕ) (ws : List ℕ) (len : ℕ) →
      0 < limit →
      is_within len a (length ws) ≡ true →
      all_within len (cut_of limit a ws) ≡ true
  pub laid :
      (limit a : ℕ) (ws m : List ℕ) →
      0 < limit →
      is_within (length m) a (length ws) ≡ true →
      placed m (cut_of limit a ws) ≡ overwrite m a ws

-- layings of the same words into the same memory come to the same, whatever the number of records
abbrev pub LayingsAlike : Type 0
LayingsAlike = (j k : ℕ) (n : List ℕ) (a : ℕ) (ws : List ℕ) → LoadedAlike (laying j n a ws) (laying k n a ws)
