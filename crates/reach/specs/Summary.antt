-- Document 02, [4]: "a summary of how many addresses are in it, each once", and of the rows that write R7 "the last kind's addresses are counted,
-- each once, and the lowest, or none, named".
use Rattle.std.specs.Prelude.{ℕ, Bool, true, false, ◌&&◌, ◌||◌, List}
use Rattle.bitset.specs.Bits.{contains, in_either, count_below, LowestOrNone, lowest_below}
use Rattle.reach.specs.declared.Node.{Node}
use Rattle.reach.specs.Ways.{node_at, writes_at}

-- a node is in the buffer of its D, and the row there writes R7
unfoldable pub writes_in : (ℕ → ℕ) → List ℕ → Node → Bool
writes_in read words n = contains words n.address && writes_at read n

-- the same of an address: with D clear, or with D set
unfoldable pub is_writer : (ℕ → ℕ) → List ℕ → List ℕ → ℕ → Bool
is_writer read clear set a = writes_in read clear (node_at a false) || writes_in read set (node_at a true)

pub record SetSummary : Type 0 where
  pub addresses : ℕ
  pub writers : ℕ
  pub lowest_writer : LowestOrNone

-- the summary of two buffers
unfoldable pub summary_of : (ℕ → ℕ) → List ℕ → List ℕ → SetSummary
summary_of read clear set =
    record {
      addresses = count_below (in_either clear set) 65536;
      writers = count_below (is_writer read clear set) 65536;
      lowest_writer = lowest_below (is_writer read clear set) 65536;
    }
