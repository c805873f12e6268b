-- Document 02, [3]: pairs and images say the same. "What is read goes into memory as the loader's result does."
use Rattle.std.specs.Prelude.{ℕ, ◌≡◌, ◌⊎◌, List, [], ◌∷◌}
use Rattle.refusal.specs.Report.{refused}
use Rattle.text.specs.Text.{codes}
use Rattle.records.specs.Loading.{LoadedAlike}
use Rattle.image.specs.Format.{record_limit, id_head}
use Rattle.image.specs.Load.{load_of}
use Rattle.image.specs.Laws.{WrittenFile}
use Rattle.image.specs.Examples.{example_file, example_memory}
use Rattle.pair.specs.Load.{load_pair_of}
use Rattle.pair.specs.Laws.{WrittenPair}

-- the pair and the image of one region, loaded into one memory, the image for its own board: equal memory, or refused alike, by 1 or 11. The
-- numbers of records and of mapping lines may differ.
pub record SaysTheSame (board : ℕ) (image file text n : List ℕ) : Type 0 where
  pub alike : LoadedAlike (load_of board n image) (load_pair_of n file text)
  pub refusals : (r : ℕ) → (load_pair_of n file text).answer ≡ refused r → (r ≡ 1) ⊎ (r ≡ 11)

abbrev pub PairIsImage : Type 0
PairIsImage =
    (board : ℕ) (m : List ℕ) (first last : ℕ) (image file text : List ℕ) →
    WrittenFile (id_head board) record_limit m first last image →
    WrittenPair m first last file text →
    (n : List ℕ) →
    SaysTheSame board image file text n

-- both premises can be met at once: document 01's example file, and the pair of the same region
pub record BothWritten : Type 0 where
  pub image : WrittenFile (id_head 2) record_limit example_memory 0x0010 0x0010 example_file
  pub pair : WrittenPair example_memory 0x0010 0x0010 (0x00 ∷ 0x34 ∷ []) (codes "[mapping]\n$0000 - $0000 = $0010\n")
