-- Document 02's own line, `$0000 - $0FFF = $5000`, and small pairs: what is taken, refused and put back. So the premises of the laws of pairs
-- can be met, and each of the refusals is given. They hold by computing the definitions.
use Rattle.std.specs.Prelude.{ℕ, ◌≡◌, List, [], ◌∷◌, ◌++◌, replicate}
use Rattle.refusal.specs.Report.{refused, answered}
use Rattle.text.specs.Text.{codes}
use Rattle.pair.specs.declared.line.Mapping.{Mapping}
use Rattle.pair.specs.Format.{mapping_line}
use Rattle.pair.specs.Load.{load_pair_of}
use Rattle.pair.specs.Laws.{GoodText, WrittenPair}

abbrev pub document_mapping : Mapping
document_mapping = record { first = 0x0000; last = 0x0FFF; target = 0x5000 }

-- two words of a flat file, of which one line takes the second and a later one both
abbrev pub example_bin : List ℕ
example_bin = 0x12 ∷ 0x34 ∷ 0x56 ∷ 0x78 ∷ []

abbrev pub example_cfg : List ℕ
example_cfg = codes "[mapping]\n\n$0001 - $0001 = $0003\n$0000 - $0001 = $0002\n"

abbrev pub written_cfg : List ℕ
written_cfg = codes "[mapping]\n$0000 - $0001 = $0002\n"

abbrev pub zero_memory : List ℕ
zero_memory = replicate 4 0

abbrev pub loaded_memory : List ℕ
loaded_memory = replicate 2 0 ++ (0x1234 ∷ 0x5678 ∷ [])

pub record DocumentPair : Type 0 where
  pub line : mapping_line document_mapping ≡ codes "$0000 - $0FFF = $5000\n"
  -- an empty line, and two mappings of which the later one wins
  pub good : GoodText example_cfg
  pub loaded : load_pair_of zero_memory example_bin example_cfg ≡ record { answer = answered 2; memory = loaded_memory }
  -- "only `[mapping]` first", and no line
  pub no_line : load_pair_of zero_memory [] (codes "[mapping]\n") ≡ record { answer = answered 0; memory = zero_memory }
  -- the pair of the words at 2 and 3
  pub written : WrittenPair loaded_memory 2 3 example_bin written_cfg
  pub lower_case : load_pair_of zero_memory example_bin (codes "[mapping]\n$000a - $000A = $0002\n") ≡ record { answer = refused 15; memory = zero_memory }
  pub above : load_pair_of zero_memory example_bin (codes "[mapping]\n$0001 - $0000 = $0002\n") ≡ record { answer = refused 15; memory = zero_memory }
  pub odd : load_pair_of zero_memory (0x12 ∷ []) (codes "[mapping]\n") ≡ record { answer = refused 16; memory = zero_memory }
  -- 15 in a later line, and 16 in a later one, are given before what an earlier line offends by
  pub malformed_first : load_pair_of zero_memory [] (codes "[mapping]\n$0000 - $0001 = $0002\n\r\n") ≡ record { answer = refused 15; memory = zero_memory }
  pub missing_first :
      load_pair_of zero_memory example_bin (codes "[mapping]\n$0000 - $0001 = $0003\n$0000 - $0002 = $0000\n")
      ≡ record { answer = refused 16; memory = zero_memory }
  pub past : load_pair_of zero_memory example_bin (codes "[mapping]\n$0000 - $0001 = $0003\n") ≡ record { answer = refused 11; memory = zero_memory }
