-- Document 01, "Image records": its own example. It is written, loaded, refused for another board and refused once damaged; so the premises
-- of the laws of files can be met. They hold by computing the definitions.
use Rattle.std.specs.Prelude.{ℕ, ◌≡◌, List, [], ◌∷◌, ◌++◌, set, replicate}
use Rattle.refusal.specs.Report.{refused, answered}
use Rattle.records.specs.Records.{Record, record_over}
use Rattle.image.specs.Format.{record_limit, head_length, id_head}
use Rattle.image.specs.Read.{head_of}
use Rattle.image.specs.Load.{load_of}
use Rattle.image.specs.Laws.{WrittenFile, GoodFile, InWords}

-- "Example: `49 44 00 02 41 54 00 10 00 01 00 34 4F 4B 00 47`"
abbrev pub example_file : List ℕ
example_file =
    0x49 ∷ 0x44 ∷ 0x00 ∷ 0x02 ∷
    0x41 ∷ 0x54 ∷ 0x00 ∷ 0x10 ∷ 0x00 ∷ 0x01 ∷ 0x00 ∷ 0x34 ∷
    0x4F ∷ 0x4B ∷ 0x00 ∷ 0x47 ∷
    []

-- NOP at $0010, in a memory that it just fills
abbrev pub example_records : List Record
example_records = record_over 0x0010 (0x0034 ∷ []) ∷ []

abbrev pub empty_memory : List ℕ
empty_memory = replicate 17 0

abbrev pub example_memory : List ℕ
example_memory = replicate 16 0 ++ (0x0034 ∷ [])

pub record DocumentFile : Type 0 where
  pub written : WrittenFile (id_head 2) record_limit example_memory 0x0010 0x0010 example_file
  pub loaded : load_of 2 empty_memory example_file ≡ record { answer = answered 1; memory = example_memory }
  pub other_board : load_of 3 empty_memory example_file ≡ record { answer = refused 10; memory = empty_memory }
  pub good : GoodFile head_of record_limit 2 empty_memory example_file (id_head 2) example_records
  -- its one word is bytes 10 and 11
  pub first_byte : InWords example_records (head_length (id_head 2)) 10
  pub last_byte : InWords example_records (head_length (id_head 2)) 11
  pub damaged : load_of 2 empty_memory (set example_file 11 0x35) ≡ record { answer = refused 12; memory = empty_memory }
