-- The writer: "The writer covers a region with full records of 4,096, the last perhaps shorter", as document 02 amends it,
-- refused by 1, 7, 11 and 13 in this order.
use Rattle.std.specs.Prelude.{ℕ, ◌+◌, ◌*◌, cond, List, ltb, length, Result}
use Rattle.refusal.specs.declared.Refusal.{Refusal}
use Rattle.refusal.specs.declared.Refusal.TheVariants.{RoomTooSmall}
use Rattle.refusal.specs.Refusals.{refusal_number}
use Rattle.refusal.specs.Report.{Report, refused, answered}
use Rattle.memory.specs.Bus.{unless_barred}
use Rattle.records.specs.Records.{overwrite}
use Rattle.records.specs.Region.{words_between, region_admission}
use Rattle.records.specs.Cut.{cut_of, record_count}
use Rattle.image.specs.Format.{record_limit, record_head_bytes, tail_bytes, ImageHead, id_head, image_of}
use Rattle.image.specs.Answer.{write_reported}

-- how many bytes the file of n words has, with a head of so many: each record has a head of its own, and the file a tail
abbrev pub image_length : ℕ → ℕ → ℕ → ℕ
image_length head limit n = head + tail_bytes + record_count limit n * record_head_bytes + n * 2

-- all that a writing leaves: what it reports, and the room
pub record Writing : Type 0 where
  pub answer : Report ℕ
  pub room : List ℕ

-- a refusal leaves every byte as it was
abbrev pub refuse_write : List ℕ → Refusal → Writing
refuse_write room r = record { answer = refused (refusal_number r); room = room }

-- "It answers the length; image room past it is untouched." "13: image room too small"
unfoldable pub writing : List ℕ → List ℕ → Writing
writing room file =
    cond (ltb (length room) (length file)) (refuse_write room RoomTooSmall)
    (record { answer = answered (length file); room = overwrite room 0 file })

-- the file of a region
abbrev pub region_image : ImageHead → ℕ → List ℕ → ℕ → ℕ → List ℕ
region_image head limit m first last = image_of head (cut_of limit first (words_between m first last))

-- the writer of files with this head, which cuts at `limit`
unfoldable pub write_with : ImageHead → ℕ → List ℕ → ℕ → ℕ → List ℕ → Writing
write_with head limit m first last room =
    unless_barred (region_admission m first last) (refuse_write room) (writing room (region_image head limit m first last))

-- document 01's own: "`ID` board", "full records of 4,096", as amended
abbrev pub write_of : ℕ → List ℕ → ℕ → ℕ → List ℕ → Writing
write_of board m first last room = write_with (id_head board) record_limit m first last room

-- the outcome that the code's answer and the room at its return stand for: the writer's contract says that it is `write_of`
abbrev pub wrote : Result ℕ Refusal → List ℕ → Writing
wrote r room = record { answer = write_reported r; room = room }
