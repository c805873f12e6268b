-- Document 01, "Image records": the program "reads an image for board 2 from standard input (at most 65,536 bytes) into 32,768 zero words".
use Rattle.std.specs.Prelude.{ℕ, ◌+◌, cond, List, [], ltb, length, take, replicate}
use Rattle.refusal.specs.declared.Refusal.TheVariants.{MalformedImage}
use Rattle.refusal.specs.Refusals.{refusal_number}
use Rattle.refusal.specs.Report.{Report, refused, answered}
use Rattle.records.specs.Records.{Record}
use Rattle.records.specs.Loading.{Loading}
use Rattle.image.specs.Format.{record_limit, body_bytes}
use Rattle.image.specs.Read.{Body, whole, broken, body_of}
use Rattle.image.specs.Load.{load_of}

abbrev pub board_number : ℕ
board_number = 2

abbrev pub input_limit : ℕ
input_limit = 65536

-- the bytes that a program has room to read: one more than the limit, so as to see that there is one
abbrev pub read_room : ℕ
read_room = input_limit + 1

-- what a program has read: so many bytes, at the front of its room. A count above the room stands for all of it, which is over-long.
abbrev pub input_of : List ℕ → ℕ → List ℕ
input_of room count = take count room

abbrev pub board_words : ℕ
board_words = 32768

unfoldable pub zero_words : List ℕ
zero_words = replicate board_words 0

abbrev pub body_records : Body → List Record
body_records (whole rs stated) = rs
body_records (broken e) = []

-- the records of a file, in its own order: they stand behind its head
unfoldable pub records_of : List ℕ → List Record
records_of file = body_records (body_of record_limit board_words (body_bytes file))

-- an image that was read: the memory after the whole load, and the file's records
pub record ReadImage : Type 0 where
  pub memory : List ℕ
  pub records : List Record

abbrev pub load_read : List Record → List ℕ → Report ℕ → Report ReadImage
load_read rs m (refused n) = refused n
load_read rs m (answered n) = answered (record { memory = m; records = rs })

-- what comes of a loading of a file
abbrev pub reading_after : List ℕ → Loading → Report ReadImage
reading_after file l = load_read (records_of file) l.memory l.answer

-- "9: .. before all, over-long program input"
unfoldable pub reading_of : List ℕ → Report ReadImage
reading_of input =
    cond (ltb input_limit (length input)) (refused (refusal_number MalformedImage))
    (reading_after input (load_of board_number zero_words input))
