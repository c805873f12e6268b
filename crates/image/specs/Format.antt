-- Document 01, "Image records", as document 02 amends it: "`ID` board; any number of `AT` address, count 1 to 4,096, words; `OK` sum; end."
use Rattle.std.specs.Prelude.{ℕ, ◌+◌, ◌*◌, ◌%◌, List, [], ◌∷◌, ◌++◌, length, drop}
use Rattle.bigendian.specs.Numbers.{words_of, bytes_of, total}
use Rattle.records.specs.Records.{Record, record_over}

-- "count 1 to 4,096": document 02, [7] raises it from 1,024. Each definition of a file takes the limit as an argument; this is the one of
-- the loader and the writer.
abbrev pub record_limit : ℕ
record_limit = 4096

-- "Two-byte mark first": the letters of `ID`, `AT` and `OK`
abbrev pub id_mark : ℕ
id_mark = 0x4944

abbrev pub at_mark : ℕ
at_mark = 0x4154

abbrev pub ok_mark : ℕ
ok_mark = 0x4F4B

-- "`ID` board": where the board stands, and the bytes of the whole
abbrev pub board_at : ℕ
board_at = 2

abbrev pub head_bytes : ℕ
head_bytes = 4

-- "`AT` address, count", and the words behind them
abbrev pub address_at : ℕ
address_at = 2

abbrev pub count_at : ℕ
count_at = 4

abbrev pub record_head_bytes : ℕ
record_head_bytes = 6

-- "`OK` sum"
abbrev pub sum_at : ℕ
sum_at = 2

abbrev pub tail_bytes : ℕ
tail_bytes = 4

-- the bytes of a record of so many words
abbrev pub record_bytes : ℕ → ℕ
record_bytes count = record_head_bytes + count * 2

-- what follows an `ID` head
abbrev pub body_bytes : List ℕ → List ℕ
body_bytes file = drop head_bytes file

-- the record of so many words whose bytes begin with its mark
abbrev pub record_at : ℕ → ℕ → List ℕ → Record
record_at address count bytes = record_over address (words_of count (drop record_head_bytes bytes))

-- "Sum = board, addresses, counts and words, modulo 65,536": no mark is in it
abbrev pub record_sum : Record → ℕ
record_sum r = r.address + length r.words + total r.words

abbrev pub records_sum : List Record → ℕ
records_sum [] = 0
records_sum (r ∷ rs) = record_sum r + records_sum rs

-- head is the sum of the head's numbers
unfoldable pub checksum : ℕ → List Record → ℕ
checksum head rs = (head + records_sum rs) % 65536

-- A file is a head, records and a tail. All of it is marks and numbers of two bytes.

-- a head: its mark, the numbers behind the mark, and the boards that these say the file is for
pub record ImageHead : Type 0 where
  pub mark : ℕ
  pub numbers : List ℕ
  pub boards : List ℕ

-- "`ID` board"
abbrev pub id_head : ℕ → ImageHead
id_head board = record { mark = id_mark; numbers = board ∷ []; boards = board ∷ [] }

abbrev pub head_words : ImageHead → List ℕ
head_words h = h.mark ∷ h.numbers

abbrev pub head_length : ImageHead → ℕ
head_length h = length (head_words h) * 2

abbrev pub head_sum : ImageHead → ℕ
head_sum h = total h.numbers

abbrev pub record_words : Record → List ℕ
record_words r = at_mark ∷ r.address ∷ length r.words ∷ r.words

abbrev pub records_words : List Record → List ℕ
records_words [] = []
records_words (r ∷ rs) = record_words r ++ records_words rs

abbrev pub tail_words : ℕ → List ℕ
tail_words sum = ok_mark ∷ sum ∷ []

unfoldable pub image_of : ImageHead → List Record → List ℕ
image_of head rs = bytes_of (head_words head ++ (records_words rs ++ tail_words (checksum (head_sum head) rs)))
