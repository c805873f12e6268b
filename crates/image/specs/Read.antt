-- A file read in its own order: the head, then records up to the tail, or the first offence.
-- "9: missing or wrong mark, cut file, count 0 or above 4,096, bytes after OK", as amended; "11: record .. past the lent memory".
use Rattle.std.specs.Prelude.{ℕ, zero, suc, ◌≤◌, ◌≡◌, cond, List, [], ◌∷◌, eqb, ltb, length, drop}
use Rattle.refusal.specs.declared.Refusal.{Refusal}
use Rattle.refusal.specs.declared.Refusal.TheVariants.{MalformedImage, PastMemory}
use Rattle.bigendian.specs.Numbers.{word_at}
use Rattle.records.specs.Records.{Record, is_within}
use Rattle.image.specs.Format.{id_mark, at_mark, ok_mark, board_at, head_bytes, address_at, count_at, record_head_bytes, sum_at}
use Rattle.image.specs.Format.{tail_bytes, record_bytes, body_bytes, record_at, ImageHead, id_head}

-- what comes of reading a head: what it says, or why the file is refused
pub data Opening : Type 0 where
  opened : ImageHead → Opening
  unopened : Refusal → Opening

-- "`ID` board"
unfoldable pub head_of : List ℕ → Opening
head_of file =
    cond (ltb (length file) head_bytes) (unopened MalformedImage)
    (cond (eqb (word_at file 0) id_mark) (opened (id_head (word_at file board_at))) (unopened MalformedImage))

-- what stands at the front of the bytes after the head: a record, by its address and its count; the tail, with the sum that it states; or
-- an offence
pub data Part : Type 0 where
  record_part : ℕ → ℕ → Part
  tail_part : ℕ → Part
  offence_part : Refusal → Part

-- "`AT` address, count 1 to 4,096, words", as amended: "count before cut words before 11". The largest count and the memory's length are
-- arguments.
unfoldable pub place_of : ℕ → ℕ → List ℕ → ℕ → ℕ → Part
place_of limit len bytes address count =
    cond (eqb count 0) (offence_part MalformedImage)
    (cond (ltb limit count) (offence_part MalformedImage)
    (cond (ltb (length bytes) (record_bytes count)) (offence_part MalformedImage)
    (cond (is_within len address count) (record_part address count) (offence_part PastMemory))))

unfoldable pub record_of : ℕ → ℕ → List ℕ → Part
record_of limit len bytes =
    cond (ltb (length bytes) record_head_bytes) (offence_part MalformedImage)
    (place_of limit len bytes (word_at bytes address_at) (word_at bytes count_at))

-- "`OK` sum; end"
unfoldable pub tail_of : List ℕ → Part
tail_of bytes = cond (eqb (length bytes) tail_bytes) (tail_part (word_at bytes sum_at)) (offence_part MalformedImage)

unfoldable pub part_of : ℕ → ℕ → List ℕ → Part
part_of limit len bytes =
    cond (ltb (length bytes) 2) (offence_part MalformedImage)
    (cond (eqb (word_at bytes 0) at_mark) (record_of limit len bytes)
    (cond (eqb (word_at bytes 0) ok_mark) (tail_of bytes) (offence_part MalformedImage)))

-- the record at the front of the bytes, by its address and its count, or that none stands there
pub data First : Type 0 where
  record_first : ℕ → ℕ → First
  none_first : First

abbrev pub first_of : Part → First
first_of (record_part address count) = record_first address count
first_of (tail_part stated) = none_first
first_of (offence_part e) = none_first

-- all that follows a head: its records with the sum that the tail states, or the first offence in file order
pub data Body : Type 0 where
  whole : List Record → ℕ → Body
  broken : Refusal → Body

abbrev pub with_record : Record → Body → Body
with_record r (whole rs stated) = whole (r ∷ rs) stated
with_record r (broken e) = broken e

-- a record is followed by the rest of the bytes, which `on` reads
abbrev pub follow : (List ℕ → Body) → List ℕ → Part → Body
follow on bytes (record_part address count) =
    with_record (record_at address count bytes) (on (drop (record_bytes count) bytes))
follow on bytes (tail_part stated) = whole [] stated
follow on bytes (offence_part e) = broken e

-- by at most n parts: each has a byte or more, so that n runs out only at the end of the bytes. `BodyEquation` says the same without n.
abbrev pub body_from : ℕ → ℕ → ℕ → List ℕ → Body
body_from zero limit len bytes = broken MalformedImage
body_from (suc n) limit len bytes = follow (body_from n limit len) bytes (part_of limit len bytes)

unfoldable pub body_of : ℕ → ℕ → List ℕ → Body
body_of limit len bytes = body_from (length bytes) limit len bytes

-- a file that is there whole: as many bytes as an `ID` head has, whatever they say, and behind them its records with the sum that its
-- tail states
pub record WholeFile (limit len : ℕ) (file : List ℕ) : Type 0 where
  pub head : head_bytes ≤ length file
  pub records : List Record
  pub stated : ℕ
  pub body : body_of limit len (body_bytes file) ≡ whole records stated
