-- Document 02, [7]: "raise the count limit from 1,024 to 4,096 words". What the old writer and loader did, beside what the new ones do. They
-- are the same definitions at 1,024, so the laws speak of two cuts, or of two limits. Statements; the proofs are in proofs/.
use Rattle.std.specs.Prelude.{ℕ, ◌<◌, ◌≤◌, ◌≡◌, true, false, Ok, List, [], ◌∷◌, length, drop, replicate}
use Rattle.refusal.specs.declared.Refusal.TheVariants.{MalformedImage}
use Rattle.refusal.specs.Report.{refused, answered}
use Rattle.memory.specs.Memory.{too_long}
use Rattle.bigendian.specs.Numbers.{word_at}
use Rattle.records.specs.Records.{is_within}
use Rattle.records.specs.Cut.{record_count}
use Rattle.records.specs.Loading.{Loading, LoadedAlike}
use Rattle.records.specs.Region.{region_admission}
use Rattle.image.specs.Format.{record_limit, at_mark, count_at, record_head_bytes, record_bytes, ImageHead, id_head, head_length}
use Rattle.image.specs.Read.{Opening, opened, head_of, record_part, offence_part, place_of, part_of}
use Rattle.image.specs.Load.{is_for, load_with, load_of}
use Rattle.image.specs.Write.{region_image}
use Rattle.image.specs.Laws.{ReadsBack, WrittenFile, RoundTripAt}

-- document 01's own limit, which the request raises
abbrev pub old_limit : ℕ
old_limit = 1024

-- "The worked counts in 01 move to 4,096 and 4,097", "9 now begins at 4,097": the first is read, where its words are there and lie within the
-- memory; the second is an offence whatever follows it; and 4,096 words are cut into one record, 4,097 into two (by `CutLaws.count` a cut
-- has `record_count` records)
pub record WorkedCounts : Type 0 where
  pub limit_taken :
      (len : ℕ) (bytes : List ℕ) (address : ℕ) →
      record_bytes 4096 ≤ length bytes →
      is_within len address 4096 ≡ true →
      place_of record_limit len bytes address 4096 ≡ record_part address 4096
  -- its premises can be met
  pub limit_met : place_of record_limit 4096 (replicate (record_bytes 4096) 0) 0 4096 ≡ record_part 0 4096
  pub above_refused : (len : ℕ) (bytes : List ℕ) (address : ℕ) → place_of record_limit len bytes address 4097 ≡ offence_part MalformedImage
  pub one_record : record_count record_limit 4096 ≡ 1
  pub two_records : record_count record_limit 4097 ≡ 2

-- the loader as it was
abbrev pub old_load_of : ℕ → List ℕ → List ℕ → Loading
old_load_of board m file = load_with head_of old_limit board m file

-- every region that the writer lets in has a writing at every cut (at a cut of 0 its records are empty, and no loader takes those)
abbrev pub EveryRegionIsWritten : Type 0
EveryRegionIsWritten =
    (head : ImageHead) (cut : ℕ) (m : List ℕ) (first last : ℕ) →
    region_admission m first last ≡ Ok (tt {0}) →
    WrittenFile head cut m first last (region_image head cut m first last)

-- Two writings of one region with one head, each at any cut from 1 to the loader's limit, loaded alike: for any board, named or not, and
-- into any memory, short or too long. They leave equal memory, and both are answered or both get the same refusal; the numbers of records
-- that are answered may differ.
abbrev pub WritingsAlike : Type 0
WritingsAlike =
    (opening : List ℕ → Opening) (head : ImageHead) →
    ReadsBack opening head →
    (limit a b : ℕ) →
    0 < a →
    a ≤ limit →
    0 < b →
    b ≤ limit →
    (m : List ℕ) (first last : ℕ) (file other : List ℕ) →
    WrittenFile head a m first last file →
    WrittenFile head b m first last other →
    (board : ℕ) (n : List ℕ) →
    LoadedAlike (load_with opening limit board n file) (load_with opening limit board n other)

-- "the old and the new writing of one board and region, loaded alike into equal memory, give equal memory or the same refusal"
abbrev pub OldAndNewAlike : Type 0
OldAndNewAlike =
    (written : ℕ) (m : List ℕ) (first last : ℕ) (old new : List ℕ) →
    WrittenFile (id_head written) old_limit m first last old →
    WrittenFile (id_head written) record_limit m first last new →
    (board : ℕ) (n : List ℕ) →
    LoadedAlike (load_of board n old) (load_of board n new)

-- "Old images load with the same result": what a limit does not refuse by 9, a higher one answers alike, and leaves the same memory
abbrev pub HigherLimitAlike : Type 0
HigherLimitAlike =
    (opening : List ℕ → Opening) (low high : ℕ) →
    low ≤ high →
    (board : ℕ) (m file : List ℕ) →
    ((load_with opening low board m file).answer ≡ refused 9 → ⊥) →
    load_with opening high board m file ≡ load_with opening low board m file

-- a record's head stands at the front of the bytes, and states this count
pub record Counted (bytes : List ℕ) (count : ℕ) : Type 0 where
  pub size : record_head_bytes ≤ length bytes
  pub mark : word_at bytes 0 ≡ at_mark
  pub states : word_at bytes count_at ≡ count

-- reading comes to a record that states this count: at the front of the bytes, whether it offends or not, or behind records that are read
pub data Meets (limit len : ℕ) : List ℕ → ℕ → Type 0 where
  at_front : {bytes : List ℕ} {count : ℕ} → Counted bytes count → Meets limit len bytes count
  behind :
      {bytes : List ℕ} {address size count : ℕ} →
      part_of limit len bytes ≡ record_part address size →
      Meets limit len (drop (record_bytes size) bytes) count →
      Meets limit len bytes count

-- .. in a file that is loaded for a board. Nothing is met behind an offence, and nothing at all in a file that is refused by 1, for its head
-- or for its board.
pub record FileMeets (opening : List ℕ → Opening) (limit board : ℕ) (m file : List ℕ) (count : ℕ) : Type 0 where
  pub fits : too_long m ≡ false
  pub head : ImageHead
  pub opens : opening file ≡ opened head
  pub here : is_for head board ≡ true
  pub meets : Meets limit (length m) (drop (head_length head) file) count

-- where no record that is met has a count above the lower limit and not above the higher, the two answer alike and leave the same memory,
-- 9 included
abbrev pub SameUnlessBetween : Type 0
SameUnlessBetween =
    (opening : List ℕ → Opening) (low high : ℕ) →
    low ≤ high →
    (board : ℕ) (m file : List ℕ) →
    ((count : ℕ) → FileMeets opening high board m file count → low < count → count ≤ high → ⊥) →
    load_with opening high board m file ≡ load_with opening low board m file

-- .. of document 01's own loader, and of the loader as it was
pub record OldImages : Type 0 where
  pub not_nine : (board : ℕ) (m file : List ℕ) → ((old_load_of board m file).answer ≡ refused 9 → ⊥) → load_of board m file ≡ old_load_of board m file
  pub none_between :
      (board : ℕ) (m file : List ℕ) →
      ((count : ℕ) → FileMeets head_of record_limit board m file count → old_limit < count → count ≤ record_limit → ⊥) →
      load_of board m file ≡ old_load_of board m file

-- "loading its file puts exactly that region back", at every cut from 1 to 4,096
abbrev pub RoundTripAtEveryCut : Type 0
RoundTripAtEveryCut = (board cut : ℕ) → 0 < cut → cut ≤ record_limit → RoundTripAt head_of (id_head board) board cut record_limit

-- 1,025 NOPs, the fewest words that the two writers cut differently; and a cleared memory of just so many words
abbrev pub long_region : List ℕ
long_region = replicate 1025 0x0034

abbrev pub cleared_memory : List ℕ
cleared_memory = replicate 1025 0

-- the two writings of it, loaded now and before: the laws' premises can be met, and the two loaders do differ where a count lies between
pub record LongRegion : Type 0 where
  pub old : List ℕ
  pub new : List ℕ
  pub written_old : WrittenFile (id_head 2) old_limit long_region 0 1024 old
  pub written_new : WrittenFile (id_head 2) record_limit long_region 0 1024 new
  -- by two records, the first of 1,024 words, and by one
  pub loads_old : load_of 2 cleared_memory old ≡ record { answer = answered 2; memory = long_region }
  pub first_old : FileMeets head_of record_limit 2 cleared_memory old 1024
  pub loads_new : load_of 2 cleared_memory new ≡ record { answer = answered 1; memory = long_region }
  -- the loader as it was took the one, and refused the other for its count, which is met
  pub took_old : old_load_of 2 cleared_memory old ≡ record { answer = answered 2; memory = long_region }
  pub refused_new : old_load_of 2 cleared_memory new ≡ record { answer = refused 9; memory = cleared_memory }
  pub first_new : FileMeets head_of record_limit 2 cleared_memory new 1025

-- a record that states 4,097 words, and has none
abbrev pub longer_file : List ℕ
longer_file = 0x49 ∷ 0x44 ∷ 0x00 ∷ 0x02 ∷ 0x41 ∷ 0x54 ∷ 0x00 ∷ 0x10 ∷ 0x10 ∷ 0x01 ∷ []

-- `none_between` covers files that are refused by 9, too: this one states a count above both limits and none between, and both loaders
-- refuse it
pub record LongerRecord : Type 0 where
  pub met : FileMeets head_of record_limit 2 cleared_memory longer_file 4097
  pub none_between : (count : ℕ) → FileMeets head_of record_limit 2 cleared_memory longer_file count → old_limit < count → count ≤ record_limit → ⊥
  pub refused_now : load_of 2 cleared_memory longer_file ≡ record { answer = refused 9; memory = cleared_memory }
  pub refused_before : old_load_of 2 cleared_memory longer_file ≡ record { answer = refused 9; memory = cleared_memory }
