-- What holds of every body, of every written file, and of every good one. Statements; the proofs are in proofs/. Each holds at every limit
-- of a record's words and of every head that is read as the law asks; document 01's own are `record_limit`, and `id_head` read by `head_of`.
use Rattle.std.specs.Prelude.{ℕ, ◌+◌, ◌<◌, ◌≤◌, ◌≡◌, Bool, true, false, ◌⊎◌, List, [], ◌∷◌, ◌++◌, length, get_or, take, drop, set}
use Rattle.refusal.specs.declared.Refusal.{Refusal}
use Rattle.refusal.specs.Report.{refused, answered}
use Rattle.bigendian.specs.Numbers.{bytes_of}
use Rattle.records.specs.Records.{Record, all_within}
use Rattle.records.specs.Loading.{RefusesOrLoads, PutBack, laying}
use Rattle.records.specs.Region.{span_of, words_between}
use Rattle.records.specs.Cut.{record_count}
use Rattle.records.specs.Laws.{Sized}
use Rattle.image.specs.Format.{record_limit, head_bytes, record_head_bytes, record_bytes}
use Rattle.image.specs.Format.{ImageHead, id_head, head_words, head_length, head_sum}
use Rattle.image.specs.Read.{Opening, opened, head_of, part_of, Body, whole, broken, follow, body_of}
use Rattle.image.specs.Load.{is_for, sum_agrees, load_with}
use Rattle.image.specs.Write.{refuse_write, write_with}

-- the body by its own rule, without a count: its first part decides, and a record is followed by the body of the bytes behind it
abbrev pub BodyEquation : Type 0
BodyEquation =
    (limit len : ℕ) (bytes : List ℕ) →
    body_of limit len bytes ≡ follow (body_of limit len) bytes (part_of limit len bytes)

-- the records that are read have 1 to `limit` words each, and lie within the memory that they are read for
abbrev pub ReadRecordsFit : Type 0
ReadRecordsFit =
    (limit len : ℕ) (bytes : List ℕ) (rs : List Record) (stated : ℕ) →
    body_of limit len bytes ≡ whole rs stated →
    Sized limit rs × (all_within len rs ≡ true)

-- a head is read back: every file that begins with its words is opened by it
abbrev pub ReadsBack : (List ℕ → Opening) → ImageHead → Type 0
ReadsBack opening head = (rest : List ℕ) → opening (bytes_of (head_words head) ++ rest) ≡ opened head

-- no byte behind a head that is read has a say in it
abbrev pub ReadsHeadAlone : (List ℕ → Opening) → Type 0
ReadsHeadAlone opening =
    (file : List ℕ) (head : ImageHead) →
    opening file ≡ opened head →
    (i b : ℕ) →
    head_length head ≤ i →
    opening (set file i b) ≡ opened head

-- document 01's own head, of every board: its length, and that it meets what the laws below ask of a head
pub record OwnHead : Type 0 where
  pub size : (board : ℕ) → head_length (id_head board) ≡ head_bytes
  pub back : (board : ℕ) → ReadsBack head_of (id_head board)
  pub alone : ReadsHeadAlone head_of

-- a file that was written with a head, of the words from first to last of m, cut at `cut`: so many bytes of the room as the writer answers
pub record WrittenFile (head : ImageHead) (cut : ℕ) (m : List ℕ) (first last : ℕ) (file : List ℕ) : Type 0 where
  pub room : List ℕ
  pub answer : (write_with head cut m first last room).answer ≡ answered (length file)
  pub bytes : take (length file) (write_with head cut m first last room).room ≡ file

-- a law of a written file that is loaded: with every head that is read back, on every board that this names, or does not, at every cut and
-- every limit that is not below it
abbrev pub AtEveryCut : Bool → ((List ℕ → Opening) → ImageHead → ℕ → ℕ → ℕ → Type 0) → Type 0
AtEveryCut here Law =
    (opening : List ℕ → Opening) (head : ImageHead) →
    ReadsBack opening head →
    (board : ℕ) →
    is_for head board ≡ here →
    (cut limit : ℕ) →
    0 < cut →
    cut ≤ limit →
    Law opening head board cut limit

-- a written file that is loaded into any memory, on a board that its head names, lays the region's words there, or is refused by 1 or 11
abbrev pub WrittenLaysAt : (List ℕ → Opening) → ImageHead → ℕ → ℕ → ℕ → Type 0
WrittenLaysAt opening head board cut limit =
    (m : List ℕ) (first last : ℕ) (file : List ℕ) →
    WrittenFile head cut m first last file →
    (n : List ℕ) →
    load_with opening limit board n file ≡ laying (record_count cut (span_of first last)) n first (words_between m first last)

abbrev pub WrittenLays : Type 0
WrittenLays = AtEveryCut true WrittenLaysAt

-- .. of document 01's own writer and loader: on the same board
abbrev pub OwnLays : Type 0
OwnLays = (board : ℕ) → WrittenLaysAt head_of (id_head board) board record_limit record_limit

-- "loading its file puts exactly that region back": on a board that its head names, into any memory that is large enough. The loader may
-- take longer records than the writer makes.
abbrev pub RoundTripAt : (List ℕ → Opening) → ImageHead → ℕ → ℕ → ℕ → Type 0
RoundTripAt opening head board cut limit =
    (m : List ℕ) (first last : ℕ) (file : List ℕ) →
    WrittenFile head cut m first last file →
    (n : List ℕ) →
    length n ≤ 65536 →
    last < length n →
    PutBack (record_count cut (span_of first last)) m first last n (load_with opening limit board n file)

abbrev pub RoundTrip : Type 0
RoundTrip = AtEveryCut true RoundTripAt

-- .. of document 01's own writer and loader: on the same board
abbrev pub OwnRoundTrip : Type 0
OwnRoundTrip = (board : ℕ) → RoundTripAt head_of (id_head board) board record_limit record_limit

-- whether the sum that a body states is right, whatever the board
abbrev pub is_right : ℕ → Body → Bool
is_right head (whole rs stated) = sum_agrees head rs stated
is_right head (broken e) = false

-- a written file that is loaded for a board that its head does not name is refused by 10 and leaves every word, though its sum is right
abbrev pub OtherBoardAt : (List ℕ → Opening) → ImageHead → ℕ → ℕ → ℕ → Type 0
OtherBoardAt opening head other cut limit =
    (m : List ℕ) (first last : ℕ) (file : List ℕ) →
    WrittenFile head cut m first last file →
    (n : List ℕ) →
    length n ≤ 65536 →
    (load_with opening limit other n file ≡ record { answer = refused 10; memory = n })
    × (is_right (head_sum head) (body_of limit (length m) (drop (head_length head) file)) ≡ true)

abbrev pub OtherBoard : Type 0
OtherBoard = AtEveryCut false OtherBoardAt

-- .. of document 01's own writer and loader: written for one board, loaded for another
abbrev pub OwnOtherBoard : Type 0
OwnOtherBoard = (board other : ℕ) → (board ≡ other → ⊥) → OtherBoardAt head_of (id_head board) other record_limit record_limit

-- a file that is loaded, its head and its records
pub record GoodFile (opening : List ℕ → Opening) (limit board : ℕ) (m file : List ℕ) (head : ImageHead) (rs : List Record) : Type 0 where
  pub loads : (load_with opening limit board m file).answer ≡ answered (length rs)
  pub opens : opening file ≡ opened head
  pub stated : ℕ
  pub reads : body_of limit (length m) (drop (head_length head) file) ≡ whole rs stated

-- byte i lies in the words of one of these records, the first of which begins at byte `at`: the words stand behind the record's head
abbrev pub InWords : List Record → ℕ → ℕ → Type 0
InWords [] at i = ⊥
InWords (r ∷ rs) at i =
    ((at + record_head_bytes ≤ i) × (i < at + record_bytes (length r.words))) ⊎ InWords rs (at + record_bytes (length r.words)) i

-- a good file in which exactly one byte of one record's words is changed is refused by 12; bytes are below 256 by their type
abbrev pub ByteChangedAt : (List ℕ → Opening) → ℕ → Type 0
ByteChangedAt opening limit =
    (board : ℕ) (m file : List ℕ) (head : ImageHead) (rs : List Record) →
    GoodFile opening limit board m file head rs →
    (i b : ℕ) →
    InWords rs (head_length head) i →
    get_or file i 0 < 256 →
    b < 256 →
    (b ≡ get_or file i 0 → ⊥) →
    load_with opening limit board m (set file i b) ≡ record { answer = refused 12; memory = m }

abbrev pub ByteChanged : Type 0
ByteChanged = (opening : List ℕ → Opening) → ReadsHeadAlone opening → (limit : ℕ) → ByteChangedAt opening limit

-- .. of a file that document 01's own loader takes
abbrev pub OwnByteChanged : Type 0
OwnByteChanged = ByteChangedAt head_of record_limit

-- what can come of a loading: a refusal, and every word is as it was; or an answer, of no more records than the file has bytes
abbrev pub LoadRefusesOrAnswers : Type 0
LoadRefusesOrAnswers =
    (opening : List ℕ → Opening) (limit board : ℕ) (m file : List ℕ) →
    RefusesOrLoads m (length file) (load_with opening limit board m file)

-- whatever comes of a loading, the memory has as many words as before
abbrev pub LoadKeepsLength : Type 0
LoadKeepsLength =
    (opening : List ℕ → Opening) (limit board : ℕ) (m file : List ℕ) →
    length (load_with opening limit board m file).memory ≡ length m

-- what can come of a writing: a refusal, and every byte is as it was; or an answer, of a file that fits the room
abbrev pub WriteRefusesOrAnswers : Type 0
WriteRefusesOrAnswers =
    (head : ImageHead) (limit : ℕ) (m : List ℕ) (first last : ℕ) (room : List ℕ) →
    ((r : Refusal) × (write_with head limit m first last room ≡ refuse_write room r))
    ⊎ ((n : ℕ) × (((write_with head limit m first last room).answer ≡ answered n) × (n ≤ length room)))
