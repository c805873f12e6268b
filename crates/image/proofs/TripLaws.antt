-- Loading a written file puts the region back, and another board refuses it.
use Prim.Native.Nat.{ℕ, ◌+◌, ◌*◌, ◌/◌, ◌%◌, ◌<◌, ◌≤◌}
use mathlib.Core.Path.{◌≡◌, refl, sym, ap, ◌∙◌}
use mathlib.Core.Bool.{Bool, true, false, cond}
use mathlib.Core.List.{List, [], ◌∷◌, ◌++◌, append_assoc}
use native.Mathlib.Omega.{arith}
use lib.Dec.{ltb, lit<, lit≤}
use lib.ListN.{length, take, drop, length-append}
use lib.Seq.{drop-drop, drop_at, take-append_seam}
use borrow.Author.Tests.{eq-eqb, ne_eqb, le-ltb}
use Rattle.refusal.specs.declared.Refusal.TheVariants.{MemoryTooLong, PastMemory, RoomTooSmall, WrongBoard}
use Rattle.refusal.specs.Report.{answered}
use Rattle.refusal.proofs.ReportLaws.{no_answer}
use Rattle.std.proofs.Common.{Result, Ok, Err}
use Rattle.refusal.specs.declared.Refusal.{Refusal}
use Rattle.memory.specs.Bus.{unless_barred}
use Rattle.memory.specs.Memory.{too_long}
use Rattle.word.proofs.Choice.{cond-true, cond-false}
use Rattle.bigendian.specs.Numbers.{word_at, bytes_of}
use Rattle.bigendian.proofs.NumberLaws.{bytes-length, bytes-append, words_back}
use Rattle.records.specs.Records.{Record, is_within, all_within, overwrite}
use Rattle.records.specs.Loading.{refuse_load, accept_load}
use Rattle.records.specs.Region.{span_of, words_between, region_admission}
use Rattle.records.specs.Cut.{cut_of, record_count}
use Rattle.records.specs.Laws.{Sized}
use Rattle.records.proofs.RegionLaws.{cut-laws}
use Rattle.records.proofs.LoadLaws.{Region, admitted-region, region-length, region-within, region-back}
use Rattle.image.specs.Format.{record_limit, record_head_bytes, record_bytes, checksum, ImageHead, id_head, head_words}
use Rattle.image.specs.Format.{head_length, head_sum, record_words, records_words, tail_words, image_of}
use Rattle.image.specs.Read.{Opening, opened, head_of, record_part, tail_part, offence_part, place_of, record_of, tail_of, part_of, whole, broken}
use Rattle.image.specs.Read.{follow, body_of}
use Rattle.image.specs.Load.{is_for, sum_agrees, sum_tested, board_tested, load_with}
use Rattle.image.specs.Write.{Writing, refuse_write, writing, region_image, write_with}
use Rattle.image.specs.Laws.{ReadsBack, WrittenFile, WrittenLays, OwnLays, RoundTrip, OwnRoundTrip, is_right, OtherBoard, OwnOtherBoard}
use Rattle.image.specs.Limits.{RoundTripAtEveryCut}
use Rattle.image.proofs.ReadLaws.{body-law}
use Rattle.image.proofs.LoadLaws.{one-board}
use Rattle.image.proofs.HeadLaws.{own-head}

-- Reading what is written: a record at the front of the bytes, and the tail.
part-record : (limit len : ℕ) (r : Record) (t : List ℕ) → 0 < length r.words → length r.words ≤ limit
    → part_of limit len (bytes_of (record_words r) ++ t)
    ≡ cond (is_within len r.address (length r.words)) (record_part r.address (length r.words)) (offence_part PastMemory)
unfolding part_of record_of place_of word_at
part-record limit len r t some few =
    let a = r.address in
    let c = length r.words in
    let ea : a / 256 * 256 + a % 256 ≡ a = omega arith in
    let ec : c / 256 * 256 + c % 256 ≡ c = omega arith in
    let l = length (bytes_of (record_words r) ++ t) in
    let e1 = length-append (bytes_of r.words) t in
    let e2 = bytes-length r.words in
    rw (
      le-ltb l 2 (omega arith),
      le-ltb l record_head_bytes (omega arith),
      ea,
      ec,
      ne_eqb c 0 (λ z. omega arith),
      le-ltb limit c few,
      le-ltb l (record_bytes c) (omega arith),
    )

part-tail : (limit len s : ℕ) → part_of limit len (bytes_of (tail_words s)) ≡ tail_part s
unfolding part_of tail_of word_at
part-tail limit len s =
    let e : s / 256 * 256 + s % 256 ≡ s = omega arith in
    rw e

record-rest : (r : Record) (t : List ℕ) → drop (record_bytes (length r.words)) (bytes_of (record_words r) ++ t) ≡ t
record-rest r t =
    sym (drop-drop (length r.words * 2) record_head_bytes (bytes_of (record_words r) ++ t))
    ∙ drop_at (bytes_of r.words) t (length r.words * 2) (bytes-length r.words)

-- the first record that is past the memory is the file's offence
body-image : (limit len : ℕ) (rs : List Record) (s : ℕ) → Sized limit rs
    → body_of limit len (bytes_of (records_words rs ++ tail_words s)) ≡ cond (all_within len rs) (whole rs s) (broken PastMemory)
body-image limit len [] s k =
    body-law limit len (bytes_of (tail_words s)) ∙ ap (follow (body_of limit len) (bytes_of (tail_words s))) (part-tail limit len s)
body-image limit len (r ∷ rs) s k =
    let t = bytes_of (records_words rs ++ tail_words s) in
    let e : bytes_of (records_words (r ∷ rs) ++ tail_words s) ≡ bytes_of (record_words r) ++ t =
    ap bytes_of (append_assoc (record_words r) (records_words rs) (tail_words s)) ∙ bytes-append (record_words r) (records_words rs ++ tail_words s) in
    rw e (
    body-law limit len (bytes_of (record_words r) ++ t)
    ∙ ap (follow (body_of limit len) (bytes_of (record_words r) ++ t)) (part-record limit len r t k.0 k.1)
    ∙ by_place r rs s (is_within len r.address (length r.words)) (all_within len rs) (body-image limit len rs s k.2))
  where
    by_place : (r : Record) (rs : List Record) (s : ℕ) (u v : Bool)
        → body_of limit len (bytes_of (records_words rs ++ tail_words s)) ≡ cond v (whole rs s) (broken PastMemory)
        → follow (body_of limit len) (bytes_of (record_words r) ++ bytes_of (records_words rs ++ tail_words s))
        (cond u (record_part r.address (length r.words)) (offence_part PastMemory))
        ≡ cond (cond u v false) (whole (r ∷ rs) s) (broken PastMemory)
    by_place r rs s true true f = let t = bytes_of (records_words rs ++ tail_words s) in rw (record-rest r t, words_back r.words t, f)
    by_place r rs s true false f = let t = bytes_of (records_words rs ++ tail_words s) in rw (record-rest r t, f)
    by_place r rs s false v f = refl

-- Loading the file of any records, with any head that is read back.
image-rest : (head : ImageHead) (rs : List Record)
    → drop (head_length head) (image_of head rs) ≡ bytes_of (records_words rs ++ tail_words (checksum (head_sum head) rs))
unfolding image_of
image-rest head rs =
    let t = records_words rs ++ tail_words (checksum (head_sum head) rs) in
    ap (drop (head_length head)) (bytes-append (head_words head) t)
    ∙ drop_at (bytes_of (head_words head)) (bytes_of t) (head_length head) (bytes-length (head_words head))

image-body : (limit len : ℕ) (head : ImageHead) (rs : List Record) → Sized limit rs
    → body_of limit len (drop (head_length head) (image_of head rs)) ≡ cond (all_within len rs) (whole rs (checksum (head_sum head) rs)) (broken PastMemory)
image-body limit len head rs k =
    ap (body_of limit len) (image-rest head rs) ∙ body-image limit len rs (checksum (head_sum head) rs) k

sum-right : (head : ℕ) (rs : List Record) → sum_agrees head rs (checksum head rs) ≡ true
sum-right head rs = eq-eqb (checksum head rs) (checksum head rs) refl

module _ (opening : List ℕ → Opening) (head : ImageHead) (back : ReadsBack opening head) (limit : ℕ) (rs : List Record)
    (board : ℕ) (n : List ℕ) where
  image-opens : opening (image_of head rs) ≡ opened head
  unfolding image_of
  image-opens =
      let t = records_words rs ++ tail_words (checksum (head_sum head) rs) in
      ap opening (bytes-append (head_words head) t) ∙ back (bytes_of t)

  -- the sum is right, so that only a record past the memory refuses it
  load-image : is_for head board ≡ true → Sized limit rs
      → load_with opening limit board n (image_of head rs)
      ≡ cond (too_long n) (refuse_load n MemoryTooLong) (cond (all_within (length n) rs) (accept_load n rs) (refuse_load n PastMemory))
  unfolding load_with
  load-image f k =
      ap (cond (too_long n) (refuse_load n MemoryTooLong)) (
      ap (board_tested limit board n (image_of head rs)) image-opens
      ∙ cond-true _ _ f
      ∙ ap (sum_tested n (head_sum head)) (image-body limit (length n) head rs k)
      ∙ by_place (all_within (length n) rs))
    where
      by_place : (t : Bool) → sum_tested n (head_sum head) (cond t (whole rs (checksum (head_sum head) rs)) (broken PastMemory)) ≡ cond t (accept_load n rs) (refuse_load n PastMemory)
      by_place true = cond-true _ _ (sum-right (head_sum head) rs)
      by_place false = refl

  load-elsewhere : is_for head board ≡ false
      → load_with opening limit board n (image_of head rs) ≡ cond (too_long n) (refuse_load n MemoryTooLong) (refuse_load n WrongBoard)
  unfolding load_with
  load-elsewhere f =
      ap (cond (too_long n) (refuse_load n MemoryTooLong)) (ap (board_tested limit board n (image_of head rs)) image-opens ∙ cond-false _ _ f)

-- The writer answers a length only if no test refuses.
record Made (head : ImageHead) (cut : ℕ) (m : List ℕ) (first last : ℕ) (file : List ℕ) : Type 0 where
  region : Region m first last
  is : file ≡ region_image head cut m first last

module _ (head : ImageHead) (cut : ℕ) (m : List ℕ) (first last : ℕ) (file room : List ℕ) where
  image : List ℕ
  image = region_image head cut m first last

  -- what a writing shows of the file that it answers
  abbrev Shows : Writing → Type 0
  Shows w = w.answer ≡ answered (length file) → take (length file) w.room ≡ file → Made head cut m first last file

  made-room : Region m first last → (t : Bool) → Shows (cond t (refuse_write room RoomTooSmall) (record { answer = answered (length image); room = overwrite room 0 image }))
  unfolding image overwrite
  made-room k true e f = no_answer e
  made-room k false e f =
      let l : length image ≡ length file = cc in
      record { region = k; is = sym f ∙ rw (← l) (take-append_seam image (drop (0 + length image) room)) }

  made_by : (a : Result (Unit {0}) Refusal) → region_admission m first last ≡ a → Shows (unless_barred a (refuse_write room) (writing room (region_image head cut m first last)))
  unfolding writing image
  made_by (Err r) h e f = no_answer e
  made_by (Ok u) h e f = made-room (admitted-region m first last h) (ltb (length room) (length image)) e f

  made : Shows (write_with head cut m first last room)
  unfolding write_with
  made = made_by (region_admission m first last) refl

-- a cut is taken by every loader whose limit is not lower
sized-more : (cut limit : ℕ) (rs : List Record) → cut ≤ limit → Sized cut rs → Sized limit rs
sized-more cut limit [] h k = tt
sized-more cut limit (r ∷ rs) h k = (k.0, omega (arith, k.1), sized-more cut limit rs h k.2)

module _ (cut limit : ℕ) (p : 0 < cut) (q : cut ≤ limit) (m : List ℕ) (first last : ℕ) (o : first ≤ last) (h : last < length m) where
  region-sized : Sized limit (cut_of cut first (words_between m first last))
  region-sized = sized-more cut limit (cut_of cut first (words_between m first last)) q (cut-laws.sized cut first (words_between m first last) p)

  -- the records of the region, counted and put
  region-laid : (n : List ℕ)
      → cond (all_within (length n) (cut_of cut first (words_between m first last))) (accept_load n (cut_of cut first (words_between m first last))) (refuse_load n PastMemory)
      ≡ cond (is_within (length n) first (length (words_between m first last)))
      (record { answer = answered (record_count cut (span_of first last)); memory = overwrite n first (words_between m first last) }) (refuse_load n PastMemory)
  region-laid n =
      let ws = words_between m first last in
      let l = region-length m first last o h in
      rw (cut-laws.exactly cut first ws (length n) p (omega arith)) (go (is_within (length n) first (length ws)) refl)
    where
      go : (t : Bool) → is_within (length n) first (length (words_between m first last)) ≡ t
          → cond t (accept_load n (cut_of cut first (words_between m first last))) (refuse_load n PastMemory)
          ≡ cond t (record { answer = answered (record_count cut (span_of first last)); memory = overwrite n first (words_between m first last) }) (refuse_load n PastMemory)
      go true e = let ws = words_between m first last in rw (cut-laws.count cut first ws p, region-length m first last o h, cut-laws.laid cut first ws n p e)
      go false e = refl

pub written-lays : WrittenLays
written-lays opening head back board here cut limit p q m first last file k n =
    let w = made head cut m first last file k.room k.answer k.bytes in
    let o = w.region.ordered in
    let i = w.region.within in
    ap (load_with opening limit board n) w.is
    ∙ load-image opening head back limit (cut_of cut first (words_between m first last)) board n here (region-sized cut limit p q m first last o i)
    ∙ ap (cond (too_long n) (refuse_load n MemoryTooLong)) (region-laid cut limit p q m first last o i n)

-- .. for a board that its head does not name
pub written-elsewhere : (opening : List ℕ → Opening) (head : ImageHead) → ReadsBack opening head → (board : ℕ) → is_for head board ≡ false → (cut limit : ℕ)
    → (m : List ℕ) (first last : ℕ) (file : List ℕ) → WrittenFile head cut m first last file → (n : List ℕ)
    → load_with opening limit board n file ≡ cond (too_long n) (refuse_load n MemoryTooLong) (refuse_load n WrongBoard)
written-elsewhere opening head back board away cut limit m first last file k n =
    let w = made head cut m first last file k.room k.answer k.bytes in
    ap (load_with opening limit board n) w.is ∙ load-elsewhere opening head back limit (cut_of cut first (words_between m first last)) board n away

pub round_trip : RoundTrip
round_trip opening head back board here cut limit p q m first last file k n h l =
    let w = (made head cut m first last file k.room k.answer k.bytes).region in
    rw (written-lays opening head back board here cut limit p q m first last file k n
    ∙ cond-false _ _ (le-ltb 65536 (length n) h)
    ∙ cond-true _ _ (region-within m first last w.ordered w.within (length n) l))
    (region-back m first last w.ordered w.within (record_count cut (span_of first last)) n l)

pub other_board : OtherBoard
other_board opening head back other away cut limit p q m first last file k n h =
    let w = made head cut m first last file k.room k.answer k.bytes in
    let rs = cut_of cut first (words_between m first last) in
    let o = w.region.ordered in
    let i = w.region.within in
    let b =
    image-body limit (length m) head rs (region-sized cut limit p q m first last o i)
    ∙ cond-true _ _ (cut-laws.within cut first (words_between m first last) (length m) p (region-within m first last o i (length m) i)) in (
      written-elsewhere opening head back other away cut limit m first last file k n ∙ cond-false _ _ (le-ltb 65536 (length n) h),
      rw w.is (ap (is_right (head_sum head)) b ∙ sum-right (head_sum head) rs),
    )

-- .. of document 01's own writer and loader
own-board : (board : ℕ) → is_for (id_head board) board ≡ true
own-board board = sym (one-board board board) ∙ eq-eqb board board refl

pub round-trip-at-every-cut : RoundTripAtEveryCut
round-trip-at-every-cut board cut = round_trip head_of (id_head board) (own-head.back board) board (own-board board) cut record_limit

pub own-round-trip : OwnRoundTrip
own-round-trip board = round-trip-at-every-cut board record_limit (lit< tt) (lit≤ tt)

pub own-lays : OwnLays
own-lays board = written-lays head_of (id_head board) (own-head.back board) board (own-board board) record_limit record_limit (lit< tt) (lit≤ tt)

pub own-other-board : OwnOtherBoard
own-other-board board other d =
    let away = sym (one-board board other) ∙ ne_eqb board other d in
    other_board head_of (id_head board) (own-head.back board) other away record_limit record_limit (lit< tt) (lit≤ tt)
