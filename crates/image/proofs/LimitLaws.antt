-- Two cuts of a region, and two limits of a record's words.
use Prim.Native.Nat.{ℕ, zero, suc, ◌+◌, ◌<◌, ◌≤◌}
use mathlib.Core.Path.{◌≡◌, refl, sym, ap, ◌∙◌}
use mathlib.Core.Bool.{Bool, true, false, cond}
use mathlib.Core.List.{List}
use mathlib.Core.Logic.{◌⊎◌, inl, inr, ⊎_elim}
use native.Mathlib.Omega.{arith}
use native.Mathlib.Decide.{dec_le}
use lib.Dec.{eqb, ltb, lit<, lit≤}
use lib.ListN.{length, take, drop}
use lib.Seq.{take-append_seam}
use borrow.Author.Tests.{eqb-true, le-ltb, lt-ltb, ltb-false}
use Rattle.refusal.specs.declared.Refusal.TheVariants.{MalformedImage, MemoryTooLong, WrongBoard, PastMemory}
use Rattle.refusal.specs.Report.{answered}
use Rattle.std.proofs.Common.{Result}
use Rattle.refusal.specs.declared.Refusal.{Refusal}
use Rattle.memory.specs.Bus.{unless_barred}
use Rattle.memory.specs.Memory.{too_long}
use Rattle.word.proofs.Choice.{cond-true, cond-false}
use Rattle.bigendian.specs.Numbers.{word_at}
use Rattle.records.specs.Records.{is_within, overwrite}
use Rattle.records.specs.Loading.{Loading, refuse_load, LoadedAlike}
use Rattle.records.specs.Region.{span_of, words_between}
use Rattle.records.specs.Cut.{record_count}
use Rattle.records.proofs.LoadLaws.{layings-alike}
use Rattle.image.specs.Format.{record_limit, at_mark, address_at, count_at, record_head_bytes, record_bytes, record_at, head_sum, head_length, id_head}
use Rattle.image.specs.Format.{ImageHead}
use Rattle.image.specs.Read.{Opening, opened, unopened, head_of, Part, record_part, tail_part, offence_part, place_of, record_of, part_of}
use Rattle.image.specs.Read.{Body, broken, with_record, follow, body_from, body_of}
use Rattle.image.specs.Load.{is_for, sum_tested, board_tested, load_with}
use Rattle.image.specs.Write.{Writing, refuse_write, writing, region_image, write_with}
use Rattle.image.specs.Laws.{ReadsBack, WrittenFile}
use Rattle.image.specs.Limits.{old_limit, EveryRegionIsWritten, WritingsAlike, OldAndNewAlike, HigherLimitAlike, Counted, Meets, at_front, behind}
use Rattle.image.specs.Limits.{SameUnlessBetween, OldImages}
use Rattle.image.proofs.LoadLaws.{load-head}
use Rattle.image.proofs.HeadLaws.{own-head}
use Rattle.image.proofs.TripLaws.{written-lays, written-elsewhere}

pub every-region-is-written : EveryRegionIsWritten
unfolding write_with writing overwrite
every-region-is-written head cut m first last h =
    let file = region_image head cut m first last in
    let w : write_with head cut m first last file ≡ record { answer = answered (length file); room = overwrite file 0 file } =
    ap (λ (a : Result (Unit {0}) Refusal). unless_barred a (refuse_write file) (writing file file)) h ∙ cond-false _ _ (le-ltb (length file) (length file) (omega arith)) in
    record {
      room = file;
      answer = ap (λ (x : Writing). x.answer) w;
      bytes = ap (λ (x : Writing). take (length file) x.room) w ∙ take-append_seam file (drop (0 + length file) file);
    }

-- Two cuts.
module _ (opening : List ℕ → Opening) (head : ImageHead) (back : ReadsBack opening head) (limit a b : ℕ) (pa : 0 < a) (qa : a ≤ limit) (pb : 0 < b) (qb : b ≤ limit)
    (m : List ℕ) (first last : ℕ) (file other : List ℕ) (f : WrittenFile head a m first last file) (g : WrittenFile head b m first last other) (board : ℕ) (n : List ℕ) where
  alike-by : (t : Bool) → is_for head board ≡ t → LoadedAlike (load_with opening limit board n file) (load_with opening limit board n other)
  alike-by true here =
      let span = span_of first last in
      rw (written-lays opening head back board here a limit pa qa m first last file f n, written-lays opening head back board here b limit pb qb m first last other g n)
      (layings-alike (record_count a span) (record_count b span) n first (words_between m first last))
  alike-by false away =
      rw (written-elsewhere opening head back board away a limit m first last file f n, written-elsewhere opening head back board away b limit m first last other g n)
      (refused-alike (too_long n))
    where
      refused-alike : (t : Bool) → LoadedAlike (cond t (refuse_load n MemoryTooLong) (refuse_load n WrongBoard)) (cond t (refuse_load n MemoryTooLong) (refuse_load n WrongBoard))
      refused-alike true = record { memory = refl; answer = refl }
      refused-alike false = record { memory = refl; answer = refl }

pub writings-alike : WritingsAlike
writings-alike opening head back limit a b pa qa pb qb m first last file other f g board n =
    alike-by opening head back limit a b pa qa pb qb m first last file other f g board n (is_for head board) refl

pub old-and-new-alike : OldAndNewAlike
old-and-new-alike written m first last old new f g board n =
    writings-alike head_of (id_head written) (own-head.back written) record_limit old_limit record_limit (lit< tt) (lit≤ tt) (lit< tt) (lit≤ tt) m first last old new f g board n

-- two choices of one test, each way of which is the same
same-ways : (b : Bool) {x y x' y' : Part} → (b ≡ true → x ≡ x') → (b ≡ false → y ≡ y') → cond b x y ≡ cond b x' y'
same-ways true f g = f refl
same-ways false f g = g refl

-- the first is the bad one, or the second is the same
abbrev SameOr : {A : Type 0} → A → A → A → Type 0
SameOr bad p q = (p ≡ bad) ⊎ (q ≡ p)

on_both : {A : Type 0} {bad : A} (b : Bool) {x y x' y' : A} → SameOr bad x x' → SameOr bad y y' → SameOr bad (cond b x y) (cond b x' y')
on_both true p q = p
on_both false p q = q

-- Two limits.
module _ (low high : ℕ) (h : low ≤ high) (len : ℕ) where
  -- a part that a limit does not call malformed is the same at a higher one
  place-higher : (bytes : List ℕ) (a c : ℕ) → SameOr (offence_part MalformedImage) (place_of low len bytes a c) (place_of high len bytes a c)
  unfolding place_of
  place-higher bytes a c = on_both (eqb c 0) (inl refl) (go (dec_le c low))
    where
      rest : Part
      rest = cond (ltb (length bytes) (record_bytes c)) (offence_part MalformedImage) (cond (is_within len a c) (record_part a c) (offence_part PastMemory))

      go : Dec (c ≤ low)
          → SameOr (offence_part MalformedImage) (cond (ltb low c) (offence_part MalformedImage) rest) (cond (ltb high c) (offence_part MalformedImage) rest)
      go (yes l) = rw (le-ltb low c l, le-ltb high c (omega arith)) (inr refl)
      go (no l) = rw (lt-ltb low c (omega arith)) (inl refl)

  part-higher : (bytes : List ℕ) → SameOr (offence_part MalformedImage) (part_of low len bytes) (part_of high len bytes)
  unfolding part_of record_of
  part-higher bytes =
      on_both (ltb (length bytes) 2) (inl refl)
      (on_both (eqb (word_at bytes 0) at_mark)
      (on_both (ltb (length bytes) record_head_bytes) (inl refl) (place-higher bytes (word_at bytes address_at) (word_at bytes count_at)))
      (inr refl))

  -- .. and so is a body
  follow-higher : (on up : List ℕ → Body) → ((rest : List ℕ) → SameOr (broken MalformedImage) (on rest) (up rest)) → (bytes : List ℕ) (p : Part)
      → SameOr (broken MalformedImage) (follow on bytes p) (follow up bytes p)
  follow-higher on up ih bytes (record_part a c) =
      let r = record_at a c bytes in
      ⊎_elim (λ e. inl (ap (with_record r) e)) (λ e. inr (ap (with_record r) e)) (ih (drop (record_bytes c) bytes))
  follow-higher on up ih bytes (tail_part s) = inr refl
  follow-higher on up ih bytes (offence_part e) = inr refl

  body-higher : (n : ℕ) (bytes : List ℕ) → SameOr (broken MalformedImage) (body_from n low len bytes) (body_from n high len bytes)
  body-higher zero bytes = inl refl
  body-higher (suc n) bytes =
      ⊎_elim (λ e. inl (ap (follow (body_from n low len) bytes) e))
      (λ e. rw e (follow-higher (body_from n low len) (body_from n high len) (body-higher n) bytes (part_of low len bytes)))
      (part-higher bytes)

  -- no count that is met lies between
  abbrev NoneBetween : List ℕ → Type 0
  NoneBetween bytes = (c : ℕ) → Meets high len bytes c → low < c → c ≤ high → ⊥

  count_same : (bytes : List ℕ) → NoneBetween bytes → (c : ℕ) → Counted bytes c → ltb high c ≡ ltb low c
  count_same bytes k c t = go (dec_le c low) (dec_le c high)
    where
      go : Dec (c ≤ low) → Dec (c ≤ high) → ltb high c ≡ ltb low c
      go (yes l) y = le-ltb high c (omega arith) ∙ sym (le-ltb low c l)
      go (no l) (yes y) = absurd (k c (at_front t) (omega arith) y)
      go (no l) (no y) = lt-ltb high c (omega arith) ∙ sym (lt-ltb low c (omega arith))

  part_same : (bytes : List ℕ) → NoneBetween bytes → part_of high len bytes ≡ part_of low len bytes
  unfolding part_of record_of place_of
  part_same bytes k =
      same-ways (ltb (length bytes) 2) (λ e. refl) (λ e.
      same-ways (eqb (word_at bytes 0) at_mark) (λ mark.
      same-ways (ltb (length bytes) record_head_bytes) (λ f. refl) (λ f.
      rw (count_same bytes k (word_at bytes count_at)
      (record { size = ltb-false (length bytes) record_head_bytes f; mark = eqb-true (word_at bytes 0) at_mark mark; states = refl })))) (λ f. refl))

  follow-met : (on up : List ℕ → Body) (bytes : List ℕ) → NoneBetween bytes → ((rest : List ℕ) → NoneBetween rest → up rest ≡ on rest)
      → (p : Part) → part_of high len bytes ≡ p → follow up bytes p ≡ follow on bytes p
  follow-met on up bytes k ih (record_part a c) e = ap (with_record (record_at a c bytes)) (ih (drop (record_bytes c) bytes) (λ d t. k d (behind e t)))
  follow-met on up bytes k ih (tail_part s) e = refl
  follow-met on up bytes k ih (offence_part r) e = refl

  body_same : (n : ℕ) (bytes : List ℕ) → NoneBetween bytes → body_from n high len bytes ≡ body_from n low len bytes
  body_same zero bytes k = refl
  body_same (suc n) bytes k =
      follow-met (body_from n low len) (body_from n high len) bytes k (body_same n) (part_of high len bytes) refl
      ∙ ap (follow (body_from n low len) bytes) (part_same bytes k)

-- Two loaders that say the same of the records behind every head that is read and names the board say the same of the file.
module _ (opening : List ℕ → Opening) (low high board : ℕ) (m file : List ℕ) where
  abbrev behind-head : ℕ → ImageHead → Loading
  behind-head limit head = sum_tested m (head_sum head) (body_of limit (length m) (drop (head_length head) file))

  by-board : (head : ImageHead) (t : Bool) → (t ≡ true → behind-head high head ≡ behind-head low head)
      → cond t (behind-head high head) (refuse_load m WrongBoard) ≡ cond t (behind-head low head) (refuse_load m WrongBoard)
  by-board head true k = k refl
  by-board head false k = refl

  by-head : (o : Opening) → ((head : ImageHead) → o ≡ opened head → is_for head board ≡ true → behind-head high head ≡ behind-head low head)
      → board_tested high board m file o ≡ board_tested low board m file o
  by-head (opened head) k = by-board head (is_for head board) (k head refl)
  by-head (unopened e) k = refl

  loads-alike : ((head : ImageHead) → too_long m ≡ false → opening file ≡ opened head → is_for head board ≡ true → behind-head high head ≡ behind-head low head)
      → load_with opening high board m file ≡ load_with opening low board m file
  unfolding load_with
  loads-alike k = go (too_long m) refl
    where
      go : (t : Bool) → too_long m ≡ t
          → cond t (refuse_load m MemoryTooLong) (board_tested high board m file (opening file)) ≡ cond t (refuse_load m MemoryTooLong) (board_tested low board m file (opening file))
      go true e = refl
      go false e = by-head (opening file) (λ head. k head e)

pub higher-limit-alike : HigherLimitAlike
unfolding body_of
higher-limit-alike opening low high h board m file k =
    loads-alike opening low high board m file (λ head fits opens here.
    let bytes = drop (head_length head) file in
    let l = load-head opening low board m file fits opens ∙ cond-true _ _ here in
    ⊎_elim (λ e. absurd (k (ap (λ (x : Loading). x.answer) l ∙ ap (λ (b : Body). (sum_tested m (head_sum head) b).answer) e)))
    (λ e. ap (sum_tested m (head_sum head)) e)
    (body-higher low high h (length m) (length bytes) bytes))

pub same-unless-between : SameUnlessBetween
unfolding body_of
same-unless-between opening low high h board m file k =
    loads-alike opening low high board m file (λ head fits opens here.
    let bytes = drop (head_length head) file in
    ap (sum_tested m (head_sum head)) (body_same low high h (length m) (length bytes) bytes (λ c t.
    k c (record { fits = fits; head = head; opens = opens; here = here; meets = t }))))

pub old-images : OldImages
old-images =
    record {
      not_nine = higher-limit-alike head_of old_limit record_limit (lit≤ tt);
      none_between = same-unless-between head_of old_limit record_limit (lit≤ tt);
    }
