-- One changed byte in the words of a good file moves the sum by less than 65,536, and so is seen by it.
use Prim.Native.Nat.{ℕ, zero, suc, ◌+◌, ◌-◌, ◌*◌, ◌%◌, ◌<◌, ◌≤◌}
use mathlib.Core.Path.{◌≡◌, refl, sym, ap, ◌∙◌}
use mathlib.Core.Bool.{Bool, true, false, cond}
use mathlib.Core.List.{List, [], ◌∷◌}
use mathlib.Core.Logic.{◌⊎◌, inl, inr, ⊎_elim}
use native.Mathlib.Omega.{arith}
use native.Mathlib.Decide.{dec_le}
use lib.ListN.{length, get_or, drop, set, length-set, length-drop}
use lib.Seq.{get_or-drop, drop-set-lt, drop-set-add}
use borrow.Author.Tests.{ne_eqb, eqb-true}
use Rattle.refusal.specs.declared.Refusal.TheVariants.{MemoryTooLong, WrongBoard, SumDiffers}
use Rattle.refusal.specs.Report.{answered}
use Rattle.refusal.proofs.ReportLaws.{no_answer}
use Rattle.memory.specs.Memory.{too_long}
use Rattle.word.proofs.Choice.{cond-true, cond-false}
use Rattle.bigendian.specs.Numbers.{word_at, words_of, total}
use Rattle.bigendian.proofs.NumberLaws.{word_kept, words-length}
use Rattle.records.specs.Records.{Record}
use Rattle.records.specs.Loading.{refuse_load, accept_load}
use Rattle.image.specs.Format.{record_limit, address_at, count_at, record_head_bytes, record_bytes}
use Rattle.image.specs.Format.{record_at, records_sum, checksum, ImageHead, head_length, head_sum}
use Rattle.image.specs.Read.{Opening, head_of, place_of, record_of, tail_of, part_of, whole, with_record}
use Rattle.image.specs.Read.{follow, body_of}
use Rattle.image.specs.Load.{is_for, sum_agrees, sum_tested, board_tested, load_with}
use Rattle.image.specs.Laws.{GoodFile, InWords, ByteChanged, OwnByteChanged}
use Rattle.image.proofs.ReadLaws.{part_sound, body-law, Front, front, front-count}
use Rattle.image.proofs.LoadLaws.{load-head}
use Rattle.image.proofs.HeadLaws.{own-head}

-- A sum x with the byte `old` in it, and y with b in its place: as the low or as the high half of a word.
abbrev Moved : ℕ → ℕ → ℕ → ℕ → Type 0
Moved old b x y = (y + old ≡ x + b) ⊎ (y + old * 256 ≡ x + b * 256)

moved_more : (k l old b x y : ℕ) → Moved old b x y → Moved old b (k + x + l) (k + y + l)
moved_more k l old b x y (inl e) = inl (omega arith)
moved_more k l old b x y (inr e) = inr (omega arith)

-- two numbers that differ by less than 65,536 are told apart by their rests
near : (x d : ℕ) → d < 65536 → (x + d) % 65536 ≡ x % 65536 → d ≡ 0
near x d h e = omega arith

-- a byte in the place of another, at a weight w, moves a sum by less
apart : (w : ℕ) (x y old b : ℕ) → old * w < 65536 → b * w < 65536 → y + old * w ≡ x + b * w → y % 65536 ≡ x % 65536 → b * w ≡ old * w
apart w x y old b p q e f = go (dec_le (old * w) (b * w))
  where
    go : Dec (old * w ≤ b * w) → b * w ≡ old * w
    go (yes l) =
        let g : x + (b * w - old * w) ≡ y = omega arith in
        omega (arith, near x (b * w - old * w) (omega arith) (rw g f))
    go (no l) =
        let g : y + (old * w - b * w) ≡ x = omega arith in
        omega (arith, near y (old * w - b * w) (omega arith) (rw g (sym f)))

moved-differs : (h old b x y : ℕ) → old < 256 → b < 256 → (b ≡ old → ⊥) → Moved old b x y → (h + y) % 65536 ≡ (h + x) % 65536 → ⊥
moved-differs h old b x y p q d (inl e) f = d (omega (arith, apart 1 (h + x) (h + y) old b (omega arith) (omega arith) (omega arith) f))
moved-differs h old b x y p q d (inr e) f = d (omega (arith, apart 256 (h + x) (h + y) old b (omega arith) (omega arith) (omega arith) f))

-- What a changed byte leaves: words that it is not in, and the parts that end before it.
words-kept : (c : ℕ) (l : List ℕ) (i b : ℕ) → c * 2 ≤ i → words_of c (set l i b) ≡ words_of c l
words-kept zero l i b h = refl
words-kept (suc c) l i b h =
    let e : 2 + (i - 2) ≡ i = omega arith in
    let d = rw e at (drop-set-add 2 l (i - 2) b) in
    rw (word_kept l i b 0 (omega arith), d, words-kept c (drop 2 l) (i - 2) b (omega arith))

part-kept : (limit len : ℕ) (l : List ℕ) (i b : ℕ) → record_head_bytes ≤ i → part_of limit len (set l i b) ≡ part_of limit len l
unfolding part_of record_of place_of tail_of
part-kept limit len l i b h =
    rw (length-set l i b, word_kept l i b 0 (omega arith), word_kept l i b address_at (omega arith), word_kept l i b count_at (omega arith))

-- A changed byte within words moves their sum.
words-moved : (c : ℕ) (l : List ℕ) (i b : ℕ) → i < c * 2 → c * 2 ≤ length l → Moved (get_or l i 0) b (total (words_of c l)) (total (words_of c (set l i b)))
unfolding word_at
words-moved zero l i b h k = absurd (omega arith)
words-moved (suc c) [] i b h k = absurd (omega arith)
words-moved (suc c) (x ∷ []) i b h k = absurd (omega arith)
words-moved (suc c) (x ∷ y ∷ l) zero b h k = inr (omega arith)
words-moved (suc c) (x ∷ y ∷ l) (suc zero) b h k = inl (omega arith)
words-moved (suc c) (x ∷ y ∷ l) (suc (suc i)) b h k =
    let w = moved_more (x * 256 + y) 0 (get_or l i 0) b (total (words_of c l)) (total (words_of c (set l i b))) (words-moved c l i b (omega arith) (omega arith)) in
    ⊎_elim (λ e. inl (omega arith)) (λ e. inr (omega arith)) w

-- What a body with a changed byte reads: records of the same shape, whose sum has moved.
record Damaged (limit len : ℕ) (l : List ℕ) (rs : List Record) (s i b : ℕ) : Type 0 where
  records : List Record
  reads : body_of limit len (set l i b) ≡ whole records s
  moved : Moved (get_or l i 0) b (records_sum rs) (records_sum records)

in-words-from : (rs : List Record) (at i : ℕ) → InWords rs at i → at + record_head_bytes ≤ i
in-words-from [] at i p = absurd p
in-words-from (r ∷ rs) at i (inl p) = p.0
in-words-from (r ∷ rs) at i (inr p) = omega (arith, in-words-from rs (at + record_bytes (length r.words)) i p)

module _ (limit len : ℕ) (l : List ℕ) (r : Record) (rs : List Record) (s j b : ℕ) (f : Front limit len l r rs s) where
  -- the front's own part is read as before
  front_kept : record_head_bytes ≤ j → body_of limit len (set l j b) ≡ with_record (record_at f.address f.count (set l j b)) (body_of limit len (drop (record_bytes f.count) (set l j b)))
  front_kept h = body-law limit len (set l j b) ∙ ap (follow (body_of limit len) (set l j b)) (part-kept limit len l j b h ∙ f.part)

  damaged-here : record_head_bytes ≤ j → j < record_bytes f.count → Damaged limit len l (r ∷ rs) s j b
  damaged-here h k =
      let c = f.count in
      let o = (part_sound limit len l f.address c f.part).complete in
      let i = j - record_head_bytes in
      let e : record_head_bytes + i ≡ j = omega arith in
      let d = rw e at (drop-set-add record_head_bytes l i b) in
      let g = rw e at (get_or-drop record_head_bytes l i 0) in
      let w = words-moved c (drop record_head_bytes l) i b (omega arith) (omega (arith, length-drop record_head_bytes l)) in
      let n = words-length c (drop record_head_bytes l) in
      let n' = words-length c (set (drop record_head_bytes l) i b) in
      let q = record_at f.address c (set l j b) in
      record {
        records = q ∷ rs;
        reads = front_kept h ∙ rw (drop-set-lt (record_bytes c) l j b k, f.later);
        moved =
            rw (← f.is, d, ← g) (
            ⊎_elim (λ x. inl (omega arith)) (λ x. inr (omega arith)) w);
      }

  damaged-later : record_bytes f.count ≤ j → Damaged limit len (drop (record_bytes f.count) l) rs s (j - record_bytes f.count) b → Damaged limit len l (r ∷ rs) s j b
  damaged-later h k =
      let c = f.count in
      let i = j - record_bytes c in
      let e : record_bytes c + i ≡ j = omega arith in
      let d = rw e at (drop-set-add (record_bytes c) l i b) in
      let g = rw e at (get_or-drop (record_bytes c) l i 0) in
      let k₁ = j - record_head_bytes in
      let e₁ : record_head_bytes + k₁ ≡ j = omega arith in
      let d₁ = rw e₁ at (drop-set-add record_head_bytes l k₁ b) in
      let u : record_at f.address c (set l j b) ≡ r = rw (d₁, words-kept c (drop record_head_bytes l) k₁ b (omega arith)) f.is in
      record {
        records = r ∷ k.records;
        reads = front_kept (omega arith) ∙ rw (u, d, k.reads);
        moved =
            rw (← g) (
            ⊎_elim (λ x. inl (omega arith)) (λ x. inr (omega arith)) k.moved);
      }

damaged : (limit len : ℕ) (l : List ℕ) (rs : List Record) (s at j b : ℕ) → body_of limit len l ≡ whole rs s → InWords rs at (at + j) → Damaged limit len l rs s j b
damaged limit len l [] s at j b e p = absurd p
damaged limit len l (r ∷ rs) s at j b e (inl p) =
    let f = front limit len l r rs s e in
    let c = front-count limit len l r rs s f in
    damaged-here limit len l r rs s j b f (omega arith) (omega arith)
damaged limit len l (r ∷ rs) s at j b e (inr p) =
    let f = front limit len l r rs s e in
    let c = front-count limit len l r rs s f in
    let n = record_bytes (length r.words) in
    let h = in-words-from rs (at + n) (at + j) p in
    let i : at + n + (j - n) ≡ at + j = omega arith in
    let m = damaged limit len (drop (record_bytes f.count) l) rs s (at + n) (j - n) b f.later (rw i p) in
    damaged-later limit len l r rs s j b f (omega arith) (rw c at m)

-- A file that is loaded passed each test.
record Passed (head : ImageHead) (board : ℕ) (m : List ℕ) (rs : List Record) (stated : ℕ) : Type 0 where
  fits : too_long m ≡ false
  here : is_for head board ≡ true
  sum : sum_agrees (head_sum head) rs stated ≡ true

module _ (opening : List ℕ → Opening) (limit board : ℕ) (m file : List ℕ) (head : ImageHead) (rs : List Record)
    (k : GoodFile opening limit board m file head rs) where
  sum-passed : (t : Bool) → sum_agrees (head_sum head) rs k.stated ≡ t
      → (cond t (accept_load m rs) (refuse_load m SumDiffers)).answer ≡ answered (length rs) → sum_agrees (head_sum head) rs k.stated ≡ true
  sum-passed true f g = f
  sum-passed false f g = no_answer g

  board-passed : (t : Bool) → is_for head board ≡ t → too_long m ≡ false
      → (cond t (sum_tested m (head_sum head) (body_of limit (length m) (drop (head_length head) file))) (refuse_load m WrongBoard)).answer ≡ answered (length rs)
      → Passed head board m rs k.stated
  board-passed true f a g =
      record { fits = a; here = f; sum = sum-passed (sum_agrees (head_sum head) rs k.stated) refl (rw k.reads at g) }
  board-passed false f a g = no_answer g

  length-passed : (t : Bool) → too_long m ≡ t
      → (cond t (refuse_load m MemoryTooLong) (board_tested limit board m file (opening file))).answer ≡ answered (length rs)
      → Passed head board m rs k.stated
  length-passed true a g = no_answer g
  length-passed false a g = board-passed (is_for head board) refl a (rw k.opens at g)

  passed : Passed head board m rs k.stated
  unfolding load_with
  passed = length-passed (too_long m) refl k.loads

pub byte-changed : ByteChanged
unfolding checksum
byte-changed opening alone limit board m file head rs k i b p o q d =
    let u = passed opening limit board m file head rs k in
    let size = head_length head in
    let h = in-words-from rs size i p in
    let j = i - size in
    let e : size + j ≡ i = omega arith in
    let w = damaged limit (length m) (drop size file) rs k.stated size j b k.reads (rw e p) in
    let g : get_or (drop size file) j 0 ≡ get_or file i 0 = rw e at (get_or-drop size file j 0) in
    let c : drop size (set file i b) ≡ set (drop size file) j b = rw e at (drop-set-add size file j b) in
    let v = rw g at w.moved in
    let s = eqb-true (checksum (head_sum head) rs) k.stated u.sum in
    load-head opening limit board m (set file i b) u.fits (alone file head k.opens i b (omega arith))
    ∙ cond-true _ _ u.here
    ∙ rw (c, w.reads) (cond-false _ _ (ne_eqb (checksum (head_sum head) w.records) k.stated (λ z.
    moved-differs (head_sum head) (get_or file i 0) b (records_sum rs) (records_sum w.records) o q d v (z ∙ sym s))))

-- .. of a file that document 01's own loader takes
pub own-byte-changed : OwnByteChanged
own-byte-changed = byte-changed head_of own-head.alone record_limit
