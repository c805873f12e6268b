-- Laws of the records of a region, and of the writer's loop.
use Prim.Native.Nat.{ℕ, zero, suc, min, ◌+◌, ◌-◌, ◌*◌, ◌%◌, ◌<◌, ◌≤◌}
use mathlib.Core.Path.{◌≡◌, refl, sym, ap, ◌∙◌}
use mathlib.Core.List.{List, [], ◌∷◌, ◌++◌, append_assoc, append-nil}
use native.Mathlib.Omega.{arith}
use borrow.Rule.Slice.PartMut.{mid_of, put_mid, mid_len}
use lib.Dec.{lit<}
use lib.ListN.{length, take, drop, length-append, length-take, length-drop}
use lib.Seq.{take_all, take-append_seam, drop-append_seam}
use borrow.Author.Tests.{lt-ltb, le-ltb}
use Rattle.refusal.specs.declared.Refusal.TheVariants.{RoomTooSmall}
use Rattle.refusal.proofs.ReportLaws.{reported-apart}
use Rattle.word.specs.Word.{wrap_add}
use Rattle.word.proofs.Choice.{cond-true, cond-false}
use Rattle.std.proofs.Common.{Ok}
use Rattle.bigendian.specs.Numbers.{bytes_of, total, fitting, put_words}
use Rattle.bigendian.proofs.NumberLaws.{bytes-length, put-fits}
use Rattle.bigendian.proofs.PutLaws.{put-length, put-behind, put_whole, part-put}
use Rattle.records.specs.Records.{Record, record_over, overwrite}
use Rattle.records.specs.Cut.{cut_of, record_count}
use Rattle.records.proofs.OverLaws.{overwrite-sets}
use Rattle.records.proofs.RegionLaws.{cut-none, cut-some, cut_holds, cut-laws}
use Rattle.image.specs.Format.{record_limit, id_mark, ok_mark, board_at, head_bytes, address_at, count_at, record_head_bytes, sum_at}
use Rattle.image.specs.Format.{tail_bytes, record_bytes, record_sum, records_sum, checksum, id_head, head_words, head_sum}
use Rattle.image.specs.Format.{record_words, records_words, tail_words, image_of}
use Rattle.image.specs.Answer.{WriteAnswersApart}
use Rattle.image.specs.Write.{image_length, refuse_write, writing, wrote}
use Rattle.image.specs.Inner.Emit.{RecordsPut}
use Rattle.image.proofs.LoadLaws.{one_number}
use Rattle.image.proofs.PassLaws.{mod-left, mod-right}

pub write-answers-apart : WriteAnswersApart
write-answers-apart = reported-apart (λ bytes. bytes) (λ a b e. e)

-- numbers put behind those that were put
laid_more : (d : List ℕ) (at : ℕ) (xs ys : List ℕ) {d1 d2 : List ℕ} {next : ℕ} → d1 ≡ put_words d at xs → next ≡ at + length xs * 2 → d2 ≡ put_words d1 next ys
    → d2 ≡ put_words d at (xs ++ ys)
laid_more d at xs ys e f g = rw (g, e, f) (put-behind d at xs ys)

-- A record's mark x, address y and count z, and then its words, over a room that they fill.
module _ (d : List ℕ) (x y z : ℕ) (ws : List ℕ) (h : length d ≡ record_bytes (length ws)) {d1 d2 d3 : List ℕ} (e1 : d1 ≡ put_words d 0 (x ∷ []))
    (e2 : d2 ≡ put_words d1 address_at (y ∷ [])) (e3 : d3 ≡ put_words d2 count_at (z ∷ [])) where
  pub record-put : {d4 : List ℕ} → d4 ≡ put_words d3 record_head_bytes ws → d4 ≡ bytes_of (x ∷ y ∷ z ∷ ws)
  record-put e4 =
      let p2 = laid_more d 0 (x ∷ []) (y ∷ []) e1 refl e2 in
      let p3 = laid_more d 0 (x ∷ y ∷ []) (z ∷ []) p2 refl e3 in
      laid_more d 0 (x ∷ y ∷ z ∷ []) ws p3 refl e4 ∙ put_whole d (x ∷ y ∷ z ∷ ws) (omega arith)

  -- all of the words fit
  all_fit : take (fitting (length d3) record_head_bytes) ws ≡ ws
  all_fit =
      let l : length d3 ≡ length d = rw (e3, e2, e1) (put-length _ count_at _ ∙ put-length _ address_at _ ∙ put-length d 0 (x ∷ [])) in
      take_all (fitting (length d3) record_head_bytes) ws (omega arith)

  -- what the record adds to a sum, from the code's two: of address and count, and of the words that were put
  pub record-sums : {s t r : ℕ} → s ≡ wrap_add y (length ws) → t ≡ total (take (fitting (length d3) record_head_bytes) ws) % 65536 → r ≡ wrap_add s t
      → r ≡ record_sum (record_over y ws) % 65536
  unfolding wrap_add
  record-sums f g i =
      rw (i, f, rw all_fit at g) (mod-left (y + length ws) (total ws % 65536) ∙ mod-right (y + length ws) (total ws))

take-of-take : (n : ℕ) (l : List ℕ) → take (length (take n l)) l ≡ take n l
take-of-take zero l = refl
take-of-take (suc n) [] = refl
take-of-take (suc n) (x ∷ l) = ap (λ (r : List ℕ). x ∷ r) (take-of-take n l)

drop_of_take : (n : ℕ) (l : List ℕ) → drop (length (take n l)) l ≡ drop n l
drop_of_take zero l = refl
drop_of_take (suc n) [] = refl
drop_of_take (suc n) (x ∷ l) = drop_of_take n l

records-append : (rs qs : List Record) → records_words (rs ++ qs) ≡ records_words rs ++ records_words qs
records-append [] qs = refl
records-append (r ∷ rs) qs = ap (λ (l : List ℕ). record_words r ++ l) (records-append rs qs) ∙ sym (append_assoc (record_words r) (records_words rs) (records_words qs))

sums-append : (rs qs : List Record) → records_sum (rs ++ qs) ≡ records_sum rs + records_sum qs
sums-append [] qs = omega arith
sums-append (r ∷ rs) qs = omega (arith, sums-append rs qs)

-- the limit is no 0, so that each record takes a word or more
some_words : 0 < record_limit
some_words = lit< tt

-- each record has three words before its own
cut-words : (limit : ℕ) → 0 < limit → (a : ℕ) (ws : List ℕ) → length (records_words (cut_of limit a ws)) ≡ length (cut_of limit a ws) * 3 + length ws
cut-words limit p =
    cut_holds limit p (λ a ws rs. length (records_words rs) ≡ length rs * 3 + length ws) (λ a ws h. omega arith) (λ a ws rs h ih.
    let lc = length-take limit ws in
    let ld = length-drop limit ws in
    omega (arith, length-append (take limit ws) (records_words rs)))

pub words-of-cut : (first : ℕ) (region : List ℕ)
    → length (records_words (cut_of record_limit first region)) ≡ record_count record_limit (length region) * 3 + length region
words-of-cut first region =
    cut-words record_limit some_words first region
    ∙ ap (λ (n : ℕ). n * 3 + length region) (cut-laws.count record_limit first region some_words)

sums-more : (x y : ℕ) {s t r : ℕ} → s ≡ x % 65536 → t ≡ y % 65536 → r ≡ wrap_add s t → r ≡ (x + y) % 65536
unfolding wrap_add
sums-more x y e f g = rw (g, e, f) (mod-left x (y % 65536) ∙ mod-right x y)

-- The writer's loop: the records of the region's words before those that are left stand in the room, and the next one begins at `address`.
pub record Emitting (room₀ : List ℕ) (first : ℕ) (region left room : List ℕ) (at address sum : ℕ) : Type 0 where
  pub done : List Record
  pub within : address + length left ≡ first + length region
  pub all : done ++ cut_of record_limit address left ≡ cut_of record_limit first region
  pub fits : head_bytes + tail_bytes + length (records_words (cut_of record_limit first region)) * 2 ≤ length room₀
  pub place : at ≡ head_bytes + length (records_words done) * 2
  pub laid : room ≡ put_words room₀ head_bytes (records_words done)
  pub sums : sum ≡ records_sum done % 65536

pub emitting : (room : List ℕ) (first : ℕ) (region : List ℕ) → image_length head_bytes record_limit (length region) ≤ length room
    → Emitting room first region region room head_bytes first 0
emitting room first region h =
    let l = words-of-cut first region in
    record {
      done = [];
      within = refl;
      all = refl;
      fits = omega arith;
      place = refl;
      laid = sym (put-fits room head_bytes [] (omega arith));
      sums = refl;
    }

pub emitting-length : {room₀ : List ℕ} {first : ℕ} {region left room : List ℕ} {at address sum : ℕ}
    → Emitting room₀ first region left room at address sum → length room ≡ length room₀
emitting-length {room₀} k = ap length k.laid ∙ put-length room₀ head_bytes (records_words k.done)

-- What is left, some words, is a record's and the rest.
pub record Taken (left ws rest : List ℕ) : Type 0 where
  pub some : 0 < length left
  pub is : left ≡ ws ++ rest
  pub size : length ws ≡ min record_limit (length left)

module _ {left ws rest : List ℕ} (x : Taken left ws rest) where
  same-length : length (take record_limit left) ≡ length ws
  same-length = length-take record_limit left ∙ sym x.size

  words-are : take record_limit left ≡ ws
  words-are = sym (take-of-take record_limit left) ∙ rw (same-length, x.is) (take-append_seam ws rest)

  rest-is : drop record_limit left ≡ rest
  rest-is = sym (drop_of_take record_limit left) ∙ rw (same-length, x.is) (drop-append_seam ws rest)

module _ {room₀ : List ℕ} {first : ℕ} {region left room : List ℕ} {at address sum : ℕ} (k : Emitting room₀ first region left room at address sum) where
  -- one record more, of the words that the code takes off
  module _ {ws rest : List ℕ} (x : Taken left ws rest) where
    next : Record
    next = record_over address ws

    later : List Record
    later = cut_of record_limit (address + length ws) rest

    cut-next : cut_of record_limit first region ≡ k.done ++ (next ∷ later)
    unfolding next later
    cut-next =
        sym k.all
        ∙ ap (λ (l : List Record). k.done ++ l) (cut-some record_limit some_words address left x.some ∙ rw (words-are x, rest-is x))

    pub emitting-fits : at + record_bytes (length ws) ≤ length room
    unfolding next
    emitting-fits =
        let p = k.place in
        let g = rw (cut-next, records-append k.done (next ∷ later)) at k.fits in
        let la = length-append (records_words k.done) (records_words (next ∷ later)) in
        let lb = length-append ws (records_words later) in
        omega (arith, emitting-length k)

    pub emitting-room : length (mid_of at (at + record_bytes (length ws) - at) room) ≡ record_bytes (length ws)
    emitting-room = mid_len at (at + record_bytes (length ws)) room emitting-fits ∙ omega arith

    pub emitting-on : {part : List ℕ} {t sum' : ℕ}
        → part ≡ bytes_of (record_words (record_over address ws)) → t ≡ record_sum (record_over address ws) % 65536 → sum' ≡ wrap_add sum t
        → Emitting room₀ first region rest (put_mid at (at + record_bytes (length ws) - at) room part) (at + record_bytes (length ws)) (address + length ws) sum'
    unfolding next later
    emitting-on {part} {t} {sum'} p q s =
        let n = records_words k.done in
        let w = record_words next in
        let a : records_words (k.done ++ (next ∷ [])) ≡ n ++ w = records-append k.done (next ∷ []) ∙ ap (λ (l : List ℕ). n ++ l) (append-nil w) in
        let la = length-append n w in
        let pl = k.place in
        let ln : length left ≡ length ws + length rest = ap length x.is ∙ length-append ws rest in
        let o : put_mid at (at + record_bytes (length ws) - at) room part ≡ put_words room at w =
        rw p (part-put room at (at + record_bytes (length ws)) w (omega arith) emitting-fits) in
        record {
          done = k.done ++ (next ∷ []);
          within = omega (arith, k.within);
          all = rw (append_assoc k.done (next ∷ [])) (sym cut-next);
          fits = k.fits;
          place = rw a (omega arith);
          laid = laid_more room₀ head_bytes n w k.laid k.place o ∙ ap (put_words room₀ head_bytes) (sym a);
          sums =
              sums-more (records_sum k.done) (record_sum next) k.sums q s
              ∙ ap (λ (x : ℕ). x % 65536) (omega (arith, sums-append k.done (next ∷ [])));
        }

  -- nothing is left
  pub emitting-end : length left ≡ 0 → RecordsPut room₀ (cut_of record_limit first region) room sum
  emitting-end h =
      let n = cut-none record_limit some_words address left (omega arith) in
      let e : cut_of record_limit first region ≡ k.done = sym k.all ∙ ap (λ (l : List Record). k.done ++ l) n ∙ append-nil k.done in
      rw e (record { sum = k.sums; room = k.laid })

-- The whole file.
module _ (board first : ℕ) (region : List ℕ) where
  abbrev cut : List Record
  cut = cut_of record_limit first region

  abbrev file : List ℕ
  file = image_of (id_head board) (cut_of record_limit first region)

  pub image-length : length file ≡ image_length head_bytes record_limit (length region)
  unfolding image_of
  image-length =
      let ws = records_words cut in
      let s = checksum (head_sum (id_head board)) cut in
      let lb = bytes-length (head_words (id_head board) ++ (ws ++ tail_words s)) in
      let la = length-append ws (tail_words s) in
      omega (arith, words-of-cut first region)

  module _ (d : List ℕ) {b : ℕ} (e : b ≡ image_length head_bytes record_limit (length region)) where
    pub room-short : length d < b → refuse_write d RoomTooSmall ≡ writing d file
    unfolding writing
    room-short h = sym (cond-true _ _ (lt-ltb (length d) (length file) (omega (arith, image-length))))

    -- the head, the records and the tail, put one after the other
    module _ {d1 d2 d3 d4 d5 : List ℕ} {sum s : ℕ} (e1 : d1 ≡ put_words d 0 (id_mark ∷ [])) (e2 : d2 ≡ put_words d1 board_at (board ∷ []))
        (e3 : RecordsPut d2 cut d3 sum)
        (e4 : d4 ≡ put_words d3 (b - tail_bytes) (ok_mark ∷ [])) (es : s ≡ wrap_add board sum)
        (e5 : d5 ≡ put_words d4 (b - tail_bytes + sum_at) (s ∷ [])) where
      sum_is : s ≡ checksum (head_sum (id_head board)) cut
      unfolding wrap_add checksum
      sum_is = rw (es, e3.sum, one_number board) (mod-right board (records_sum cut))

      image-put : d5 ≡ put_words d 0 (head_words (id_head board) ++ (records_words cut ++ tail_words s))
      image-put =
          let ws = records_words cut in
          let f : b - tail_bytes ≡ head_bytes + length ws * 2 = omega (arith, words-of-cut first region) in
          let head = laid_more d 0 (id_mark ∷ []) (board ∷ []) e1 refl e2 in
          let tail = laid_more d3 (b - tail_bytes) (ok_mark ∷ []) (s ∷ []) e4 refl e5 in
          laid_more d 0 (head_words (id_head board)) (ws ++ tail_words s) head refl (laid_more d2 head_bytes ws (tail_words s) e3.room f tail)

      pub room-written : b ≤ length d → wrote (Ok b) d5 ≡ writing d file
      unfolding writing image_of
      room-written h =
          let l : length file ≡ b = image-length ∙ sym e in
          let ws = head_words (id_head board) ++ (records_words cut ++ tail_words (checksum (head_sum (id_head board)) cut)) in
          let o : d5 ≡ overwrite d 0 file =
          rw sum_is at image-put ∙ put-fits d 0 ws (omega (arith, bytes-length ws)) ∙ sym (overwrite-sets d 0 file (omega arith)) in
          sym (cond-false _ _ (le-ltb (length d) (length file) (omega arith)) ∙ rw (l, o))
