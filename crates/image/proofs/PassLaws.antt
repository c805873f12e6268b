-- The loops' invariants, and what each turn of a loop does to them.
use Prim.Native.Nat.{ℕ, suc, ◌+◌, ◌-◌, ◌*◌, ◌%◌, ◌<◌, ◌≤◌}
use mathlib.Core.Path.{◌≡◌, refl, sym, ap, ◌∙◌}
use mathlib.Core.Bool.{true}
use Rattle.std.proofs.Common.{Ok, Err}
use mathlib.Core.List.{List}
use native.Mathlib.Omega.{arith}
use lib.Dec.{lit<}
use lib.ListN.{length, take, drop, length-take, length-drop}
use lib.Seq.{length-take-le, take-add, drop_at, drop-drop, sets}
use Rattle.refusal.specs.declared.Refusal.{Refusal}
use Rattle.word.specs.Word.{wrap_add}
use Rattle.word.proofs.WordLaws.{add_low}
use Rattle.bigendian.specs.Numbers.{word_at, words_of, all_words, total}
use Rattle.bigendian.proofs.NumberLaws.{word-drop, words-length, words-front}
use Rattle.records.specs.Records.{Record, overwrite}
use Rattle.records.proofs.OverLaws.{overwrite-sets, overwrite-length}
use Rattle.image.specs.Format.{address_at, count_at, record_head_bytes, record_bytes, record_at, record_sum, records_sum}
use Rattle.image.specs.Read.{Part, record_part, tail_part, offence_part, part_of, Body, whole, broken, with_record, follow}
use Rattle.image.specs.Read.{body_of, record_first, none_first, first_of}
use Rattle.image.specs.Inner.Pass.{summary, is_whole, placed_body}
use Rattle.image.proofs.ReadLaws.{Sound, part_sound, body-law}
use Rattle.image.proofs.FirstLaws.{first_part}

-- a sum modulo 65,536 may be taken modulo 65,536 on the way
pub mod-left : (x y : ℕ) → (x % 65536 + y) % 65536 ≡ (x + y) % 65536
mod-left x y = omega arith

pub mod-right : (x y : ℕ) → (x + y % 65536) % 65536 ≡ (x + y) % 65536
mod-right x y = omega arith

-- The c words behind a record's head, read from the bytes up to the record's end.
module _ (bytes : List ℕ) (c : ℕ) (whole : record_bytes c ≤ length bytes) where
  abbrev part : List ℕ
  part = take (record_bytes c - record_head_bytes) (drop record_head_bytes bytes)

  abbrev words : List ℕ
  words = words_of c (drop record_head_bytes bytes)

  words-read : all_words part ≡ words
  words-read =
      let e : record_bytes c - record_head_bytes ≡ c * 2 = omega arith in
      rw e (words-front c (drop record_head_bytes bytes) (omega (arith, length-drop record_head_bytes bytes)))

  pub words-stored : (m : List ℕ) (a : ℕ) → a + c ≤ length m → sets m a (all_words part) ≡ overwrite m a words
  words-stored m a h =
      let l = words-length c (drop record_head_bytes bytes) in
      rw words-read (sym (overwrite-sets m a words (omega arith)))

  -- address, count and words: all numbers of the record but the mark
  pub numbers-added : word_at bytes count_at ≡ c → total (all_words (drop address_at (take (record_bytes c) bytes))) ≡ record_sum (record_at (word_at bytes address_at) c bytes)
  numbers-added e =
      let s : record_bytes c ≡ address_at + suc (suc c) * 2 = omega arith in
      let f = words-front (suc (suc c)) (drop address_at bytes) (omega (arith, length-drop address_at bytes)) in
      let n = words-length c (drop record_head_bytes bytes) in
      let d : drop address_at (take (record_bytes c) bytes) ≡ take (suc (suc c) * 2) (drop address_at bytes) =
      rw (s, take-add address_at (suc (suc c) * 2) bytes) (drop_at (take address_at bytes) (take (suc (suc c) * 2) (drop address_at bytes)) address_at (length-take-le address_at bytes (omega arith))) in
      let x : drop 2 (drop 2 bytes) ≡ drop 4 bytes = drop-drop 2 2 bytes in
      let y : drop 2 (drop 4 bytes) ≡ drop 6 bytes = drop-drop 2 4 bytes in
      rw (d, f, x, y) (omega (arith, word-drop bytes 2 0, word-drop bytes 4 0))

-- One record more of a body: what the first pass makes of it.
summary-on : (n sum next : ℕ) (r : Record) (b : Body) → next ≡ wrap_add sum (record_sum r % 65536) → summary (n + 1) next b ≡ summary n sum (with_record r b)
unfolding wrap_add
summary-on n sum next r (whole rs stated) h =
    let e : n + 1 + length rs ≡ n + suc (length rs) = omega arith in
    let f : (next + records_sum rs) % 65536 ≡ (sum + (record_sum r + records_sum rs)) % 65536 = omega arith in
    rw (e, f)
summary-on n sum next r (broken e) h = refl

-- The first pass: the records before those that are left of a body are counted and summed. It is read with this limit for a memory of len
-- words.
pub record Checking (limit len : ℕ) (body left : List ℕ) (n sum : ℕ) : Type 0 where
  pub few : n + length left ≤ length body
  pub small : sum < 65536
  pub same : summary n sum (body_of limit len left) ≡ summary 0 0 (body_of limit len body)

pub checking : (limit len : ℕ) (body : List ℕ) → Checking limit len body body 0 0
checking limit len body = record { few = omega arith; small = lit< tt; same = refl }

-- what the next part shows
module _ (limit len : ℕ) (left : List ℕ) {p : Part} (e : p ≡ part_of limit len left) where
  pub part-whole : {a c : ℕ} → p ≡ record_part a c → Sound limit len left a c
  part-whole {a} {c} f = part_sound limit len left a c (sym e ∙ f)

  -- the bytes of a record that is read go past its mark
  pub reading-past-mark : {a c : ℕ} → p ≡ record_part a c → address_at ≤ length (take (record_bytes c) left)
  reading-past-mark {a} {c} f = omega (arith, (part-whole f).complete, length-take (record_bytes c) left)

  body_is : {q : Part} → p ≡ q → body_of limit len left ≡ follow (body_of limit len) left q
  body_is f = body-law limit len left ∙ ap (follow (body_of limit len) left) (sym e ∙ f)

module _ {limit len : ℕ} {body left : List ℕ} {n sum : ℕ} {p : Part} (k : Checking limit len body left n sum) (e : p ≡ part_of limit len left) where
  pub checking-on : {a c t next : ℕ} → p ≡ record_part a c
      → t ≡ total (all_words (drop address_at (take (record_bytes c) left))) % 65536 → next ≡ wrap_add sum t
      → Checking limit len body (drop (record_bytes c) left) (n + 1) next
  checking-on {a} {c} {t} {next} f g h =
      let s = part-whole limit len left e f in
      let v = rw s.address at (numbers-added left c s.complete s.count) in
      let u : next ≡ wrap_add sum (record_sum (record_at a c left) % 65536) = h ∙ ap (wrap_add sum) (rw v at g) in
      record {
        few = omega (arith, k.few, s.complete, length-drop (record_bytes c) left);
        small = rw h (add_low sum t);
        same =
            summary-on n sum next (record_at a c left) (body_of limit len (drop (record_bytes c) left)) u
            ∙ ap (summary n sum) (sym (body_is limit len left e f))
            ∙ k.same;
      }

  pub checking-tail : {stated : ℕ} → p ≡ tail_part stated → Ok (record { records = n; sum = sum; stated = stated }) ≡ summary 0 0 (body_of limit len body)
  checking-tail {stated} f =
      let z : n + 0 ≡ n = omega arith in
      let m : (sum + 0) % 65536 ≡ sum = omega (arith, k.small) in
      rw (z, m) at (ap (summary n sum) (sym (body_is limit len left e f))) ∙ k.same

  pub checking-broken : {r : Refusal} → p ≡ offence_part r → Err r ≡ summary 0 0 (body_of limit len body)
  checking-broken f = ap (summary n sum) (sym (body_is limit len left e f)) ∙ k.same

whole-rest : (r : Record) (b : Body) → is_whole (with_record r b) ≡ true → is_whole b ≡ true
whole-rest r (whole rs stated) h = refl
whole-rest r (broken e) h = h

placed-rest : (m : List ℕ) (r : Record) (b : Body) → is_whole b ≡ true → placed_body (overwrite m r.address r.words) b ≡ placed_body m (with_record r b)
placed-rest m r (whole rs stated) h = refl
placed-rest m r (broken e) h = let z : ◌≡◌ {A = ℕ} 0 1 = cc in absurd (omega arith)

placed_none : (on : List ℕ → Body) (m bytes : List ℕ) (p : Part) → none_first ≡ first_of p → placed_body m (follow on bytes p) ≡ m
placed_none on m bytes (record_part a c) e = let z : ◌≡◌ {A = ℕ} 0 1 = cc in absurd (omega arith)
placed_none on m bytes (tail_part s) e = refl
placed_none on m bytes (offence_part r) e = refl

-- The second pass: the records before those that are left of a body are stored, and what is left is known to be whole.
pub record Storing (limit : ℕ) (body m₀ left m : List ℕ) : Type 0 where
  pub size : length m ≡ length m₀
  pub good : is_whole (body_of limit (length m₀) left) ≡ true
  pub same : placed_body m (body_of limit (length m₀) left) ≡ placed_body m₀ (body_of limit (length m₀) body)

pub storing : (limit : ℕ) (body m : List ℕ) → is_whole (body_of limit (length m) body) ≡ true → Storing limit body m body m
storing limit body m h = record { size = refl; good = h; same = refl }

module _ {limit : ℕ} {body m₀ left m : List ℕ} (k : Storing limit body m₀ left m) where
  -- the memory keeps its length, so that both passes read alike
  module _ {a c : ℕ} (e : record_first a c ≡ first_of (part_of limit (length m) left)) where
    front-is : part_of limit (length m₀) left ≡ record_part a c
    front-is = first_part a c _ (rw k.size at e)

    pub storing-part : Sound limit (length m₀) left a c
    storing-part = part_sound limit (length m₀) left a c front-is

    pub storing-on : {n : List ℕ} → n ≡ overwrite m a (record_at a c left).words → Storing limit body m₀ (drop (record_bytes c) left) n
    storing-on {n} v =
        let r = record_at a c left in
        let b = body_of limit (length m₀) (drop (record_bytes c) left) in
        let w = storing-part.within in
        let l = words-length c (drop record_head_bytes left) in
        let o = overwrite-length m a r.words (omega (arith, k.size)) in
        let i = body_is limit (length m₀) left refl front-is in
        let h : is_whole b ≡ true = whole-rest r b (rw i at k.good) in
        record {
          size = ap length v ∙ o ∙ k.size;
          good = h;
          same = rw v (placed-rest m r b h ∙ ap (placed_body m) (sym i) ∙ k.same);
        }

  pub storing-end : none_first ≡ first_of (part_of limit (length m) left) → m ≡ placed_body m₀ (body_of limit (length m₀) body)
  storing-end e =
      sym (placed_none (body_of limit (length m₀)) m left (part_of limit (length m₀) left) (rw k.size at e))
      ∙ ap (placed_body m) (sym (body-law limit (length m₀) left))
      ∙ k.same
