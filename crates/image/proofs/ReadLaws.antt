-- Laws of reading: what a part shows, the body's equation without a count, and what holds of the records read.
use Prim.Native.Nat.{ℕ, zero, suc, ◌+◌, ◌<◌, ◌≤◌}
use mathlib.Core.Path.{◌≡◌, refl, sym, ap, ◌∙◌}
use mathlib.Core.List.{List, [], ◌∷◌}
use native.Mathlib.Omega.{arith}
use lib.Dec.{eqb, ltb}
use lib.ListN.{length, drop, length-drop}
use borrow.Author.Tests.{eqb-false, ltb-false, leb-true, le-leb}
use Rattle.refusal.specs.declared.Refusal.{Refusal}
use Rattle.refusal.specs.declared.Refusal.TheVariants.{MalformedImage, PastMemory}
use Rattle.bigendian.specs.Numbers.{word_at}
use Rattle.bigendian.proofs.NumberLaws.{words-length}
use Rattle.records.specs.Records.{Record, is_within}
use Rattle.image.specs.Format.{id_mark, at_mark, ok_mark, board_at, head_bytes, address_at, count_at, record_head_bytes, sum_at}
use Rattle.image.specs.Format.{tail_bytes, record_bytes, record_at, ImageHead, id_head}
use Rattle.image.specs.Read.{Opening, opened, unopened, head_of, Part, record_part, tail_part, offence_part, place_of, record_of}
use Rattle.image.specs.Read.{tail_of, part_of, Body, whole, broken, with_record, follow, body_from, body_of}
use Rattle.image.specs.Laws.{BodyEquation, ReadRecordsFit}
use Rattle.word.proofs.Choice.{cond_both, cond_either, cond-true}

-- what a record's part shows
pub record Sound (limit len : ℕ) (bytes : List ℕ) (a c : ℕ) : Type 0 where
  pub address : word_at bytes address_at ≡ a
  pub count : word_at bytes count_at ≡ c
  pub some : 0 < c
  pub few : c ≤ limit
  pub complete : record_bytes c ≤ length bytes
  pub within : a + c ≤ len

-- of any part but the record of c words at a, this says nothing
abbrev Claim : ℕ → ℕ → List ℕ → ℕ → ℕ → Part → Type 0
Claim limit len bytes a c p = p ≡ record_part a c → Sound limit len bytes a c

module _ (limit len : ℕ) (bytes : List ℕ) (a c : ℕ) where
  offence : (e : Refusal) → Claim limit len bytes a c (offence_part e)
  offence e f = let z : ◌≡◌ {A = ℕ} 0 1 = cc in absurd (omega arith)

  tail : (s : ℕ) → Claim limit len bytes a c (tail_part s)
  tail s f = let z : ◌≡◌ {A = ℕ} 0 1 = cc in absurd (omega arith)

  abbrev a₁ : ℕ
  a₁ = word_at bytes address_at

  abbrev c₁ : ℕ
  c₁ = word_at bytes count_at

  place-sound : Claim limit len bytes a c (place_of limit len bytes a₁ c₁)
  unfolding place_of
  place-sound =
      cond_either (Claim limit len bytes a c) (eqb c₁ 0) (λ e. offence MalformedImage) (λ e0.
      cond_either (Claim limit len bytes a c) (ltb limit c₁) (λ e. offence MalformedImage) (λ e1.
      cond_either (Claim limit len bytes a c) (ltb (length bytes) (record_bytes c₁)) (λ e. offence MalformedImage) (λ e2.
      cond_either (Claim limit len bytes a c) (is_within len a₁ c₁) (λ e3. λ f.
      let ea : a₁ ≡ a = cc in
      let ec : c₁ ≡ c = cc in
      let n0 = eqb-false c₁ 0 e0 in
      let n1 = ltb-false limit c₁ e1 in
      let n2 = ltb-false (length bytes) (record_bytes c₁) e2 in
      let n3 = leb-true (a₁ + c₁) len e3 in
      record { address = ea; count = ec; some = omega arith; few = omega arith; complete = omega arith; within = omega arith }) (λ e. offence PastMemory))))

  pub part_sound : part_of limit len bytes ≡ record_part a c → Sound limit len bytes a c
  unfolding part_of record_of tail_of
  part_sound =
      cond_both (Claim limit len bytes a c) (ltb (length bytes) 2) (offence MalformedImage)
      (cond_both (Claim limit len bytes a c) (eqb (word_at bytes 0) at_mark)
      (cond_both (Claim limit len bytes a c) (ltb (length bytes) record_head_bytes) (offence MalformedImage) place-sound)
      (cond_both (Claim limit len bytes a c) (eqb (word_at bytes 0) ok_mark)
      (cond_both (Claim limit len bytes a c) (eqb (length bytes) tail_bytes) (tail (word_at bytes sum_at)) (offence MalformedImage))
      (offence MalformedImage)))

-- what a head that is read says: it is an `ID` head, and there whole
pub record Headed (file : List ℕ) (head : ImageHead) : Type 0 where
  pub named : ℕ
  pub is : head ≡ id_head named
  pub complete : head_bytes ≤ length file

abbrev Shown : List ℕ → ImageHead → Opening → Type 0
Shown file head o = o ≡ opened head → Headed file head

unheaded : (file : List ℕ) (head : ImageHead) → Shown file head (unopened MalformedImage)
unheaded file head f = let z : ◌≡◌ {A = ℕ} 0 1 = cc in absurd (omega arith)

pub head-shown : (file : List ℕ) (head : ImageHead) → head_of file ≡ opened head → Headed file head
unfolding head_of
head-shown file head =
    cond_either (Shown file head) (ltb (length file) head_bytes) (λ e. unheaded file head) (λ e.
    cond_both (Shown file head) (eqb (word_at file 0) id_mark)
    (λ f. let g : head ≡ id_head (word_at file board_at) = cc in
    record { named = word_at file board_at; is = g; complete = ltb-false (length file) head_bytes e })
    (unheaded file head))

-- two readers that agree on what follows a record
follow-same : (f g : List ℕ → Body) (bytes : List ℕ) (p : Part)
    → ((c : ℕ) → f (drop (record_bytes c) bytes) ≡ g (drop (record_bytes c) bytes)) → follow f bytes p ≡ follow g bytes p
follow-same f g bytes (record_part a c) h = ap (with_record (record_at a c bytes)) (h c)
follow-same f g bytes (tail_part s) h = refl
follow-same f g bytes (offence_part e) h = refl

part-nil : (limit len : ℕ) → part_of limit len [] ≡ offence_part MalformedImage
unfolding part_of
part-nil limit len = refl

nil : (bytes : List ℕ) → length bytes ≤ 0 → bytes ≡ []
nil [] h = refl
nil (x ∷ bytes) h = absurd (omega arith)

-- any count that the bytes do not outnumber gives the same body
body_more : (n k : ℕ) (limit len : ℕ) (bytes : List ℕ) → length bytes ≤ n → length bytes ≤ k → body_from n limit len bytes ≡ body_from k limit len bytes
body_more zero zero limit len bytes h l = refl
body_more zero (suc k) limit len bytes h l = rw (nil bytes h, part-nil)
body_more (suc n) zero limit len bytes h l = rw (nil bytes l, part-nil)
body_more (suc n) (suc k) limit len bytes h l =
    follow-same (body_from n limit len) (body_from k limit len) bytes (part_of limit len bytes) (λ c.
    let d = length-drop (record_bytes c) bytes in
    body_more n k limit len (drop (record_bytes c) bytes) (omega arith) (omega arith))

pub body-law : BodyEquation
unfolding body_of
body-law limit len bytes =
    body_more (length bytes) (suc (length bytes)) limit len bytes (omega arith) (omega arith)
    ∙ follow-same (body_from (length bytes) limit len) (body_of limit len) bytes (part_of limit len bytes) (λ c.
    let d = length-drop (record_bytes c) bytes in
    body_more (length bytes) (length (drop (record_bytes c) bytes)) limit len (drop (record_bytes c) bytes) (omega arith) (omega arith))

-- a record has as many words as its count says
pub record-length : (address count : ℕ) (bytes : List ℕ) → length (record_at address count bytes).words ≡ count
record-length address count bytes = words-length count (drop record_head_bytes bytes)

-- A body with a record has it at its front.
pub record Front (limit len : ℕ) (bytes : List ℕ) (r : Record) (rs : List Record) (stated : ℕ) : Type 0 where
  pub address : ℕ
  pub count : ℕ
  pub part : part_of limit len bytes ≡ record_part address count
  pub is : record_at address count bytes ≡ r
  pub later : body_of limit len (drop (record_bytes count) bytes) ≡ whole rs stated

module _ (limit len : ℕ) (bytes : List ℕ) (r : Record) (rs : List Record) (stated : ℕ) where
  front-record : (a c : ℕ) → part_of limit len bytes ≡ record_part a c → (b : Body) → body_of limit len (drop (record_bytes c) bytes) ≡ b
      → with_record (record_at a c bytes) b ≡ whole (r ∷ rs) stated → Front limit len bytes r rs stated
  front-record a c f (whole qs t) e g =
      let er : record_at a c bytes ≡ r = cc in
      let ew : whole qs t ≡ whole rs stated = cc in
      record { address = a; count = c; part = f; is = er; later = e ∙ ew }
  front-record a c f (broken q) e g = let z : ◌≡◌ {A = ℕ} 0 1 = cc in absurd (omega arith)

  front-part : (p : Part) → part_of limit len bytes ≡ p → follow (body_of limit len) bytes p ≡ whole (r ∷ rs) stated → Front limit len bytes r rs stated
  front-part (record_part a c) f g = front-record a c f (body_of limit len (drop (record_bytes c) bytes)) refl g
  front-part (tail_part t) f g = let z : ◌≡◌ {A = ℕ} 0 1 = cc in absurd (omega arith)
  front-part (offence_part q) f g = let z : ◌≡◌ {A = ℕ} 0 1 = cc in absurd (omega arith)

  pub front : body_of limit len bytes ≡ whole (r ∷ rs) stated → Front limit len bytes r rs stated
  front e = front-part (part_of limit len bytes) refl (sym (body-law limit len bytes) ∙ e)

  -- the words of the record at the front
  pub front-count : (f : Front limit len bytes r rs stated) → length r.words ≡ f.count
  front-count f = ap (λ (q : Record). length q.words) (sym f.is) ∙ record-length f.address f.count bytes

pub read-records-fit : ReadRecordsFit
read-records-fit limit len bytes [] stated e = (tt, refl)
read-records-fit limit len bytes (r ∷ rs) stated e =
    let f = front limit len bytes r rs stated e in
    let c = front-count limit len bytes r rs stated f in
    let a : f.address ≡ r.address = ap (λ (q : Record). q.address) f.is in
    let s = part_sound limit len bytes f.address f.count f.part in
    let k = read-records-fit limit len (drop (record_bytes f.count) bytes) rs stated f.later in
    let w = s.within in (
      (omega (arith, s.some), omega (arith, s.few), k.0),
      cond-true _ _ (le-leb (r.address + length r.words) len (omega arith)) ∙ k.1,
    )
