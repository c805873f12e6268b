-- What a loaded file shows to one who walks its records again by `first_record`.
use Prim.Native.Nat.{ℕ, ◌≤◌}
use mathlib.Core.Path.{◌≡◌, refl, sym, ap, ◌∙◌}
use mathlib.Core.List.{List, [], ◌∷◌}
use native.Mathlib.Omega.{arith}
use lib.ListN.{length, drop}
use Rattle.word.proofs.Choice.{cond_both}
use Rattle.refusal.specs.declared.Refusal.{Refusal}
use Rattle.refusal.specs.declared.Refusal.TheVariants.{MemoryTooLong, WrongBoard, SumDiffers}
use Rattle.refusal.specs.Report.{answered}
use Rattle.refusal.proofs.ReportLaws.{no_answer}
use Rattle.memory.specs.Memory.{too_long}
use Rattle.std.proofs.Common.{Result, Ok}
use Rattle.records.specs.Records.{Record}
use Rattle.records.specs.Loading.{load_reported, Loading, refuse_load, loaded}
use Rattle.image.specs.Format.{record_limit, head_bytes, record_bytes, body_bytes, record_at, id_head, head_sum}
use Rattle.image.specs.Read.{Opening, opened, unopened, head_of, Part, record_part, tail_part, offence_part, part_of}
use Rattle.image.specs.Read.{record_first, none_first, first_of, Body, whole, broken, with_record, follow, body_of, WholeFile}
use Rattle.image.specs.Load.{is_for, sum_agrees, sum_tested, board_tested, load_with, load_of}
use Rattle.image.proofs.ReadLaws.{Sound, head-shown, part_sound, body-law}

-- what a loading shows of the file where it is answered
abbrev Shows : ℕ → List ℕ → List ℕ → Loading → Type 0
Shows limit m file l = (n : ℕ) → l.answer ≡ answered n → WholeFile limit (length m) file

module _ (limit board : ℕ) (m file : List ℕ) where
  refused-shows : (e : Refusal) → Shows limit m file (refuse_load m e)
  refused-shows e n h = no_answer h

  body-shows : (head : ℕ) → head_bytes ≤ length file → (b : Body) → body_of limit (length m) (body_bytes file) ≡ b → Shows limit m file (sum_tested m head b)
  body-shows head h (whole rs stated) e =
      cond_both (Shows limit m file) (sum_agrees head rs stated)
      (λ n k. record { head = h; records = rs; stated = stated; body = e })
      (refused-shows SumDiffers)
  body-shows head h (broken r) e = refused-shows r

  head-shows : (o : Opening) → head_of file ≡ o → Shows limit m file (board_tested limit board m file o)
  head-shows (opened head) e =
      let s = head-shown file head e in
      rw s.is (
      cond_both (Shows limit m file) (is_for (id_head s.named) board)
      (body-shows (head_sum (id_head s.named)) s.complete (body_of limit (length m) (body_bytes file)) refl)
      (refused-shows WrongBoard))
  head-shows (unopened r) e = refused-shows r

  load-shows : Shows limit m file (load_with head_of limit board m file)
  unfolding load_with
  load-shows = cond_both (Shows limit m file) (too_long m) (refused-shows MemoryTooLong) (head-shows (head_of file) refl)

pub loaded-whole : (board : ℕ) (m file : List ℕ) {after : List ℕ} {r : Result ℕ Refusal} {n : ℕ} → loaded r after ≡ load_of board m file → r ≡ Ok n
    → WholeFile record_limit (length m) file
loaded-whole board m file {after} {r} {n} e f =
    load-shows record_limit board m file n (ap (λ (l : Loading). l.answer) (sym e) ∙ ap (λ (x : Result ℕ Refusal). load_reported x) f)

-- what is left behind the first of these records
pub record Behind (limit len : ℕ) (bytes : List ℕ) (a c : ℕ) (left : List Record) (stated : ℕ) : Type 0 where
  pub sound : Sound limit len bytes a c
  pub records : List Record
  pub reads : body_of limit len (drop (record_bytes c) bytes) ≡ whole records stated
  pub all : left ≡ record_at a c bytes ∷ records

with-split : (r : Record) (b : Body) (left : List Record) (stated : ℕ) → with_record r b ≡ whole left stated
    → (rs : List Record) × ((b ≡ whole rs stated) × (left ≡ r ∷ rs))
with-split r (whole rs s) left stated e = (rs, (cc, cc))
with-split r (broken q) left stated e = let z : ◌≡◌ {A = ℕ} 0 1 = cc in absurd (omega arith)

pub first_part : (a c : ℕ) (p : Part) → record_first a c ≡ first_of p → p ≡ record_part a c
first_part a c (record_part b d) e = cc
first_part a c (tail_part s) e = let z : ◌≡◌ {A = ℕ} 0 1 = cc in absurd (omega arith)
first_part a c (offence_part r) e = let z : ◌≡◌ {A = ℕ} 0 1 = cc in absurd (omega arith)

none_left : (limit len : ℕ) (bytes : List ℕ) (p : Part) (left : List Record) (stated : ℕ) → none_first ≡ first_of p
    → follow (body_of limit len) bytes p ≡ whole left stated → left ≡ []
none_left limit len bytes (record_part a c) left stated e f = let z : ◌≡◌ {A = ℕ} 0 1 = cc in absurd (omega arith)
none_left limit len bytes (tail_part s) left stated e f = cc
none_left limit len bytes (offence_part r) left stated e f = let z : ◌≡◌ {A = ℕ} 0 1 = cc in absurd (omega arith)

-- the walk over a whole body: the record that stands first is the first that is left, and where none stands none is left
module _ (limit len : ℕ) (bytes : List ℕ) {left : List Record} {stated : ℕ} (k : body_of limit len bytes ≡ whole left stated) where
  pub first-behind : {a c : ℕ} → record_first a c ≡ first_of (part_of limit len bytes) → Behind limit len bytes a c left stated
  first-behind {a} {c} e =
      let p = first_part a c (part_of limit len bytes) e in
      let s = with-split (record_at a c bytes) (body_of limit len (drop (record_bytes c) bytes)) left stated
      (ap (follow (body_of limit len) bytes) (sym p) ∙ sym (body-law limit len bytes) ∙ k)
      in
      record { sound = part_sound limit len bytes a c p; records = s.0; reads = s.1.0; all = s.1.1 }

  pub none-behind : none_first ≡ first_of (part_of limit len bytes) → left ≡ []
  none-behind e = none_left limit len bytes (part_of limit len bytes) left stated e (sym (body-law limit len bytes) ∙ k)
