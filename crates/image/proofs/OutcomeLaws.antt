-- What can come of a loading and of a writing: each way of the definitions is a refusal, or answers a small number; and no loading changes how
-- many words there are.
use Prim.Native.Nat.{ℕ, zero, suc, ◌≤◌}
use mathlib.Core.Path.{◌≡◌, refl}
use mathlib.Core.List.{List}
use mathlib.Core.Logic.{◌⊎◌, inl, inr}
use native.Mathlib.Omega.{arith}
use borrow.Author.Tests.{ltb-false}
use lib.Dec.{ltb}
use lib.ListN.{length, drop, length-drop}
use Rattle.refusal.specs.declared.Refusal.{Refusal}
use Rattle.refusal.specs.declared.Refusal.TheVariants.{MemoryTooLong, RoomTooSmall, WrongBoard, SumDiffers}
use Rattle.refusal.specs.Report.{answered}
use Rattle.memory.specs.Memory.{too_long}
use Rattle.memory.proofs.BusLaws.{unless-both}
use Rattle.word.proofs.Choice.{cond_both, cond_either}
use Rattle.records.specs.Records.{Record}
use Rattle.records.specs.Loading.{Loading, RefusesOrLoads}
use Rattle.records.specs.Region.{region_admission}
use Rattle.records.proofs.PlacedLaws.{placed-laws}
use Rattle.image.specs.Format.{head_length, head_sum}
use Rattle.image.specs.Read.{Opening, opened, unopened, Part, record_part, tail_part, offence_part, part_of, Body, whole}
use Rattle.image.specs.Read.{broken, with_record, follow, body_from, body_of}
use Rattle.image.specs.Load.{is_for, sum_agrees, sum_tested, board_tested, load_with}
use Rattle.image.specs.Write.{Writing, refuse_write, region_image, writing, write_with}
use Rattle.image.specs.Laws.{LoadRefusesOrAnswers, LoadKeepsLength, WriteRefusesOrAnswers}
use Rattle.image.proofs.ReadLaws.{read-records-fit}

-- a body has no more records than bytes
abbrev count_of : Body → ℕ
count_of (whole rs stated) = length rs
count_of (broken e) = 0

with-count : (r : Record) (b : Body) (n : ℕ) → count_of b ≤ n → count_of (with_record r b) ≤ suc n
with-count r (whole rs stated) n h = omega arith
with-count r (broken e) n h = omega arith

follow-count : (on : List ℕ → Body) (n : ℕ) → ((rest : List ℕ) → count_of (on rest) ≤ n) → (bytes : List ℕ) (p : Part) → count_of (follow on bytes p) ≤ suc n
follow-count on n h bytes (record_part address count) = with-count _ (on _) n (h _)
follow-count on n h bytes (tail_part stated) = omega arith
follow-count on n h bytes (offence_part e) = omega arith

from-count : (n limit len : ℕ) (bytes : List ℕ) → count_of (body_from n limit len bytes) ≤ n
from-count zero limit len bytes = omega arith
from-count (suc n) limit len bytes = follow-count (body_from n limit len) n (from-count n limit len) bytes (part_of limit len bytes)

body-count : (limit len : ℕ) (bytes : List ℕ) → count_of (body_of limit len bytes) ≤ length bytes
unfolding body_of
body-count limit len bytes = from-count (length bytes) limit len bytes

pub load-refuses-or-answers : LoadRefusesOrAnswers
unfolding load_with
load-refuses-or-answers opening limit board m file =
    cond_both (RefusesOrLoads m (length file)) (too_long m) (inl (MemoryTooLong, refl)) (by-head (opening file))
  where
    by-body : (head : ℕ) (b : Body) → count_of b ≤ length file → RefusesOrLoads m (length file) (sum_tested m head b)
    by-body head (whole rs stated) h =
        cond_both (RefusesOrLoads m (length file)) (sum_agrees head rs stated) (inr (length rs, (refl, h))) (inl (SumDiffers, refl))
    by-body head (broken e) h = inl (e, refl)

    by-head : (o : Opening) → RefusesOrLoads m (length file) (board_tested limit board m file o)
    by-head (opened head) =
        let rest = drop (head_length head) file in
        cond_both (RefusesOrLoads m (length file)) (is_for head board)
        (by-body (head_sum head) (body_of limit (length m) rest)
        (omega (arith, length-drop (head_length head) file, body-count limit (length m) rest)))
        (inl (WrongBoard, refl))
    by-head (unopened e) = inl (e, refl)

pub load-keeps-length : LoadKeepsLength
unfolding load_with
load-keeps-length opening limit board m file = cond_both Same (too_long m) refl (by-head (opening file))
  where
    Same : Loading → Type 0
    Same l = length l.memory ≡ length m

    by-body : (head : ℕ) (bytes : List ℕ) (b : Body) → body_of limit (length m) bytes ≡ b → Same (sum_tested m head b)
    by-body head bytes (whole rs stated) e =
        cond_both Same (sum_agrees head rs stated) (placed-laws.keeps_length m rs (read-records-fit limit (length m) bytes rs stated e).1) refl
    by-body head bytes (broken r) e = refl

    by-head : (o : Opening) → Same (board_tested limit board m file o)
    by-head (opened head) =
        let rest = drop (head_length head) file in
        cond_both Same (is_for head board) (by-body (head_sum head) rest (body_of limit (length m) rest) refl) refl
    by-head (unopened e) = refl

abbrev WriteEnds : List ℕ → Writing → Type 0
WriteEnds room w = ((r : Refusal) × (w ≡ refuse_write room r)) ⊎ ((n : ℕ) × ((w.answer ≡ answered n) × (n ≤ length room)))

pub write-refuses-or-answers : WriteRefusesOrAnswers
unfolding write_with writing
write-refuses-or-answers head limit m first last room =
    let file = region_image head limit m first last in
    unless-both (WriteEnds room) (region_admission m first last) (λ r. inl (r, refl))
    (cond_either (WriteEnds room) (ltb (length room) (length file)) (λ e. inl (RoomTooSmall, refl))
    (λ e. inr (length file, (refl, ltb-false (length room) (length file) e))))
