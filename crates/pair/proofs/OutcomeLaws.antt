-- What can come of a reading and of a writing: each way of the definitions is a refusal, or answers small numbers.
use Prim.Native.Nat.{ℕ, zero, suc, ◌≤◌}
use mathlib.Core.Path.{◌≡◌, refl, sym, ap, ◌∙◌}
use mathlib.Core.Bool.{Bool, true, false, cond, ◌||◌}
use mathlib.Core.List.{List}
use mathlib.Core.Logic.{◌⊎◌, inl, inr}
use native.Mathlib.Omega.{arith}
use lib.Dec.{eqb, ltb}
use lib.ListN.{length, drop, length-drop}
use borrow.Author.Tests.{ltb-false}
use Rattle.refusal.specs.declared.Refusal.{Refusal}
use Rattle.refusal.specs.declared.Refusal.TheVariants.{MemoryTooLong, PastMemory, MalformedMapping, MissingFileWords, RoomTooSmall}
use Rattle.refusal.specs.Report.{answered}
use Rattle.refusal.proofs.ReportLaws.{no_answer, same_answer, told-apart, reported-apart}
use Rattle.memory.specs.Memory.{too_long}
use Rattle.std.proofs.Common.{Option, None, Some, Result, Ok, Err}
use Rattle.memory.specs.Bus.{unless_barred}
use Rattle.memory.proofs.BusLaws.{unless-both}
use Rattle.word.proofs.Choice.{cond_both, cond_either}
use Rattle.text.proofs.Tests.{clash}
use Rattle.bigendian.specs.Numbers.{all_words, bytes_of}
use Rattle.bigendian.proofs.NumberLaws.{bytes-length}
use Rattle.records.specs.Records.{all_within, overwrite}
use Rattle.records.specs.Region.{span_of, words_between, region_admission}
use Rattle.records.specs.Loading.{RefusesOrLoads}
use Rattle.records.proofs.LoadLaws.{admitted-region, region-length}
use Rattle.pair.specs.declared.Lengths.{Lengths}
use Rattle.pair.specs.declared.line.Mapping.{Mapping}
use Rattle.pair.specs.Format.{head_line}
use Rattle.pair.specs.Read.{begins_with, front_of, Mappings, listed, malformed, with_mapping, following, mappings_from, mappings_below, mappings_of}
use Rattle.pair.specs.Load.{mapped_records, has_its_words, lines_tested, load_pair_of}
use Rattle.pair.specs.Answer.{PairLengths, PairAnswersApart, lengths_told}
use Rattle.pair.specs.Write.{text_for, PairWriting, refuse_pair, writing_pair, write_pair_of}
use Rattle.pair.specs.Laws.{PairRefusesOrLoads, PairRefusesOrWrites, RightLengths, AnswersLengths}
use Rattle.pair.proofs.LoadLaws.{records-count}
use Rattle.pair.proofs.WriteLaws.{text-length}

abbrev lengths_of : PairLengths → Lengths
lengths_of x = record { bin = x.bin; cfg = x.cfg }

pub pair-answers-apart : PairAnswersApart
pair-answers-apart = reported-apart lengths_told (told-apart lengths_told lengths_of (λ l. refl))

-- a text has no more lines than bytes
abbrev count_of : Mappings → ℕ
count_of (listed ms) = length ms
count_of malformed = 0

with-count : (m : Mapping) (ls : Mappings) (n : ℕ) → count_of ls ≤ n → count_of (with_mapping m ls) ≤ suc n
with-count m (listed ms) n h = omega arith
with-count m malformed n h = omega arith

follow-count : (on : List ℕ → Mappings) (n : ℕ) → ((rest : List ℕ) → count_of (on rest) ≤ n) → (text : List ℕ) (f : Result (Option Mapping) Refusal) → count_of (following on text f) ≤ suc n
follow-count on n h text (Ok None) = omega (arith, h (drop 1 text))
follow-count on n h text (Ok (Some m)) = with-count m (on _) n (h _)
follow-count on n h text (Err r) = omega arith

from-count : (n : ℕ) (text : List ℕ) → count_of (mappings_from n text) ≤ n
from-count zero text = omega arith
from-count (suc n) text =
    cond_both (λ (ls : Mappings). count_of ls ≤ suc n) (eqb (length text) 0) (omega arith) (follow-count (mappings_from n) n (from-count n) text (front_of text))

mappings-count : (cfg : List ℕ) → count_of (mappings_of cfg) ≤ length cfg
unfolding mappings_of mappings_below
mappings-count cfg =
    let rest = drop (length head_line) cfg in
    cond_both (λ (ls : Mappings). count_of ls ≤ length cfg) (begins_with cfg head_line)
    (omega (arith, from-count (length rest) rest, length-drop (length head_line) cfg)) (omega arith)

pub pair-refuses-or-loads : PairRefusesOrLoads
unfolding load_pair_of
pair-refuses-or-loads m bin cfg =
    cond_both (RefusesOrLoads m (length cfg)) (too_long m) (inl (MemoryTooLong, refl)) (by_lines (mappings_of cfg) (mappings-count cfg))
  where
    by_lines : (ls : Mappings) → count_of ls ≤ length cfg → RefusesOrLoads m (length cfg) (lines_tested m bin ls)
    by_lines (listed ms) h =
        cond_both (RefusesOrLoads m (length cfg)) (has_its_words bin ms)
        (cond_both (RefusesOrLoads m (length cfg)) (all_within (length m) (mapped_records (all_words bin) ms))
        (inr (_, (refl, omega (arith, records-count (all_words bin) ms)))) (inl (PastMemory, refl)))
        (inl (MissingFileWords, refl))
    by_lines malformed h = inl (MalformedMapping, refl)

-- neither of two tests holds
or-false : (a b : Bool) → (a || b) ≡ false → (a ≡ false) × (b ≡ false)
or-false true b e = clash refl e
or-false false b e = (refl, e)

-- what can come of a writing into these rooms
abbrev WriteEnds : List ℕ → List ℕ → PairWriting → Type 0
WriteEnds bin cfg w =
    ((r : Refusal) × (w ≡ refuse_pair bin cfg r))
    ⊎ ((n : PairLengths) × ((w.answer ≡ answered n) × (n.bin ≤ length bin) × (n.cfg ≤ length cfg)))

pub pair-refuses-or-writes : PairRefusesOrWrites
unfolding write_pair_of writing_pair
pair-refuses-or-writes m first last bin cfg =
    let file = bytes_of (words_between m first last) in
    let text = text_for first (span_of first last) in
    let b = ltb (length bin) (length file) in
    let c = ltb (length cfg) (length text) in
    unless-both (WriteEnds bin cfg) (region_admission m first last) (λ r. inl (r, refl))
    (cond_either (WriteEnds bin cfg) (b || c) (λ e. inl (RoomTooSmall, refl))
    (λ e. let n = or-false b c e in inr (_, (refl, ltb-false (length bin) (length file) n.0, ltb-false (length cfg) (length text) n.1))))

pub answers-lengths : AnswersLengths
unfolding write_pair_of writing_pair
answers-lengths m first last bin cfg n = go (region_admission m first last) refl (ltb (length bin) (length file) || ltb (length cfg) (length text))
  where
    file : List ℕ
    file = bytes_of (words_between m first last)

    text : List ℕ
    text = text_for first (span_of first last)

    go : (a : Result (Unit {0}) Refusal) → region_admission m first last ≡ a → (t : Bool)
        → (unless_barred a (refuse_pair bin cfg)
        (cond t (refuse_pair bin cfg RoomTooSmall) (record { answer = answered (record { bin = length file; cfg = length text }); bin = overwrite bin 0 file; cfg = overwrite cfg 0 text }))
        ).answer ≡ answered n → RightLengths first last n
    go (Err r) a t e = no_answer e
    go (Ok u) a true e = no_answer e
    go (Ok u) a false e =
        let r = admitted-region m first last a in
        let o = r.ordered in
        let l = region-length m first last o r.within in
        let b = ap (λ (x : PairLengths). x.bin) (same_answer e) in
        let c = ap (λ (x : PairLengths). x.cfg) (same_answer e) in
        record {
          bin = omega (arith, bytes-length (words_between m first last));
          cfg = sym c ∙ text-length first (span_of first last);
          few = omega (arith, r.small, r.within);
        }
