-- Reading a written pair: it puts the region back, or is refused by 1 or 11.
use Prim.Native.Nat.{ℕ, ◌+◌, ◌-◌, ◌/◌, ◌%◌, ◌<◌, ◌≤◌}
use mathlib.Core.Path.{◌≡◌, refl, sym, ap, ◌∙◌}
use mathlib.Core.Bool.{Bool, true, false, cond, ◌||◌}
use mathlib.Core.List.{List, [], ◌∷◌}
use native.Mathlib.Omega.{arith}
use lib.Dec.{ltb}
use lib.ListN.{length, take, drop}
use lib.Seq.{take_all, take-append_seam}
use borrow.Author.Tests.{eq-eqb, lt-ltb, le-ltb}
use Rattle.refusal.specs.declared.Refusal.TheVariants.{MemoryTooLong, PastMemory, RoomTooSmall}
use Rattle.refusal.specs.Report.{answered}
use Rattle.refusal.proofs.ReportLaws.{no_answer, same_answer}
use Rattle.std.proofs.Common.{Result, Ok, Err}
use Rattle.refusal.specs.declared.Refusal.{Refusal}
use Rattle.memory.specs.Bus.{unless_barred}
use Rattle.memory.specs.Memory.{too_long}
use Rattle.word.proofs.Choice.{cond-true, cond-false}
use Rattle.bigendian.specs.Numbers.{bytes_of}
use Rattle.bigendian.proofs.NumberLaws.{bytes-length, number-laws}
use Rattle.records.specs.Records.{is_within, overwrite}
use Rattle.records.specs.Region.{span_of, words_between, region_admission}
use Rattle.records.specs.Loading.{refuse_load}
use Rattle.records.proofs.LoadLaws.{Region, admitted-region, region-length, region-within, region-back}
use Rattle.pair.specs.declared.line.Mapping.{Mapping}
use Rattle.pair.specs.Format.{mapping}
use Rattle.pair.specs.Read.{listed, mappings_of}
use Rattle.pair.specs.Load.{lines_tested, load_pair_of}
use Rattle.pair.specs.Answer.{PairLengths}
use Rattle.pair.specs.Write.{text_for, refuse_pair, writing_pair, write_pair_of}
use Rattle.pair.specs.Laws.{InDigits, WrittenPair, PairLays, PairRoundTrip}
use Rattle.pair.proofs.TextLaws.{text-mappings}

-- a test made of another
one-test : {A : Type 0} (x y : A) (t : Bool) → cond (cond t true false) x y ≡ cond t x y
one-test x y true = refl
one-test x y false = refl

-- What a written pair is.
record MadePair (m : List ℕ) (first last : ℕ) (file text : List ℕ) : Type 0 where
  region : Region m first last
  file_is : file ≡ bytes_of (words_between m first last)
  text_is : text ≡ text_for first (span_of first last)

-- the bytes at the front of a room that a file was laid over
front_of : (room file front : List ℕ) → length file ≡ length front → take (length front) (overwrite room 0 file) ≡ front → front ≡ file
unfolding overwrite
front_of room file front e f = sym f ∙ rw (← e) (take-append_seam file (drop (0 + length file) room))

module _ (m : List ℕ) (first last : ℕ) (file text bin cfg : List ℕ) where
  region-file : List ℕ
  region-file = bytes_of (words_between m first last)

  region-text : List ℕ
  region-text = text_for first (span_of first last)

  -- an answer is given only where the rooms are large enough
  written-fits : (writing_pair bin cfg region-file region-text).answer ≡ answered (record { bin = length file; cfg = length text })
      → take (length file) (writing_pair bin cfg region-file region-text).bin ≡ file
      → take (length text) (writing_pair bin cfg region-file region-text).cfg ≡ text
      → (file ≡ region-file) × (text ≡ region-text)
  unfolding writing_pair
  written-fits = go (ltb (length bin) (length region-file) || ltb (length cfg) (length region-text))
    where
      go : (t : Bool)
          → let w = cond t (refuse_pair bin cfg RoomTooSmall)
          (record { answer = answered (record { bin = length region-file; cfg = length region-text }); bin = overwrite bin 0 region-file; cfg = overwrite cfg 0 region-text }) in
          w.answer ≡ answered (record { bin = length file; cfg = length text })
          → take (length file) w.bin ≡ file → take (length text) w.cfg ≡ text → (file ≡ region-file) × (text ≡ region-text)
      go true e f g = no_answer e
      go false e f g =
          let p : length region-file ≡ length file = ap (λ (x : PairLengths). x.bin) (same_answer e) in
          let q : length region-text ≡ length text = ap (λ (x : PairLengths). x.cfg) (same_answer e) in
          (front_of bin region-file file p f, front_of cfg region-text text q g)

  made : (write_pair_of m first last bin cfg).answer ≡ answered (record { bin = length file; cfg = length text })
      → take (length file) (write_pair_of m first last bin cfg).bin ≡ file
      → take (length text) (write_pair_of m first last bin cfg).cfg ≡ text
      → MadePair m first last file text
  unfolding write_pair_of region-file region-text
  made = go (region_admission m first last) refl
    where
      go : (a : Result (Unit {0}) Refusal) → region_admission m first last ≡ a
          → let w = unless_barred a (refuse_pair bin cfg) (writing_pair bin cfg (bytes_of (words_between m first last)) (text_for first (span_of first last))) in
          w.answer ≡ answered (record { bin = length file; cfg = length text })
          → take (length file) w.bin ≡ file → take (length text) w.cfg ≡ text → MadePair m first last file text
      go (Ok u) h e f g = let k = written-fits e f g in record { region = admitted-region m first last h; file_is = k.0; text_is = k.1 }
      go (Err r) h e f g = no_answer e

made_pair : {m : List ℕ} {first last : ℕ} {file text : List ℕ} → WrittenPair m first last file text → MadePair m first last file text
made_pair {m} {first} {last} {file} {text} k = made m first last file text k.bin k.cfg k.answer k.file_bytes k.text_bytes_written

-- Loading such a pair into any memory: the region's words are laid over it, unless it is too long or too short.
module _ {m : List ℕ} {first last : ℕ} {file text : List ℕ} (k : MadePair m first last file text) where
  whole : Mapping
  whole = record { first = 0; last = span_of first last - 1; target = first }

  words-length : length (words_between m first last) ≡ span_of first last
  words-length = region-length m first last k.region.ordered k.region.within

  whole-good : InDigits whole × (whole.first ≤ whole.last)
  unfolding whole
  whole-good =
      let o = k.region.ordered in
      let w = k.region.within in
      let s = k.region.small in
      ((omega arith, omega arith, omega arith), omega arith)

  text-read : mappings_of text ≡ listed (whole ∷ [])
  unfolding text_for whole
  text-read = ap mappings_of k.text_is ∙ text-mappings (mapping whole ∷ []) (whole-good, tt)

  lines-made : (n : List ℕ)
      → lines_tested n file (mappings_of text)
      ≡ cond (is_within (length n) first (length (words_between m first last)))
      (record { answer = answered 1; memory = overwrite n first (words_between m first last) }) (refuse_load n PastMemory)
  unfolding whole
  lines-made n =
      let ws = words_between m first last in
      let l = words-length in
      let o = k.region.ordered in
      let b = bytes-length ws in
      let e : length (bytes_of ws) % 2 ≡ 0 = omega arith in
      let d : length (bytes_of ws) / 2 ≡ span_of first last = omega arith in
      let t : span_of first last - 1 < span_of first last = omega arith in
      let z : span_of first last - 1 + 1 - 0 ≡ span_of first last = omega arith in
      let a = rw d at (number-laws.all_back ws) in
      rw (text-read, k.file_is, eq-eqb _ _ e, d, lt-ltb _ _ t, z, a, take_all (span_of first last) ws (omega arith)) (
      one-test (record { answer = answered 1; memory = overwrite n first ws }) (refuse_load n PastMemory) (is_within (length n) first (length ws)))

pub pair-lays : PairLays
unfolding load_pair_of
pair-lays m first last file text k n = ap (cond (too_long n) (refuse_load n MemoryTooLong)) (lines-made (made_pair k) n)

-- "read again puts exactly that region back"
pub pair-round-trip : PairRoundTrip
pair-round-trip m first last file text k n h l =
    let p = (made_pair k).region in
    rw (pair-lays m first last file text k n
    ∙ cond-false _ _ (le-ltb 65536 (length n) h)
    ∙ cond-true _ _ (region-within m first last p.ordered p.within (length n) l))
    (region-back m first last p.ordered p.within 1 n l)
