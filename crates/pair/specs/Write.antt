-- The writer of pairs: "A writing is `[mapping]`, one line from file word 0 and a file of just the region; it answers both lengths, leaves the
-- room past them". "13, not 5, for either room of a written pair", after 1, 7 and 11.
use Rattle.std.specs.Prelude.{ℕ, ◌-◌, cond, ◌||◌, List, [], ◌∷◌, ltb, length, Result}
use Rattle.refusal.specs.declared.Refusal.{Refusal}
use Rattle.refusal.specs.declared.Refusal.TheVariants.{RoomTooSmall}
use Rattle.refusal.specs.Refusals.{refusal_number}
use Rattle.refusal.specs.Report.{Report, refused, answered}
use Rattle.memory.specs.Bus.{unless_barred}
use Rattle.bigendian.specs.Numbers.{bytes_of}
use Rattle.records.specs.Records.{overwrite}
use Rattle.records.specs.Region.{span_of, words_between, region_admission}
use Rattle.pair.specs.declared.Lengths.{Lengths}
use Rattle.pair.specs.Format.{mapping, mapping_text}
use Rattle.pair.specs.Answer.{PairLengths, pair_reported}

-- "`[mapping]`, one line from file word 0": the text for so many words that are to go to the address `first` and on
unfoldable pub text_for : ℕ → ℕ → List ℕ
text_for first words = mapping_text (mapping (record { first = 0; last = words - 1; target = first }) ∷ [])

-- all that a writing leaves: what it reports, and both rooms
pub record PairWriting : Type 0 where
  pub answer : Report PairLengths
  pub bin : List ℕ
  pub cfg : List ℕ

-- a refusal leaves every byte of both rooms as it was
abbrev pub refuse_pair : List ℕ → List ℕ → Refusal → PairWriting
refuse_pair bin cfg r = record { answer = refused (refusal_number r); bin = bin; cfg = cfg }

-- "13 .. for either room"; the room past what is written stays
unfoldable pub writing_pair : List ℕ → List ℕ → List ℕ → List ℕ → PairWriting
writing_pair bin cfg file text =
    cond (ltb (length bin) (length file) || ltb (length cfg) (length text)) (refuse_pair bin cfg RoomTooSmall)
    (record {
      answer = answered (record { bin = length file; cfg = length text });
      bin = overwrite bin 0 file;
      cfg = overwrite cfg 0 text;
    })

-- "a file of just the region"
unfoldable pub write_pair_of : List ℕ → ℕ → ℕ → List ℕ → List ℕ → PairWriting
write_pair_of m first last bin cfg =
    unless_barred (region_admission m first last) (refuse_pair bin cfg)
    (writing_pair bin cfg (bytes_of (words_between m first last)) (text_for first (span_of first last)))

-- the outcome that the code's answer and the rooms at its return stand for: the writer's contract says that it is `write_pair_of`
abbrev pub wrote_pair : Result Lengths Refusal → List ℕ → List ℕ → PairWriting
wrote_pair r bin cfg = record { answer = pair_reported r; bin = bin; cfg = cfg }
