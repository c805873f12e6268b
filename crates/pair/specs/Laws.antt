-- What holds of every mapping text and of every pair. Statements; the proofs are in proofs/.
use Rattle.std.specs.Prelude.{ℕ, ◌*◌, ◌<◌, ◌≤◌, ◌≡◌, cond, ◌⊎◌, List, [], ◌∷◌, ◌++◌, eqb, length, take}
use Rattle.refusal.specs.declared.Refusal.{Refusal}
use Rattle.refusal.specs.Report.{refused, answered}
use Rattle.records.specs.Region.{span_of, words_between}
use Rattle.records.specs.Loading.{RefusesOrLoads, laying, PutBack}
use Rattle.pair.specs.declared.line.Mapping.{Mapping}
use Rattle.pair.specs.Format.{mapping_line, Item, blank, mapping, mapping_text, text_bytes, mappings_in}
use Rattle.pair.specs.Read.{mapping_at, front_of, listed, following, mappings_below}
use Rattle.pair.specs.Load.{load_pair_of}
use Rattle.pair.specs.Answer.{PairLengths}
use Rattle.pair.specs.Write.{refuse_pair, write_pair_of}

-- the mappings by their own rule, without a count: the text ends, or its front decides, and is followed by what stands below it
abbrev pub MappingsEquation : Type 0
MappingsEquation =
    (text : List ℕ) → mappings_below text ≡ cond (eqb (length text) 0) (listed []) (following mappings_below text (front_of text))

-- three numbers that four digits can print
abbrev pub InDigits : Mapping → Type 0
InDigits m = (m.first < 65536) × (m.last < 65536) × (m.target < 65536)

-- reading inverts printing: the numbers of a printed line are read off it, whatever follows it
abbrev pub ReadsPrinted : Type 0
ReadsPrinted = (m : Mapping) → InDigits m → (rest : List ℕ) → mapping_at (mapping_line m ++ rest) ≡ m

-- "lines of just that form", with the first word not above the last
abbrev pub GoodItem : Item → Type 0
GoodItem blank = Unit
GoodItem (mapping m) = InDigits m × (m.first ≤ m.last)

abbrev pub GoodItems : List Item → Type 0
GoodItems [] = Unit
GoodItems (i ∷ is) = GoodItem i × GoodItems is

-- a text that is good: "`[mapping]` first, then empty lines and lines of just that form"
pub record GoodText (cfg : List ℕ) : Type 0 where
  pub items : List Item
  pub good : GoodItems items
  pub is : cfg ≡ mapping_text items

-- which texts are taken, without any reading: 15 is not given exactly if the text is good, and "the answer is the number of mapping lines"
pub record TakesTexts : Type 0 where
  pub good_taken :
      (m bin cfg : List ℕ) →
      length m ≤ 65536 →
      GoodText cfg →
      (load_pair_of m bin cfg).answer ≡ refused 15 →
      ⊥
  pub taken_good :
      (m bin cfg : List ℕ) →
      length m ≤ 65536 →
      ((load_pair_of m bin cfg).answer ≡ refused 15 → ⊥) →
      GoodText cfg
  pub counted :
      (m bin cfg : List ℕ) (t : GoodText cfg) (n : ℕ) →
      (load_pair_of m bin cfg).answer ≡ answered n →
      n ≡ length (mappings_in t.items)

-- a pair that was written of the words from first to last of m: so many bytes of both rooms as the writer answers
pub record WrittenPair (m : List ℕ) (first last : ℕ) (file text : List ℕ) : Type 0 where
  pub bin : List ℕ
  pub cfg : List ℕ
  pub answer : (write_pair_of m first last bin cfg).answer ≡ answered (record { bin = length file; cfg = length text })
  pub file_bytes : take (length file) (write_pair_of m first last bin cfg).bin ≡ file
  pub text_bytes_written : take (length text) (write_pair_of m first last bin cfg).cfg ≡ text

-- a written pair is one mapping line: read into any memory, it lays the region's words there, or is refused by 1 or 11
abbrev pub PairLays : Type 0
PairLays =
    (m : List ℕ) (first last : ℕ) (file text : List ℕ) →
    WrittenPair m first last file text →
    (n : List ℕ) →
    load_pair_of n file text ≡ laying 1 n first (words_between m first last)

-- "read again puts exactly that region back": into any memory of at most 65,536 words that holds the region, by one mapping line
abbrev pub PairRoundTrip : Type 0
PairRoundTrip =
    (m : List ℕ) (first last : ℕ) (file text : List ℕ) →
    WrittenPair m first last file text →
    (n : List ℕ) →
    length n ≤ 65536 →
    last < length n →
    PutBack 1 m first last n (load_pair_of n file text)

-- what can come of a reading: a refusal, and every word is as it was; or an answer, of no more lines than the text has bytes
abbrev pub PairRefusesOrLoads : Type 0
PairRefusesOrLoads = (m bin cfg : List ℕ) → RefusesOrLoads m (length cfg) (load_pair_of m bin cfg)

-- what can come of a writing: a refusal, and every byte of both rooms is as it was; or an answer, of a pair that fits the rooms
abbrev pub PairRefusesOrWrites : Type 0
PairRefusesOrWrites =
    (m : List ℕ) (first last : ℕ) (bin cfg : List ℕ) →
    ((r : Refusal) × (write_pair_of m first last bin cfg ≡ refuse_pair bin cfg r))
    ⊎ ((n : PairLengths)
    × (((write_pair_of m first last bin cfg).answer ≡ answered n) × (n.bin ≤ length bin) × (n.cfg ≤ length cfg)))

-- "it answers both lengths": two bytes for each word of the region, and a text of one mapping
pub record RightLengths (first last : ℕ) (n : PairLengths) : Type 0 where
  pub bin : n.bin ≡ span_of first last * 2
  pub cfg : n.cfg ≡ text_bytes
  pub few : span_of first last ≤ 65536

abbrev pub AnswersLengths : Type 0
AnswersLengths =
    (m : List ℕ) (first last : ℕ) (bin cfg : List ℕ) (n : PairLengths) →
    (write_pair_of m first last bin cfg).answer ≡ answered n →
    RightLengths first last n
