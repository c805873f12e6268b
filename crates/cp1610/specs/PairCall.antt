-- The C interface page, its table: what the calls of pairs answer and leave.
use Rattle.std.specs.Prelude.{ℕ, List, [], ◌∷◌, drop}
use Rattle.pair.specs.Load.{load_pair_of}
use Rattle.pair.specs.Answer.{PairLengths}
use Rattle.pair.specs.Write.{PairWriting, write_pair_of}
use Rattle.cp1610.specs.Answers.{success_word}
use Rattle.cp1610.specs.Called.{items, called, is_short, CallRule}
use Rattle.cp1610.specs.ImageCall.{loading_call}

-- document 02's reader: "2^32 + number of mapping lines"
unfoldable pub load_pair_call : List ℕ → List ℕ → List ℕ → CallRule ℕ
load_pair_call m bin cfg = loading_call m (load_pair_of m bin cfg)

-- "out = bytes of the flat file, bytes of the text"
abbrev pub pair_length : ℕ
pair_length = 2

unfoldable pub pair_words : List ℕ → PairLengths → List ℕ
pair_words out n = n.bin ∷ n.cfg ∷ drop pair_length out

-- what the writer reports and leaves of both rooms as the caller sees it: "kind 1"
abbrev pub wrote_pair_call : List ℕ → List ℕ → List ℕ → PairWriting → CallRule PairLengths
wrote_pair_call bin cfg out w =
    record {
      short = is_short pair_length out;
      before = items bin ∷ items cfg ∷ items out ∷ [];
      report = w.answer;
      success = λ n. called (success_word 1 0) (items w.bin ∷ items w.cfg ∷ items (pair_words out n) ∷ []);
    }

-- document 02's writer
unfoldable pub write_pair_call : List ℕ → ℕ → ℕ → List ℕ → List ℕ → List ℕ → CallRule PairLengths
write_pair_call m first last bin cfg out = wrote_pair_call bin cfg out (write_pair_of m first last bin cfg)
