-- The C interface page, its table: what the calls of the lister and of the assembler answer and leave.
use Rattle.std.specs.Prelude.{ℕ, Bool, not, ◌||◌, List, [], ◌∷◌, ◌++◌, length, drop}
use Rattle.refusal.specs.Report.{Report}
use Rattle.memory.specs.Bus.{Bus}
use Rattle.listing.specs.Answer.{ListedLine}
use Rattle.listing.specs.Disassemble.{Disassembly, disassemble_of}
use Rattle.listing.specs.Assemble.{assemble_of}
use Rattle.cp1610.specs.Words.{is_set, flag_word}
use Rattle.cp1610.specs.MapWords.{is_map}
use Rattle.cp1610.specs.Answers.{success_word}
use Rattle.cp1610.specs.Called.{items, called, is_short, CallRule}

-- "mut u16 words[3]"
abbrev pub line_words : ℕ
line_words = 3

-- what the assembler reports as the caller sees it: "kind 1; value = count of words"; "`words` past the count .. stay as they were"
abbrev pub assembled_call : Bool → List ℕ → Report (List ℕ) → CallRule (List ℕ)
assembled_call short words report =
    record {
      short = short;
      before = items words ∷ [];
      report = report;
      success = λ ws. called (success_word 1 (length ws)) (items (ws ++ drop (length ws) words) ∷ []);
    }

-- document 01's assembler; "`d` is a byte: anything but 0 counts as set"
unfoldable pub assemble_call : List ℕ → ℕ → List ℕ → CallRule (List ℕ)
assemble_call line d words = assembled_call (is_short line_words words) words (assemble_of line (is_set d))

-- "out = text length, words used, next D"
abbrev pub list_length : ℕ
list_length = 3

unfoldable pub list_words : List ℕ → ListedLine → List ℕ
list_words out l = l.length ∷ l.words ∷ flag_word l.double ∷ drop list_length out

-- what the lister reports and leaves of the text as the caller sees it: "kind 1"
abbrev pub listed_call : List ℕ → List ℕ → List ℕ → Disassembly → CallRule ListedLine
listed_call map text out x =
    record {
      short = is_short list_length out || not (is_map map);
      before = items text ∷ items out ∷ [];
      report = x.answer;
      success = λ l. called (success_word 1 0) (items x.room ∷ items (list_words out l) ∷ []);
    }

-- document 01's lister
unfoldable pub list_call : List ℕ → Bus → ℕ → ℕ → List ℕ → List ℕ → CallRule ListedLine
list_call map b address d text out = listed_call map text out (disassemble_of b address (is_set d) text)
