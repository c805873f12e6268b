-- The C interface page, its table: what the calls of image files answer and leave.
use Rattle.std.specs.Prelude.{ℕ, false, List, [], ◌∷◌}
use Rattle.refusal.specs.Report.{Report}
use Rattle.records.specs.Loading.{Loading}
use Rattle.image.specs.Load.{load_of}
use Rattle.image.specs.Write.{Writing, write_of}
use Rattle.cp1610.specs.Answers.{success_word}
use Rattle.cp1610.specs.Called.{items, called, CallRule}

-- a call that answers a count and is lent one buffer, by what is reported and left of that: "2^32 + number of records", "2^32 +
-- length"
abbrev pub counted_call : List ℕ → Report ℕ → List ℕ → CallRule ℕ
counted_call before report after =
    record {
      short = false;
      before = items before ∷ [];
      report = report;
      success = λ n. called (success_word 1 n) (items after ∷ []);
    }

abbrev pub loading_call : List ℕ → Loading → CallRule ℕ
loading_call m l = counted_call m l.answer l.memory

-- document 01's loader
unfoldable pub load_call : ℕ → List ℕ → List ℕ → CallRule ℕ
load_call board m file = loading_call m (load_of board m file)

abbrev pub writing_call : List ℕ → Writing → CallRule ℕ
writing_call room w = counted_call room w.answer w.room

-- document 01's writer
unfoldable pub write_call : ℕ → List ℕ → ℕ → ℕ → List ℕ → CallRule ℕ
write_call board m first last room = writing_call room (write_of board m first last room)
