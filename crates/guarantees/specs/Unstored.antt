-- Demand 3's premise that no store changes a word that the walk reads later.
use Rattle.std.specs.Prelude.{ℕ, ◌<◌, ◌≡◌, List, [], ◌∷◌, ◌++◌, length, get_or}
use Rattle.memory.specs.Laws.{AgreeAt}
use Rattle.cpu.specs.Steps.{StepMade}

-- Document 02: "Demand 3's premise then speaks of stores that change a word under the map". A word is what a read gives on the step's own bus: a store to ROM, to
-- an empty word or past the memory changes none, and one to 8-bit RAM may change a word whose low byte it repeats.
-- "the store of step k changes none, as read before and after it, that the walk reads at its instruction k + 1 or beyond":
-- step k is the one with k steps before it, and instructions are numbered from 0 as steps are
unfoldable pub Unstored : List (List ℕ) → List StepMade → Type 0
Unstored reads t =
    (earlier : List StepMade) (x : StepMade) (later : List StepMade) (i : ℕ) →
    t ≡ earlier ++ (x ∷ later) →
    length earlier < i →
    AgreeAt (get_or reads i []) x.bus x.left.bus
