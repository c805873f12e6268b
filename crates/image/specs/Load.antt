-- The loader: "The loader tests 1, then the first offence in file order, count before cut words before 11; 12 last."
use Rattle.std.specs.Prelude.{ℕ, Bool, true, false, cond, List, [], ◌∷◌, eqb, length, drop}
use Rattle.refusal.specs.declared.Refusal.TheVariants.{MemoryTooLong, WrongBoard, SumDiffers}
use Rattle.memory.specs.Memory.{too_long}
use Rattle.records.specs.Records.{Record}
use Rattle.records.specs.Loading.{Loading, refuse_load, accept_load}
use Rattle.image.specs.Format.{record_limit, checksum, ImageHead, head_length, head_sum}
use Rattle.image.specs.Read.{Opening, opened, unopened, head_of, Body, whole, broken, body_of}

abbrev pub is_among : ℕ → List ℕ → Bool
is_among n [] = false
is_among n (x ∷ xs) = cond (eqb x n) true (is_among n xs)

-- The board test says that the file belongs here. "10: ID board not the board given"
abbrev pub is_for : ImageHead → ℕ → Bool
is_for head board = is_among board head.boards

-- The sum test says that the bytes arrived. "12: sum differs"; head is the sum of the head's numbers
abbrev pub sum_agrees : ℕ → List Record → ℕ → Bool
sum_agrees head rs stated = eqb (checksum head rs) stated

-- "12 last": after every other test, and before anything is stored
abbrev pub sum_tested : List ℕ → ℕ → Body → Loading
sum_tested m head (whole rs stated) =
    cond (sum_agrees head rs stated) (accept_load m rs) (refuse_load m SumDiffers)
sum_tested m head (broken e) = refuse_load m e

-- what a head says decides, and the records stand behind it
abbrev pub board_tested : ℕ → ℕ → List ℕ → List ℕ → Opening → Loading
board_tested limit board m file (opened head) =
    cond (is_for head board)
    (sum_tested m (head_sum head) (body_of limit (length m) (drop (head_length head) file)))
    (refuse_load m WrongBoard)
board_tested limit board m file (unopened e) = refuse_load m e

-- the loader of files whose heads `opening` reads and whose records have at most `limit` words
unfoldable pub load_with : (List ℕ → Opening) → ℕ → ℕ → List ℕ → List ℕ → Loading
load_with opening limit board m file =
    cond (too_long m) (refuse_load m MemoryTooLong) (board_tested limit board m file (opening file))

-- document 01's own: "`ID` board", "count 1 to 4,096", as amended
abbrev pub load_of : ℕ → List ℕ → List ℕ → Loading
load_of board m file = load_with head_of record_limit board m file
