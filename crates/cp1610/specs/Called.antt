-- The rule of every call: its result, and what it leaves of the buffers that it is lent to write in. Buffers that a call only reads
-- are left out: they can't change.
use Rattle.std.specs.Prelude.{ℕ, Bool, cond, List, ltb, length}
use Rattle.refusal.specs.Report.{Report, refused, answered}
use Rattle.memory.specs.Bus.{Bus}
use Rattle.cp1610.specs.Answers.{short_buffer}

-- what a caller lends: items of numbers, or a memory, which is told by its bus
pub data Lent : Type 0 where
  items : List ℕ → Lent
  memory : Bus → Lent

-- all that a call leaves: its result, and the table's arguments that are marked `mut`, in the table's order
pub record Called : Type 0 where
  pub result : ℕ
  pub lent : List Lent

abbrev pub called : ℕ → List Lent → Called
called result lent = record { result = result; lent = lent }

-- "a buffer is shorter than its table says": than the length given
abbrev pub is_short : ℕ → List ℕ → Bool
is_short least buffer = ltb (length buffer) least

-- what fixes a call: whether a buffer is too short or a map is none, what it is lent, what document 01's definition reports, and what a success hands
-- back
pub record CallRule (A : Type 0) : Type 0 where
  pub short : Bool
  pub before : List Lent
  pub report : Report A
  pub success : A → Called

-- "A refused call alters nothing at all"
abbrev pub by_report : {A : Type 0} → List Lent → (A → Called) → Report A → Called
by_report before success (refused n) = called n before
by_report before success (answered x) = success x

-- that is "tested before all else; nothing is altered"
abbrev pub call_by : {A : Type 0} → CallRule A → Called
call_by rule =
    cond rule.short (called short_buffer rule.before) (by_report rule.before rule.success rule.report)
