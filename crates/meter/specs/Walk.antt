-- Document 01, "Wait meter": the walk from an address. The memory is a reader, from an address to the word there.
use Rattle.std.specs.Prelude.{ℕ, zero, suc, ◌+◌, false, cond, eqb, ltb, Option, Some, None}
use Rattle.std.specs.declared.ops.ControlFlow.{ControlFlow}
use Rattle.std.specs.declared.ops.ControlFlow.TheVariants.{Continue, Break}
use Rattle.word.specs.Word.{wrap_add}
use Rattle.decode.specs.declared.Instr.{Instr}
use Rattle.decode.specs.declared.rows.Row.{Row}
use Rattle.decode.specs.Decode.{decode_at}
use Rattle.decode.specs.Rows.{row_of}
use Rattle.meter.specs.declared.walk.Place.{Place}
use Rattle.meter.specs.declared.Walked.{Walked}
use Rattle.meter.specs.Answer.{Answer, wait, over, halts, unspecified, answer_of}

-- "Limit 1 to 4,096 cycles"
abbrev pub highest_limit : ℕ
highest_limit = 4096

-- Document 02, [5]: "A limit of 0 should mean 48."
abbrev pub default_limit : ℕ
default_limit = 48

-- the limit walked with
unfoldable pub limit_of : ℕ → ℕ
limit_of limit = cond (eqb limit 0) default_limit limit

-- "From an address, D clear": a place of the walk is an address, the D before the instruction there and the cycles so far
unfoldable pub start_at : ℕ → Place
start_at a = record { address = a; double = false; sum = 0 }

-- "instructions are walked in line, D followed as in a step, and charged by row"
unfoldable pub place_after : Place → Row → Place
place_after p row =
    record {
      address = wrap_add p.address row.words;
      double = row.double;
      sum = p.sum + row.cycles;
    }

-- what one instruction of the walk leads to: its answer, or a place to go on from
pub data Turn : Type 0 where
  ends : Answer → Turn
  goes_on : Place → Turn

-- "else add its cost; sum above limit answers Over; HLT answers Halts; a heard row answers Wait with the sum; else go on": heard is
-- interruptible
unfoldable pub row_turn : ℕ → Place → Row → Turn
row_turn limit p row =
    cond (ltb limit (p.sum + row.cycles)) (ends over)
    (cond row.halts (ends halts) (cond row.interruptible (ends (wait (p.sum + row.cycles))) (goes_on (place_after p row))))

-- "At each: unspecified answers Unspecified with its address"
abbrev pub decoded_turn : ℕ → Place → Option Instr → Turn
decoded_turn limit p None = ends (unspecified p.address)
decoded_turn limit p (Some i) = row_turn limit p (row_of i p.double)

-- one turn of the walk; a row's cycles are those of a branch taken, and NOPP's 7
unfoldable pub turn_at : (ℕ → ℕ) → ℕ → Place → Turn
turn_at read limit p = decoded_turn limit p (decode_at read p.address p.double)

-- what a turn comes to: `stop` of its answer, or `onward` of the place to go on from
abbrev pub after_turn : {A : Type 0} → (Answer → A) → (Place → A) → Turn → A
after_turn stop onward (ends a) = stop a
after_turn stop onward (goes_on p) = onward p

-- the walk by at most n turns
unfoldable pub walk_by : ℕ → (ℕ → ℕ) → ℕ → Place → Answer
walk_by zero read limit p = over
walk_by (suc n) read limit p = after_turn (λ a. a) (walk_by n read limit) (turn_at read limit p)

-- the walk from a place on. Each turn that goes on adds a cycle or more, so it answers within this many: `WalkEquation` of `Laws`
-- has no count.
unfoldable pub walk_on : (ℕ → ℕ) → ℕ → Place → Answer
walk_on read limit p = walk_by (suc limit) read limit p

-- the walk from an address
unfoldable pub walk_from : (ℕ → ℕ) → ℕ → ℕ → Answer
walk_from read limit a = walk_on read limit (start_at a)

-- what the code's turn stands for
abbrev pub turned : ControlFlow Walked Place → Turn
turned (Break w) = ends (answer_of w)
turned (Continue p) = goes_on p
