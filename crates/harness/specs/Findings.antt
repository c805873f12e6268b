-- What the meter answers for a region, as the fields of a case tell it.
use Rattle.std.specs.Prelude.{ℕ, Bool, true, false, not, ◌&&◌, List, ◌==◌, Option, Some, None, Result, Ok, Err}
use Rattle.std.specs.Option.{option_map}
use Rattle.refusal.specs.declared.Refusal.{Refusal}
use Rattle.refusal.specs.Refusals.{refusal_number}
use Rattle.meter.specs.declared.LongestWait.{LongestWait}
use Rattle.meter.specs.declared.Findings.{Findings}
use Rattle.harness.specs.Text.{quoted}
use Rattle.harness.specs.Fields.{find_word_of_key, find_number_of_key}
use Rattle.harness.specs.Answers.{tells_refusal, refuses_by}

-- a number that may be left out is this one, or left out where there is none
abbrev pub is_told : Option ℕ → Option ℕ → Bool
is_told None None = true
is_told None (Some n) = false
is_told (Some n) None = false
is_told (Some n) (Some m) = n == m

-- the cycles of the longest wait, and its start
abbrev pub tells_longest : List ℕ → Option LongestWait → Bool
tells_longest fields longest =
    is_told (find_number_of_key fields (quoted "longest")) (option_map (λ wait. wait.cycles) longest)
    && is_told (find_word_of_key fields (quoted "start")) (option_map (λ wait. wait.start) longest)

-- a refusal with its number; or no refusal, the longest wait with its start, and the lowest start over the limit
abbrev pub tells_findings : List ℕ → Result Findings Refusal → Bool
tells_findings fields (Ok found) =
    (not (tells_refusal fields) && tells_longest fields found.longest) && is_told (find_word_of_key fields (quoted "over")) found.lowest
tells_findings fields (Err why) = refuses_by fields (refusal_number why)
