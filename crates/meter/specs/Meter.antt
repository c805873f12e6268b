-- Document 01, "Wait meter": the two calls, and the second mode of document 02, [4]; with their refusals.
use Rattle.std.specs.Prelude.{ℕ, suc, ◌-◌, Bool, true, cond, ◌||◌, List, ltb, Result, Ok, Err}
use Rattle.refusal.specs.declared.Refusal.{Refusal}
use Rattle.refusal.specs.declared.Refusal.TheVariants.{FirstAboveLast, LimitTooHigh, WrongSetLength}
use Rattle.refusal.specs.Refusals.{refusal_number}
use Rattle.refusal.specs.Report.{Report, refused, answered}
use Rattle.memory.specs.Bus.{Bus, read_of, admission_of, unless_barred}
use Rattle.bitset.specs.Bits.{is_wrong_length, contains}
use Rattle.meter.specs.Answer.{Answer, Named}
use Rattle.meter.specs.Walk.{highest_limit, limit_of, walk_from}
use Rattle.meter.specs.Scan.{longest_by, lowest_by}

-- the walk's answer from each address of a bus
abbrev pub answer_from : Bus → ℕ → ℕ → Answer
answer_from b limit a = walk_from (read_of b) (limit_of limit) a

-- the meter for an address; refusals 1, "directly after 1" 14, which a board's map brings, and 8
unfoldable pub wait_of : Bus → ℕ → ℕ → Report Answer
wait_of b a limit =
    unless_barred (admission_of b) (λ r. refused (refusal_number r))
    (cond (ltb highest_limit limit) (refused (refusal_number LimitTooHigh)) (answered (answer_from b limit a)))

-- what the starts from first on, before end, name
abbrev pub named_before : (ℕ → Bool) → (ℕ → Answer) → ℕ → ℕ → Named
named_before is_start answers first end =
    record {
      longest_wait = longest_by (end - first) is_start answers first;
      lowest_over = lowest_by (end - first) is_start answers first;
    }

-- what the starts from first to last name
unfoldable pub named_of : (ℕ → Bool) → (ℕ → Answer) → ℕ → ℕ → Named
named_of is_start answers first last = named_before is_start answers first (suc last)

-- whether the meter for a region is let in, in either mode: refusals 1, 14, 7 and 8
unfoldable pub scan_admission : Bus → ℕ → ℕ → ℕ → Result (Unit {0}) Refusal
scan_admission b first last limit =
    unless_barred (admission_of b) Err
    (cond (ltb last first) (Err FirstAboveLast) (cond (ltb highest_limit limit) (Err LimitTooHigh) (Ok tt)))

-- "every address a start"
abbrev pub every_address : ℕ → Bool
every_address a = true

-- the meter for a region
unfoldable pub region_of : Bus → ℕ → ℕ → ℕ → Report Named
region_of b first last limit =
    unless_barred (scan_admission b first last limit) (λ r. refused (refusal_number r))
    (answered (named_of every_address (answer_from b limit) first last))

-- The same in the second mode: "the region meter takes the set", which "is two lent buffers, reached with D clear and with D set", "and walks only its
-- region's members reached with D clear". Refusal 18, "a set buffer not of 1,024 words; after 8".
unfoldable pub region_reached_of : Bus → ℕ → ℕ → ℕ → List ℕ → List ℕ → Report Named
region_reached_of b first last limit clear set =
    unless_barred (scan_admission b first last limit) (λ r. refused (refusal_number r))
    (cond (is_wrong_length clear || is_wrong_length set) (refused (refusal_number WrongSetLength))
    (answered (named_of (contains clear) (answer_from b limit) first last)))
