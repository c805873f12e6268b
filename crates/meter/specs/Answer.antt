-- What the wait meter answers, in document 01's terms and numbers.
use Rattle.std.specs.Prelude.{ℕ, Option, Some, None, Result}
use Rattle.refusal.specs.declared.Refusal.{Refusal}
use Rattle.refusal.specs.Refusals.{reported}
use Rattle.refusal.specs.Report.{Report}
use Rattle.meter.specs.declared.Walked.{Walked}
use Rattle.meter.specs.declared.Walked.TheVariants.{Wait, Over, Halts, Unspecified}
use Rattle.meter.specs.declared.LongestWait.{LongestWait}
use Rattle.meter.specs.declared.Findings.{Findings}

-- what the walk from an address answers
pub data Answer : Type 0 where
  -- "a heard row answers Wait with the sum"
  wait : ℕ → Answer
  -- "sum above limit answers Over"
  over : Answer
  -- "HLT answers Halts"
  halts : Answer
  -- "unspecified answers Unspecified with its address"
  unspecified : ℕ → Answer

-- "the longest Wait and its lowest start", "or that there is none"
pub data Longest : Type 0 where
  no_wait : Longest
  longest : ℕ → ℕ → Longest

-- "the lowest Over start", "or that there is none"
pub data Lowest : Type 0 where
  no_over : Lowest
  over_at : ℕ → Lowest

-- what a region names
pub record Named : Type 0 where
  pub longest_wait : Longest
  pub lowest_over : Lowest

abbrev pub answer_of : Walked → Answer
answer_of (Wait n) = wait n
answer_of Over = over
answer_of Halts = halts
answer_of (Unspecified a) = unspecified a

abbrev pub wait_report : Result Walked Refusal → Report Answer
wait_report answer = reported answer_of answer

abbrev pub longest_of : Option LongestWait → Longest
longest_of None = no_wait
longest_of (Some l) = longest l.cycles l.start

abbrev pub lowest_of : Option ℕ → Lowest
lowest_of None = no_over
lowest_of (Some start) = over_at start

-- what the code's findings stand for
abbrev pub named_in : Findings → Named
named_in f = record { longest_wait = longest_of f.longest; lowest_over = lowest_of f.lowest }

abbrev pub region_report : Result Findings Refusal → Report Named
region_report answer = reported named_in answer
