-- Document 01, "Wait meter": "A region first..last (both 16-bit, every address a start) names the longest Wait and its lowest start,
-- and the lowest Over start, or that there is none of either." Document 02, [4]: "In a second mode the region meter takes the set and walks only
-- its region's members reached with D clear." `is_start` says which addresses are starts, and `answers` gives the walk's answer from each.
use Rattle.std.specs.Prelude.{ℕ, zero, suc, ◌+◌, Bool, true, cond, ltb}
use Rattle.meter.specs.Answer.{Answer, wait, over, halts, unspecified, Longest, no_wait, longest, Lowest, no_over, over_at}

-- a wait takes the longest one's place only if it is longer, so the lowest start stays
abbrev pub is_longer : Longest → ℕ → Bool
is_longer no_wait w = true
is_longer (longest v at) w = ltb v w

-- the longest wait after one start more, with a wait
unfoldable pub longer_than : Longest → ℕ → ℕ → Longest
longer_than l w start = cond (is_longer l w) (longest w start) l

-- .. with any answer
abbrev pub longer_of : Longest → Answer → ℕ → Longest
longer_of l (wait w) start = longer_than l w start
longer_of l over start = l
longer_of l halts start = l
longer_of l (unspecified a) start = l

-- the lowest Over start after one start more that is over the limit
unfoldable pub lower_than : Lowest → ℕ → Lowest
lower_than no_over start = over_at start
lower_than (over_at at) start = over_at at

-- .. with any answer
abbrev pub lower_of : Lowest → Answer → ℕ → Lowest
lower_of o (wait w) start = o
lower_of o over start = lower_than o start
lower_of o halts start = o
lower_of o (unspecified a) start = o

-- over those of the n addresses from first on that are starts
unfoldable pub longest_by : ℕ → (ℕ → Bool) → (ℕ → Answer) → ℕ → Longest
longest_by zero is_start answers first = no_wait
longest_by (suc n) is_start answers first =
    cond (is_start (first + n))
    (longer_of (longest_by n is_start answers first) (answers (first + n)) (first + n))
    (longest_by n is_start answers first)

unfoldable pub lowest_by : ℕ → (ℕ → Bool) → (ℕ → Answer) → ℕ → Lowest
lowest_by zero is_start answers first = no_over
lowest_by (suc n) is_start answers first =
    cond (is_start (first + n))
    (lower_of (lowest_by n is_start answers first) (answers (first + n)) (first + n))
    (lowest_by n is_start answers first)
