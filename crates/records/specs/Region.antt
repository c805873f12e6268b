-- A region of memory that is written: from an address to another, both included.
use Rattle.std.specs.Prelude.{ℕ, ◌+◌, ◌-◌, cond, List, ltb, length, take, drop, Result, Ok, Err}
use Rattle.refusal.specs.declared.Refusal.{Refusal}
use Rattle.refusal.specs.declared.Refusal.TheVariants.{MemoryTooLong, FirstAboveLast, PastMemory}
use Rattle.memory.specs.Memory.{too_long}
use Rattle.records.specs.Records.{is_within}

-- how many words there are from first to last, both included, and the words
abbrev pub span_of : ℕ → ℕ → ℕ
span_of first last = last + 1 - first

abbrev pub words_between : List ℕ → ℕ → ℕ → List ℕ
words_between m first last = take (span_of first last) (drop first m)

-- whether a region is let in to be written: 1, then "7: first above last", then "11: .. written region past the lent memory"
unfoldable pub region_admission : List ℕ → ℕ → ℕ → Result (Unit {0}) Refusal
region_admission m first last =
    cond (too_long m) (Err MemoryTooLong)
    (cond (ltb last first) (Err FirstAboveLast)
    (cond (is_within (length m) first (span_of first last)) (Ok tt) (Err PastMemory)))
