-- The count of cases, in numbers of 64 bits.
use Rattle.std.specs.Prelude.{◌+◌, ◌%◌, ◌^◌, Bool, cond, ◌==◌}
use Rattle.harness.specs.declared.tally.Tally.{Tally}

abbrev pub no_cases : Tally
no_cases = record { cases = 0; failed = 0 }

-- one case more, which went well or failed
unfoldable pub counted_of : Tally → Bool → Tally
counted_of t well =
    record { cases = (t.cases + 1) % 2 ^ 64; failed = cond well t.failed ((t.failed + 1) % 2 ^ 64) }

abbrev pub all_well : Tally → Bool
all_well t = t.failed == 0
