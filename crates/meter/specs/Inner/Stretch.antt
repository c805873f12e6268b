-- What the scan's own contracts say: a region is scanned a stretch of its addresses at a time, as many as a word of a set tells of, or all of them.
use Rattle.std.specs.Prelude.{ℕ, ◌%◌, ◌<◌, ◌≤◌, ◌≡◌, Bool}
use Rattle.word.specs.Word.{bit}
use Rattle.meter.specs.Answer.{Answer, no_wait, no_over, Named}
use Rattle.meter.specs.Scan.{longer_of, lower_of}
use Rattle.meter.specs.Meter.{named_before}

-- what no start names
abbrev pub nothing_named : Named
nothing_named = record { longest_wait = no_wait; lowest_over = no_over }

-- what is named after one start more
abbrev pub named_with : Named → Answer → ℕ → Named
named_with n x start = record { longest_wait = longer_of n.longest_wait x start; lowest_over = lower_of n.lowest_over x start }

-- the addresses that a word tells are starts, by its bits: "64 to a word, lowest bit first"
abbrev pub starts_in : ℕ → ℕ → Bool
starts_in starts a = bit (a % 64) starts

-- What a stretch of addresses, from `from` on, before `end`, adds to what is named: in any region that starts at or below it and has these starts in it, from
-- what the region's starts before the stretch name to what those before its end name.
abbrev pub StretchAdds : (ℕ → Bool) → (ℕ → Answer) → ℕ → ℕ → Named → Named → Type 0
StretchAdds is_start answers from end before after =
    (is_start' : ℕ → Bool) (first : ℕ) → first ≤ from → ((a : ℕ) → from ≤ a → a < end → is_start' a ≡ is_start a) →
    before ≡ named_before is_start' answers first from → after ≡ named_before is_start' answers first end
