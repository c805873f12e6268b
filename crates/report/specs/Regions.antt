-- The metering's lines. Document 01: "for each record, as a region at limit 0, its first and last address, longest wait and start, lowest
-- Over start".
use Rattle.std.specs.Prelude.{ℕ, ◌+◌, ◌-◌, List, [], ◌∷◌, ◌++◌}
use Rattle.memory.specs.Bus.{Bus}
use Rattle.meter.specs.Answer.{Longest, no_wait, longest, Lowest, no_over, over_at, Named}
use Rattle.meter.specs.Meter.{answer_from, named_of, every_address}
use Rattle.text.specs.Text.{codes, hex_of}
use Rattle.report.specs.Text.{space}

-- Document 01: "at limit 0", which meant 57. Document 02, [5]: "The metering program must now pass 57".
abbrev pub metering_limit : ℕ
metering_limit = 57

-- "With no Wait the middle is `WAIT NONE`."
abbrev pub wait_text : Longest → List ℕ
wait_text no_wait = codes "WAIT NONE"
wait_text (longest cycles start) = codes "WAIT " ++ (hex_of cycles ++ (codes " AT " ++ hex_of start))

abbrev pub over_text : Lowest → List ℕ
over_text no_over = codes "OVER NONE"
over_text (over_at start) = codes "OVER " ++ hex_of start

-- "`0010 0010 WAIT 0006 AT 0010 OVER NONE`"
unfoldable pub named_line : ℕ → ℕ → Named → List ℕ
named_line first last named =
    hex_of first
    ++ (space ∷ (hex_of last ++ (space ∷ (wait_text named.longest_wait ++ (space ∷ over_text named.lowest_over)))))

-- the line of the region from first to last
unfoldable pub region_line : Bus → ℕ → ℕ → List ℕ
region_line b first last = named_line first last (named_of every_address (answer_from b metering_limit) first last)

-- a record of so many words, of which there is one or more
abbrev pub region_lines : Bus → ℕ → ℕ → List (List ℕ)
region_lines b address count = region_line b address (address + (count - 1)) ∷ []
