-- The metering's text is that of regions walked at 57.
use Prim.Native.Nat.{ℕ, ◌+◌, ◌-◌}
use mathlib.Core.Path.{◌≡◌, refl, ap}
use mathlib.Core.List.{List, [], ◌∷◌}
use lib.ListN.{length}
use Rattle.refusal.specs.Report.{Report, refused, answered}
use Rattle.memory.specs.Bus.{Bus}
use Rattle.records.specs.Records.{Record}
use Rattle.meter.specs.Walk.{limit_of}
use Rattle.report.specs.declared.Program.TheVariants.{MeterImage}
use Rattle.report.specs.Reading.{ReadImage, reading_of}
use Rattle.report.specs.Regions.{region_line}
use Rattle.report.specs.Program.{records_lines, loaded_text, reading_text, report_text}
use Rattle.report.specs.Metering.{metered_line, metered_lines, metered_text, MetersAt57}

-- of the records' lines: the limit that is passed is the one that is walked with
lines-at-57 : (b : Bus) (rs : List Record) → records_lines MeterImage b rs ≡ metered_lines 57 b rs
unfolding region_line limit_of
lines-at-57 b [] = refl
lines-at-57 b (r ∷ rs) = ap (λ (lines : List (List ℕ)). metered_line 57 b r.address (r.address + (length r.words - 1)) ∷ lines) (lines-at-57 b rs)

text-at-57 : (seen : List ℕ → Bus) (r : Report ReadImage) → reading_text seen MeterImage r ≡ metered_text 57 seen r
unfolding loaded_text
text-at-57 seen (refused n) = refl
text-at-57 seen (answered image) = rw (lines-at-57 (seen image.memory) image.records)

pub meters-at-57 : MetersAt57
unfolding report_text
meters-at-57 seen input = text-at-57 seen (reading_of input)
