-- On an all-RAM board every file has the text that it has in plain memory: the loaded memory is short enough for every read to be the same.
use Prim.Native.Nat.{ℕ, ◌+◌, ◌-◌, ◌≤◌}
use mathlib.Core.Path.{◌≡◌, refl, ap, ap₂}
use mathlib.Core.Bool.{false}
use mathlib.Core.List.{List, [], ◌∷◌, ◌++◌}
use native.Mathlib.Omega.{arith}
use lib.Dec.{ltb}
use lib.ListN.{length}
use Rattle.word.proofs.Choice.{cond_both}
use Rattle.refusal.specs.Report.{Report, refused, answered}
use Rattle.memory.specs.Bus.{Bus, bus_of, bus_on, read_of}
use Rattle.memory.proofs.BusLaws.{lets_in}
use Rattle.memory.proofs.AllRamLaws.{all-ram-laws}
use Rattle.records.specs.Records.{Record}
use Rattle.image.specs.Format.{record_limit}
use Rattle.image.specs.Read.{head_of}
use Rattle.image.specs.Load.{load_of}
use Rattle.image.proofs.OutcomeLaws.{load-keeps-length}
use Rattle.meter.specs.Walk.{limit_of, walk_from}
use Rattle.meter.specs.Meter.{named_of, every_address}
use Rattle.report.specs.declared.Program.{Program}
use Rattle.report.specs.declared.Program.TheVariants.{ListImage, MeterImage}
use Rattle.report.specs.Reading.{board_number, input_limit, zero_words, records_of, ReadImage, load_read, reading_of}
use Rattle.report.specs.Instructions.{lines_from, instruction_lines}
use Rattle.report.specs.Regions.{metering_limit, named_line, region_line}
use Rattle.report.specs.Program.{record_lines, records_lines, loaded_text, reading_text, report_text}
use Rattle.report.specs.Laws.{AllRamText}

-- what is printed of loaded words goes by their reads alone
module _ (b c : Bus) (e : read_of b ≡ read_of c) where
  record-alike : (program : Program) (address count : ℕ) → record_lines program b address count ≡ record_lines program c address count
  unfolding instruction_lines region_line
  record-alike ListImage address count = ap (λ (read : ℕ → ℕ). lines_from count read (address + count) address false) e
  record-alike MeterImage address count =
      ap (λ (read : ℕ → ℕ). named_line address (address + (count - 1)) (named_of every_address (walk_from read (limit_of metering_limit)) address (address + (count - 1))) ∷ []) e

  records-alike : (program : Program) (rs : List Record) → records_lines program b rs ≡ records_lines program c rs
  records-alike program [] = refl
  records-alike program (r ∷ rs) = ap₂ (λ (x y : List (List ℕ)). x ++ y) (record-alike program r.address (length r.words)) (records-alike program rs)

  text-alike : (program : Program) (rs : List Record) → loaded_text program b rs ≡ loaded_text program c rs
  unfolding loaded_text
  text-alike program rs = rw (records-alike program rs)

-- a memory that was loaded has the board's words
abbrev Short : Report ReadImage → Type 0
Short (refused n) = Unit
Short (answered image) = length image.memory ≤ 65536

short-read : (rs : List Record) (m : List ℕ) (answer : Report ℕ) → length m ≤ 65536 → Short (load_read rs m answer)
short-read rs m (refused n) h = tt
short-read rs m (answered n) h = h

short : (input : List ℕ) → Short (reading_of input)
unfolding reading_of zero_words
short input =
    let l = load_of board_number zero_words input in
    cond_both Short (ltb input_limit (length input)) tt
    (short-read (records_of input) l.memory l.answer (omega (arith, load-keeps-length head_of record_limit board_number zero_words input)))

pub all-ram-text : AllRamText
unfolding report_text
all-ram-text b h program input = go (reading_of input) (short input)
  where
    go : (r : Report ReadImage) → Short r → reading_text (bus_on b) program r ≡ reading_text bus_of program r
    go (refused n) s = refl
    go (answered image) s =
        text-alike (bus_on b image.memory) (bus_of image.memory) (all-ram-laws.reads b image.memory h (lets_in image.memory s)) program image.records
