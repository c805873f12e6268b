-- What a program does with its streams.
use Rattle.std.specs.Prelude.{ℕ, ◌≤◌, ◌≡◌, List, length, Option, OnOk, ◌⊎◌}
use Rattle.std.specs.Io.KnownBytes.{Consumes, Appends}
use Rattle.refusal.specs.Report.{is_refused}
use Rattle.memory.specs.Map.{all_ram}
use Rattle.memory.specs.Bus.{bus_on}
use Rattle.report.specs.declared.Program.{Program}
use Rattle.report.specs.declared.streams.Transcribed.{Transcribed}
use Rattle.report.specs.Reading.{read_room, reading_of}
use Rattle.report.specs.Program.{report_text}

-- Some bytes, no more than there is room for, were taken from the input, and where the writing did not fail their text, and nothing else, was put behind what the output had.
pub record Transcribes (program : Program) (input rest output wrote : Option (List ℕ)) (t : Transcribed) : Type 0 where
  pub bytes : List ℕ
  pub within : length bytes ≤ read_room
  pub taken : Consumes input rest bytes
  pub refused : t.refused ≡ is_refused (reading_of bytes)
  pub text : OnOk t.written (Appends output wrote (report_text (bus_on all_ram) program bytes))

-- the exit status of a program: 0, or that of one whose text nobody reads
abbrev pub EndsWell : ℕ → Type 0
EndsWell status = (status ≡ 0) ⊎ (status ≡ 141)
