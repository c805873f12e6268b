-- What the writer reports, in document 01's numbers: the refusal's number, or the one number that is asked for. And what stands at the
-- front of some bytes of a file.
use Rattle.std.specs.Prelude.{ℕ, Option, None, Some, Result}
use Rattle.refusal.specs.declared.Refusal.{Refusal}
use Rattle.refusal.specs.Refusals.{reported}
use Rattle.refusal.specs.Report.{Report, OneToOne}
use Rattle.image.specs.declared.FirstRecord.{FirstRecord}
use Rattle.image.specs.Read.{First, record_first, none_first}

-- The writer "answers the length".
abbrev pub write_reported : Result ℕ Refusal → Report ℕ
write_reported answer = reported (λ bytes. bytes) answer

-- a record's address and count, or that there is none
abbrev pub first_reported : Option FirstRecord → First
first_reported (Some r) = record_first r.address r.count
first_reported None = none_first

-- no two answers are reported alike
abbrev pub WriteAnswersApart : Type 0
WriteAnswersApart = OneToOne write_reported
