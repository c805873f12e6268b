-- What the writer of pairs reports, in the papers' numbers: the refusal's number, or both lengths. The reader reports as every loader does
-- (`load_reported` of `records`).
use Rattle.std.specs.Prelude.{ℕ, Result}
use Rattle.refusal.specs.declared.Refusal.{Refusal}
use Rattle.refusal.specs.Refusals.{reported}
use Rattle.refusal.specs.Report.{Report, OneToOne}
use Rattle.pair.specs.declared.Lengths.{Lengths}

-- "it answers both lengths": the bytes of the flat file and of the text
pub record PairLengths : Type 0 where
  pub bin : ℕ
  pub cfg : ℕ

abbrev pub lengths_told : Lengths → PairLengths
lengths_told l = record { bin = l.bin; cfg = l.cfg }

abbrev pub pair_reported : Result Lengths Refusal → Report PairLengths
pair_reported answer = reported lengths_told answer

-- no two answers are reported alike
abbrev pub PairAnswersApart : Type 0
PairAnswersApart = OneToOne pair_reported
