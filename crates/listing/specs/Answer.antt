-- What the two calls report, in document 01's numbers and values: "answers text length, words used and next D"; one, two or three
-- words; or the refusal's number.
use Rattle.std.specs.Prelude.{ℕ, Bool, List, [], ◌∷◌, Result}
use Rattle.refusal.specs.declared.Refusal.{Refusal}
use Rattle.refusal.specs.Refusals.{reported}
use Rattle.refusal.specs.Report.{Report, answered, OneToOne}
use Rattle.listing.specs.declared.Listed.{Listed}
use Rattle.listing.specs.declared.Assembly.{Assembly}
use Rattle.listing.specs.declared.Assembly.TheVariants.{One, Two, Three}

-- text length, words used, next D
pub record ListedLine : Type 0 where
  pub length : ℕ
  pub words : ℕ
  pub double : Bool

abbrev pub line_told : Listed → ListedLine
line_told x = record { length = x.length; words = x.words; double = x.double }

abbrev pub listed_line : ℕ → ℕ → Bool → Report ListedLine
listed_line length words double = answered (record { length = length; words = words; double = double })

abbrev pub listing_reported : Result Listed Refusal → Report ListedLine
listing_reported answer = reported line_told answer

-- the words of a line
abbrev pub words_in : Assembly → List ℕ
words_in (One w) = w ∷ []
words_in (Two w a) = w ∷ a ∷ []
words_in (Three w a b) = w ∷ a ∷ b ∷ []

abbrev pub assembly_reported : Result Assembly Refusal → Report (List ℕ)
assembly_reported answer = reported words_in answer

-- no two answers are reported alike
pub record AnswersApart : Type 0 where
  pub listings : OneToOne listing_reported
  pub assemblies : OneToOne assembly_reported
