-- No two answers are reported alike.
use mathlib.Core.Path.{refl}
use Rattle.refusal.specs.Report.{OneToOne}
use Rattle.refusal.proofs.ReportLaws.{told-apart, reported-apart}
use Rattle.listing.specs.declared.Listed.{Listed}
use Rattle.listing.specs.declared.Assembly.TheVariants.{One, Two, Three}
use Rattle.listing.specs.Answer.{ListedLine, line_told, words_in, AnswersApart}

abbrev line_back : ListedLine → Listed
line_back x = record { length = x.length; words = x.words; double = x.double }

words-apart : OneToOne words_in
words-apart (One w) (One v) e = cc
words-apart (One w) (Two v x) e = cc
words-apart (One w) (Three v x y) e = cc
words-apart (Two w a) (One v) e = cc
words-apart (Two w a) (Two v x) e = cc
words-apart (Two w a) (Three v x y) e = cc
words-apart (Three w a b) (One v) e = cc
words-apart (Three w a b) (Two v x) e = cc
words-apart (Three w a b) (Three v x y) e = cc

pub answers-apart : AnswersApart
answers-apart =
    record {
      listings = reported-apart line_told (told-apart line_told line_back (λ x. refl));
      assemblies = reported-apart words_in words-apart;
    }
