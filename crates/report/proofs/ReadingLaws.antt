-- When an input is over-long, and what is known of one that was loaded.
use Prim.Native.Nat.{ℕ, ◌≤◌}
use mathlib.Core.Path.{◌≡◌, refl}
use mathlib.Core.List.{List}
use native.Mathlib.Omega.{arith}
use borrow.Author.Tests.{lt-ltb, le-ltb}
use lib.ListN.{length, length-take}
use Rattle.std.proofs.Common.{Result, Ok, Err}
use Rattle.std.specs.Prelude.{OnOk}
use Rattle.word.proofs.Choice.{cond-true, cond-false}
use Rattle.refusal.specs.declared.Refusal.{Refusal}
use Rattle.records.specs.Loading.{loaded}
use Rattle.image.specs.Load.{load_of}
use Rattle.image.proofs.FirstLaws.{loaded-whole}
use Rattle.report.specs.Reading.{board_number, board_words, input_limit, zero_words, input_of, reading_after, reading_of}
use Rattle.report.specs.Laws.{LongRefused, OverLongRefused}
use Rattle.report.specs.Inner.Page.{Ready}

pub long-refused : LongRefused
unfolding reading_of
long-refused input h = cond-true _ _ (lt-ltb input_limit (length input) h)

pub over-long-refused : OverLongRefused
over-long-refused room count r h = long-refused (input_of room count) (omega (arith, length-take count room))

pub in-limit : (input : List ℕ) → length input ≤ input_limit → reading_of input ≡ reading_after input (load_of board_number zero_words input)
unfolding reading_of
in-limit input h = cond-false _ _ (le-ltb input_limit (length input) h)

pub loaded-ready : {after : List ℕ} (r : Result ℕ Refusal) (m file : List ℕ) → loaded r after ≡ load_of board_number m file
    → length m ≡ board_words → length file ≤ input_limit → OnOk r (Ready file)
loaded-ready (Ok n) m file e l h = record { short = h; whole_file = rw l at (loaded-whole board_number m file e refl) }
loaded-ready (Err r) m file e l h = tt
