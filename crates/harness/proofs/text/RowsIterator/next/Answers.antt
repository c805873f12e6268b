-- `next`: a text that is not empty has a first row, and the rows behind it.
use Rattle.std.proofs.Common.{◌≡◌, ◌∷◌, length, ap, arith}
use Rattle.std.proofs.lemmas.Bool.Decides.{nat_tests}
use Rattle.harness.specs.Text.{rows_of, rows_left}
use Rattle.harness.proofs.RowLaws.{rows-of-more, rows-of-none}
use Rattle.harness.proofs.text.RowsIterator.next.Goals.{After-first_row}
use Rattle.harness.proofs.text.RowsIterator.next.Goals as goal

pub returns-then-is_empty-clause-steps : goal.returns-then-is_empty-clause-steps
returns-then-is_empty-clause-steps c =
    let none = rows-of-none c.args.self.now.rest.now (grind (arith, nat_tests)) in
    (none, none)

more : (c : After-first_row) → rows_left c.args.self.now ≡ c.first_row.result.now ∷ rows_of c.after_first_row-self.result.now
more c =
    rw (c.first_row.ensures, c.after_first_row-self.ensures.0) (rows-of-more c.args.self.now.rest.now (grind (arith, nat_tests)))

pub returns-clause-steps : goal.returns-clause-steps
returns-clause-steps c = more c

pub returns-clause-goes : goal.returns-clause-goes
returns-clause-goes c =
    record { on = λ _. (tt, tt, omega (arith, ap length (more c))); keeps = tt; rests = λ _. tt }
