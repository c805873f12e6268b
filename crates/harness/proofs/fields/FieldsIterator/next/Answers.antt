-- `next`: a row that is not empty has a first field, and the fields behind it.
use Rattle.std.proofs.Common.{◌≡◌, ℕ, ◌<◌, List, ◌∷◌, length, ap, arith}
use Rattle.std.proofs.lemmas.Bool.Decides.{nat_tests}
use Rattle.harness.specs.Fields.{after_first_field, fields_of}
use Rattle.harness.proofs.FieldLaws.{fields-of-more, fields-of-none}
use Rattle.harness.proofs.fields.FieldsIterator.next.Goals as goal

more : (row rest : List ℕ) → rest ≡ after_first_field row → 0 < length row → fields_of row ≡ row ∷ fields_of rest
more row rest e h = rw e (fields-of-more row h)

pub returns-then-is_empty-clause-steps : goal.returns-then-is_empty-clause-steps
returns-then-is_empty-clause-steps c =
    let none = fields-of-none c.args.self.now.rest.now (grind (arith, nat_tests)) in
    (none, none)

pub returns-clause-steps : goal.returns-clause-steps
returns-clause-steps c = more _ _ c.after_first_field-self.ensures.0 (grind (arith, nat_tests))

pub returns-clause-goes : goal.returns-clause-goes
returns-clause-goes c =
    let next = more c.args.self.now.rest.now _ c.after_first_field-self.ensures.0 (grind (arith, nat_tests)) in
    record { on = λ _. (tt, tt, omega (arith, ap length next)); keeps = tt; rests = λ _. tt }
