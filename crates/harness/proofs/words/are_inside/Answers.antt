-- `are_inside`: the words of every field are.
use Rattle.std.proofs.Common.{rules, tests}
use Rattle.std.proofs.lemmas.Iterator.Consumers.{YieldsList-from_first}
use Rattle.std.proofs.lemmas.Iterator.Search.{all_from_yields_List}
use Rattle.harness.specs.Fields.{fields_of, fields_left}
use Rattle.harness.specs.Words.{is_inside}
use Rattle.harness.proofs.words.are_inside.Goals as goal

pub returns : goal.returns
returns c =
    all_from_yields_List (λ field. is_inside field c.args.size) c.all.new.self _ c.all.result c.all.ensures.ran
    (YieldsList-from_first (λ x. x.now) fields_left (fields_of c.args.fields.now) c.of.ensures) (λ x b q k. search (rules, tests))
