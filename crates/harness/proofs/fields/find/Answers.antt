-- `find`: the first field that has the key.
use Rattle.std.proofs.Common.{rules, tests}
use Rattle.std.proofs.lemmas.Iterator.Consumers.{YieldsList-from_first}
use Rattle.std.proofs.lemmas.Iterator.Search.{find_from_yields_List}
use Rattle.harness.specs.Fields.{starts_with_key, fields_of, fields_left}
use Rattle.harness.proofs.fields.find.Goals as goal

pub returns : goal.returns
returns c =
    find_from_yields_List (λ field. starts_with_key field c.args.key.now) c.find.new.self _ c.find.result c.find.ensures.ran
    (YieldsList-from_first (λ x. x.now) fields_left (fields_of c.args.row.now) c.of.ensures) (λ x b q k. search (rules, tests))
