-- `fit`: every field fits.
use Rattle.std.proofs.Common.{rules, tests}
use Rattle.std.proofs.lemmas.Iterator.Consumers.{YieldsList-from_first}
use Rattle.std.proofs.lemmas.Iterator.Search.{all_from_yields_List}
use Rattle.harness.specs.Fields.{fields_of, fields_left}
use Rattle.harness.specs.Forms.{first_fits}
use Rattle.harness.proofs.form.fit.Goals as goal

pub returns : goal.returns
returns c =
    all_from_yields_List (λ field. first_fits field c.args.form.now) c.all.new.self _ c.all.result c.all.ensures.ran
    (YieldsList-from_first (λ x. x.now) fields_left (fields_of c.args.fields.now) c.of.ensures) (λ x b q k. search (rules, tests))
