-- `is_list`: each byte fits its column.
use Rattle.std.proofs.Common.{rules, tests}
use Rattle.std.proofs.lemmas.Iterator.{YieldsList-from_slice}
use Rattle.std.proofs.lemmas.Iterator.Consumers.{YieldsList-from_enumerate}
use Rattle.std.proofs.lemmas.Iterator.Search.{all_from_yields_List}
use Rattle.harness.specs.Forms.{is_list, fits_column}
use Rattle.harness.proofs.form.is_list.Goals as goal

pub returns : goal.returns
unfolding is_list
returns c =
    let all =
    all_from_yields_List (λ p. fits_column p.1 p.0) c.all.new.self _ c.all.result c.all.ensures.ran
    (YieldsList-from_enumerate (YieldsList-from_slice c.args.value.now cc) (cc))
    (λ x b q k. search (rules, tests)) in
    rw all
