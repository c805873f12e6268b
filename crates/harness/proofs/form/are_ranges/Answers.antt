-- `are_ranges`: few enough commas, and a range between each two.
use Rattle.std.proofs.Common.{◌==◌, rules, tests}
use Rattle.std.proofs.lemmas.Iterator.Search.{all_from_yields_List}
use Rattle.std.proofs.lemmas.Iterator.Splits.{YieldsList-from_slice_split}
use Rattle.harness.specs.Forms.{are_ranges, is_range}
use Rattle.harness.proofs.form.are_ranges.Goals as goal

pub returns : goal.returns
unfolding are_ranges
returns c =
    let split = c.split.ensures in
    let all =
    all_from_yields_List is_range c.all.new.self _ c.all.result c.all.ensures.ran
    (YieldsList-from_slice_split _ (λ b. b == 44) c.args.value.now split.rest split.done split.closure (λ x b q k. search (rules, tests)))
    (λ x b q k. search (rules, tests)) in
    rw (c.count.ensures, all)
