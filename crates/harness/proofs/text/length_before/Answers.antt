-- `length_before`: the place of the first mark, or the length.
use Rattle.std.proofs.Common.{◌==◌, length, ap, ◌∙◌, rules, tests, arith}
use Rattle.std.specs.Option.{unwrap_or}
use Rattle.std.proofs.lemmas.Grind.{common_steps}
use Rattle.std.proofs.lemmas.Iterator.{YieldsList-from_slice}
use Rattle.std.proofs.lemmas.Iterator.Search.{position_from_yields_List}
use Rattle.harness.proofs.text.length_before.Goals as goal

pub returns : goal.returns
returns c =
    let text = c.args.text.now in
    let found = position_from_yields_List (λ b. b == c.args.mark) _ _ c.position.result c.position.ensures.ran (YieldsList-from_slice text cc) (λ x b q k. search (rules, tests)) in
    (c.unwrap_or.ensures ∙ ap (λ r. unwrap_or r (length text)) found, grind (arith, common_steps))
