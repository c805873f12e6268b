-- `reach`: the refusals in their order, and then the set that `explore` leaves.
use Prim.Native.Nat.{ℕ}
use mathlib.Core.Path.{refl, sym, ap, ◌∙◌}
use borrow.Author.Tests.{le-ltb, eq-eqb, ne_eqb}
use mathlib.Core.List.{List}
use lib.ListN.{length, replicate}
use Rattle.refusal.specs.Report.{answered}
use Rattle.word.proofs.Choice.{cond-false}
use Rattle.memory.proofs.BusLaws.{unless-in}
use Rattle.reach.specs.Reach.{reach_of}
use Rattle.reach.proofs.SummaryLaws.{summary-is}
use Rattle.reach.proofs.reach.Goals as goal

pub returns-in_default-as_mut_array : goal.returns-in_default-as_mut_array
unfolding reach_of
returns-in_default-as_mut_array c =
    record {
      answer =
          sym
          (unless-in _ _ (sym c.in_ok-admit.ensures) ∙ cond-false _ _ (le-ltb _ _ c.if-entries-gt-MOST_ENTRIES.false)
          ∙ rw (eq-eqb _ _ c.in-Some.ensures.cases.long, ne_eqb _ _ c.in_default-as_mut_array.ensures.cases));
      left = record { clear_is = c.in-Some.ensures.cases.same; set_is = refl };
    }

pub explore-requires : goal.explore-requires
explore-requires c =
    let k = c.in-Some.ensures.cases in
    let k' = c.in-Some-as_mut_array.ensures.cases in
    let zeros : ℕ → List ℕ = λ n. replicate n 0 in
    (c.reset.ensures ∙ ap zeros (ap length k.same ∙ k.long), c.reset-2.ensures ∙ ap zeros (ap length k'.same ∙ k'.long), refl)

pub returns : goal.returns
unfolding reach_of
returns c =
    let s = summary-is _ _ _ _ c.explore.ensures.holds_writers c.count_either.ensures c.count_either-2.ensures c.find_lowest.ensures in
    record {
      answer =
          ap answered s
          ∙ sym (unless-in _ _ (sym c.in_ok-admit.ensures) ∙ cond-false _ _ (le-ltb _ _ c.if-entries-gt-MOST_ENTRIES.false)
          ∙ rw (eq-eqb _ _ c.in-Some.ensures.cases.long, eq-eqb _ _ c.in-Some-as_mut_array.ensures.cases.long));
      left = c.explore.ensures.reached_set;
    }
