-- `next`: remarks are passed over, and any other row is a case's first.
use Rattle.std.proofs.Common.{◌≡◌, true, false, length, sym, ap, ◌∙◌, arith}
use Rattle.harness.specs.Cases.{cases_in}
use Rattle.harness.proofs.CaseLaws.{case-more, cases-after-remark, cases-of-none}
use Rattle.harness.proofs.cases.CasesIterator.next.Goals as goal

pub returns-then-not-is_remark-clause-steps : goal.returns-then-not-is_remark-clause-steps
returns-then-not-is_remark-clause-steps c =
    let e : c.is_remark.result ≡ false = c.if-not-is_remark.true in
    let second = c.next_or_empty-second.ensures in
    let third = c.next_or_empty-third.ensures in
    sym c.loop-first.invariant
    ∙ case-more _ _ _ _ _ _ _ c.in-Some.ensures.steps (sym c.is_remark.ensures ∙ e) second.first second.others third.first third.others

pub returns-then-not-is_remark-clause-goes : goal.returns-then-not-is_remark-clause-goes
returns-then-not-is_remark-clause-goes c =
    let e : c.is_remark.result ≡ false = c.if-not-is_remark.true in
    let second = c.next_or_empty-second.ensures in
    let third = c.next_or_empty-third.ensures in
    let more =
    sym c.loop-first.invariant
    ∙ case-more _ _ _ _ _ _ _ c.in-Some.ensures.steps (sym c.is_remark.ensures ∙ e) second.first second.others third.first third.others in
    record { on = λ _. (tt, tt, omega (arith, ap length more)); keeps = tt; rests = λ _. tt }

pub loop-first-preserved : goal.loop-first-preserved
loop-first-preserved c =
    let e : c.is_remark.result ≡ true = c.if-not-is_remark.false in
    sym (ap cases_in c.in-Some.ensures.steps ∙ cases-after-remark _ _ (sym c.is_remark.ensures ∙ e)) ∙ c.loop-first.invariant

pub returns-clause-steps : goal.returns-clause-steps
returns-clause-steps c =
    let none = c.in_default.ensures.steps in
    (sym c.loop-first.invariant ∙ ap cases_in none.0 ∙ cases-of-none, ap cases_in none.1 ∙ cases-of-none)
