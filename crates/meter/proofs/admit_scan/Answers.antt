-- `admit_scan` refuses in the definition's order.
use mathlib.Core.Path.{refl, sym, ◌∙◌}
use borrow.Author.Tests.{lt-ltb, le-ltb}
use Rattle.std.proofs.lemmas.Result.{err_from_is_err_and}
use Rattle.word.proofs.Choice.{cond-true, cond-false}
use Rattle.memory.proofs.BusLaws.{unless-in, unless-out}
use Rattle.meter.specs.Meter.{scan_admission}
use Rattle.meter.proofs.RegionLaws.{lets_in}
use Rattle.meter.proofs.admit_scan.Goals as goal

pub returns-in_err-admit : goal.returns-in_err-admit
unfolding scan_admission
returns-in_err-admit c =
    let p = err_from_is_err_and c.from_residual.result c.from_residual.ensures.1 in
    rw (p.1, p.2) (unless-out _ _ (sym c.in_err-admit.ensures))

pub returns-then-last-first : goal.returns-then-last-first
unfolding scan_admission
returns-then-last-first c =
    unless-in _ _ (sym c.in_ok-admit.ensures) ∙ cond-true _ _ (lt-ltb _ _ c.if-last-first.true)

pub returns-in_err-limit : goal.returns-in_err-limit
unfolding scan_admission
returns-in_err-limit c =
    let p = err_from_is_err_and c.from_residual-in_err-limit.result c.from_residual-in_err-limit.ensures.1 in
    rw (p.1, p.2, c.in_err-limit.ensures.1)
    (unless-in _ _ (sym c.in_ok-admit.ensures)
    ∙ cond-false _ _ (le-ltb _ _ c.if-last-first.false)
    ∙ cond-true _ _ (lt-ltb _ _ c.in_err-limit.ensures.0))

pub returns : goal.returns
returns c =
    (lets_in _ _ _ _ (record { admitted = sym c.in_ok-admit.ensures; ordered = c.if-last-first.false; low = c.in_ok-limit.ensures.0 }), refl, refl, c.in_ok-limit.ensures.1)
