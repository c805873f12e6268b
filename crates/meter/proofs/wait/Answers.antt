-- `wait` refuses in the definition's order. Its loop keeps `Walking`, and is left with the walk's answer.
use mathlib.Core.Path.{sym, ◌∙◌}
use borrow.Author.Tests.{lt-ltb}
use Rattle.std.proofs.lemmas.Result.{err_from_is_err_and}
use Rattle.word.proofs.Choice.{cond-true}
use Rattle.memory.proofs.BusLaws.{unless-in, unless-out}
use Rattle.meter.specs.Meter.{wait_of}
use Rattle.meter.proofs.Loops.{walking, walking_on, walking-less, walking-ends, wait-end}
use Rattle.meter.proofs.wait.Goals as goal

pub returns-in_err-admit : goal.returns-in_err-admit
unfolding wait_of
returns-in_err-admit c =
    let p = err_from_is_err_and c.from_residual.result c.from_residual.ensures.1 in
    rw (p.1, p.2) (sym (unless-out _ _ (sym c.in_err-admit.ensures)))

pub returns-in_err-limit : goal.returns-in_err-limit
unfolding wait_of
returns-in_err-limit c =
    let p = err_from_is_err_and c.from_residual-in_err-limit.result c.from_residual-in_err-limit.ensures.1 in
    rw (p.1, p.2, c.in_err-limit.ensures.1)
    (sym (unless-in _ _ (sym c.in_ok-admit.ensures) ∙ cond-true _ _ (lt-ltb _ _ c.in_err-limit.ensures.0)))

pub loop-walked-init : goal.loop-walked-init
loop-walked-init c = walking c.start_at-place.ensures

pub turn_at-requires : goal.turn_at-requires
turn_at-requires c = c.loop-walked.invariant.low

pub returns-in-Break : goal.returns-in-Break
returns-in-Break c =
    wait-end _ _ _ (rw (← c.at-view.ensures) (walking-ends c.loop-walked.invariant c.turn_at.ensures c.in-Break.is)) c.in_ok-limit.ensures.1
    (sym c.in_ok-admit.ensures)
    c.in_ok-limit.ensures.0

pub loop-walked-smaller : goal.loop-walked-smaller
loop-walked-smaller c = walking-less c.loop-walked.invariant c.turn_at.ensures c.in-Continue.is

pub loop-walked-preserved : goal.loop-walked-preserved
loop-walked-preserved c = walking_on c.loop-walked.invariant c.turn_at.ensures c.in-Continue.is
