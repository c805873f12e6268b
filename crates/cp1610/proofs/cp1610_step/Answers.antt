-- `cp1610_step`: a short state and a map that is none are refused; else the definition is rewritten back to what was unpacked, stepped and answered.
use mathlib.Core.Path.{ap}
use native.Mathlib.Omega.{arith}
use borrow.Author.Tests.{lt-ltb, le-ltb}
use Rattle.cpu.specs.Answer.{step_report, cycles_of}
use Rattle.cp1610.specs.Call.{step_call}
use Rattle.cp1610.proofs.EndLaws.{step-cycles-low, step-kept}
use Rattle.cp1610.proofs.cp1610_step.Goals as goal

pub returns-then-state-lt-STATE_LENGTH : goal.returns-then-state-lt-STATE_LENGTH
unfolding step_call
returns-then-state-lt-STATE_LENGTH c = rw (lt-ltb _ _ c.if-state-lt-STATE_LENGTH.true)

pub returns-in_default : goal.returns-in_default
unfolding step_call
returns-in_default c = rw (le-ltb _ _ c.if-state-lt-STATE_LENGTH.false, c.in_default.ensures)

pub step_word-requires : goal.step_word-requires
step_word-requires c =
    omega (arith, step-cycles-low _ c.one_step-stepped.result _ _ _ _ c.one_step-stepped.ensures, ap (λ r. cycles_of (step_report r)) c.in-Ok.is)

pub returns-in-Ok : goal.returns-in-Ok
unfolding step_call
returns-in-Ok c =
    let map = c.in-Some.ensures in
    let stepped = rw (c.unpack.ensures, c.lines_of.ensures, map.1) at c.one_step-stepped.ensures in
    rw (c.step_word.ensures, c.pack.ensures, le-ltb _ _ c.if-state-lt-STATE_LENGTH.false, map.0, ← stepped, c.in-Ok.is)

pub returns-in-Err : goal.returns-in-Err
unfolding step_call
returns-in-Err c =
    let map = c.in-Some.ensures in
    let stepped = rw (c.unpack.ensures, c.lines_of.ensures, map.1) at c.one_step-stepped.ensures in
    rw (
      c.refused.ensures,
      le-ltb _ _ c.if-state-lt-STATE_LENGTH.false,
      map.0,
      ← stepped,
      c.in-Err.is,
      step-kept _ _ _ _ c.one_step-stepped.result _ _ stepped c.in-Err.is,
    )
