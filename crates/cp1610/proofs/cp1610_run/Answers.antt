-- `cp1610_run`: a short buffer and a map that is none are refused; else the definition is rewritten back to what was unpacked, run and answered.
use borrow.Author.Tests.{lt-ltb, le-ltb}
use Rattle.cp1610.specs.Answers.{run_words}
use Rattle.cp1610.specs.Call.{run_call}
use Rattle.cp1610.proofs.EndLaws.{run-kept}
use Rattle.cp1610.proofs.cp1610_run.Goals as goal

pub returns-then-state-lt-STATE_LENGTH : goal.returns-then-state-lt-STATE_LENGTH
unfolding run_call
returns-then-state-lt-STATE_LENGTH c = rw (lt-ltb _ _ c.if-state-lt-STATE_LENGTH.true)

pub returns-then-out-lt-RUN_LENGTH : goal.returns-then-out-lt-RUN_LENGTH
unfolding run_call
returns-then-out-lt-RUN_LENGTH c = rw (le-ltb _ _ c.if-state-lt-STATE_LENGTH.false, lt-ltb _ _ c.if-out-lt-RUN_LENGTH.true)

pub returns-in_default : goal.returns-in_default
unfolding run_call
returns-in_default c =
    rw (le-ltb _ _ c.if-state-lt-STATE_LENGTH.false, le-ltb _ _ c.if-out-lt-RUN_LENGTH.false, c.in_default.ensures)

pub returns-in-Ok : goal.returns-in-Ok
unfolding run_call run_words
returns-in-Ok c =
    let map = c.in-Some.ensures in
    let ran = rw (c.unpack.ensures, c.lines_of.ensures, map.1) at c.run-ran.ensures in
    rw (
      c.success.ensures,
      c.put.ensures,
      c.run_words.ensures,
      c.pack.ensures,
      le-ltb _ _ c.if-state-lt-STATE_LENGTH.false,
      le-ltb _ _ c.if-out-lt-RUN_LENGTH.false,
      map.0,
      ← ran,
      c.in-Ok.is,
    )

pub returns-in-Err : goal.returns-in-Err
unfolding run_call
returns-in-Err c =
    let map = c.in-Some.ensures in
    let ran = rw (c.unpack.ensures, c.lines_of.ensures, map.1) at c.run-ran.ensures in
    rw (
      c.refused.ensures,
      le-ltb _ _ c.if-state-lt-STATE_LENGTH.false,
      le-ltb _ _ c.if-out-lt-RUN_LENGTH.false,
      map.0,
      ← ran,
      c.in-Err.is,
      run-kept _ _ _ _ _ c.run-ran.result _ _ ran c.in-Err.is,
    )
