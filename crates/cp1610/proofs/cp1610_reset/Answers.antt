-- `cp1610_reset`: a short state is refused, and else the reset state is packed.
use borrow.Author.Tests.{lt-ltb}
use Rattle.cp1610.specs.Call.{reset_call}
use Rattle.cp1610.proofs.EndLaws.{reset-ends}
use borrow.Author.Rules.{rules}
use Rattle.cp1610.proofs.cp1610_reset.Goals as goal

pub returns-then-state-lt-STATE_LENGTH : goal.returns-then-state-lt-STATE_LENGTH
unfolding reset_call
returns-then-state-lt-STATE_LENGTH c = rw (lt-ltb _ _ c.if-state-lt-STATE_LENGTH.true)

pub returns : goal.returns
returns c =
    rw (c.success.ensures, c.pack.ensures) (reset-ends _ _ (search rules) (search rules))
