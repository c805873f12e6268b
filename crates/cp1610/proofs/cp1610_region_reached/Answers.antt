-- `cp1610_region_reached`: a short buffer and a map that is none are refused; else the definition is rewritten back to what the meter answered.
use borrow.Author.Tests.{lt-ltb, le-ltb}
use Rattle.cp1610.specs.MeterCall.{region_reached_call}
use Rattle.cp1610.proofs.cp1610_region_reached.Goals as goal

pub returns-then-out-lt-REGION_LENGTH : goal.returns-then-out-lt-REGION_LENGTH
unfolding region_reached_call
returns-then-out-lt-REGION_LENGTH c = rw (lt-ltb _ _ c.if-out-lt-REGION_LENGTH.true)

pub returns-in_default : goal.returns-in_default
unfolding region_reached_call
returns-in_default c = rw (le-ltb _ _ c.if-out-lt-REGION_LENGTH.false, c.in_default.ensures)

pub returns : goal.returns
unfolding region_reached_call
returns c =
    let map = c.in-Some.ensures in
    rw (le-ltb _ _ c.if-out-lt-REGION_LENGTH.false, map.0, ← map.1, ← c.region_reached.ensures) c.region_word.ensures
