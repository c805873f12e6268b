-- `cp1610_wait`: a map that is none is refused; else the definition, by what the meter answers.
use Rattle.cp1610.specs.MeterCall.{wait_call}
use Rattle.cp1610.proofs.cp1610_wait.Goals as goal

pub returns-in_default : goal.returns-in_default
unfolding wait_call
returns-in_default c = rw c.in_default.ensures

pub returns-in-Ok : goal.returns-in-Ok
unfolding wait_call
returns-in-Ok c =
    let map = c.in-Some.ensures in
    rw (c.walked_word.ensures, map.0, ← map.1, ← c.in-Ok.ensures)

pub returns-in-Err : goal.returns-in-Err
unfolding wait_call
returns-in-Err c =
    let map = c.in-Some.ensures in
    rw (c.refused.ensures, map.0, ← map.1, ← c.in-Err.ensures)
