-- `cp1610_write_pair`: a short buffer is refused; else the definition is rewritten back to what the writer answered; the lengths fit `out`.
use borrow.Author.Tests.{lt-ltb, le-ltb}
use Rattle.cp1610.specs.PairCall.{pair_words, write_pair_call}
use Rattle.cp1610.proofs.EndLaws.{pair-kept, pair_fits}
use Rattle.cp1610.proofs.cp1610_write_pair.Goals as goal

pub returns-then-out-lt-PAIR_LENGTH : goal.returns-then-out-lt-PAIR_LENGTH
unfolding write_pair_call
returns-then-out-lt-PAIR_LENGTH c = rw (lt-ltb _ _ c.if-out-lt-PAIR_LENGTH.true)

pub overflow_cast-lengths : goal.overflow_cast-lengths
overflow_cast-lengths c = record { fits = (pair_fits _ _ _ _ _ _ _ _ c.write_pair.ensures c.in-Ok.is).0 }

pub overflow_cast-lengths-in-Ok : goal.overflow_cast-lengths-in-Ok
overflow_cast-lengths-in-Ok c = record { fits = (pair_fits _ _ _ _ _ _ _ _ c.write_pair.ensures c.in-Ok.is).1 }

pub returns-in-Ok : goal.returns-in-Ok
unfolding write_pair_call pair_words
returns-in-Ok c =
    rw (c.success.ensures, c.put.ensures, le-ltb _ _ c.if-out-lt-PAIR_LENGTH.false, ← c.write_pair.ensures, c.in-Ok.is)

pub returns-in-Err : goal.returns-in-Err
unfolding write_pair_call
returns-in-Err c =
    let e = c.write_pair.ensures in
    let kept = pair-kept _ _ _ _ _ _ _ _ e c.in-Err.is in
    rw (le-ltb _ _ c.if-out-lt-PAIR_LENGTH.false, ← e, c.in-Err.is, c.refused.ensures, kept.0, kept.1)
