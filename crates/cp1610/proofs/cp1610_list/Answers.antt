-- `cp1610_list`: a short buffer and a map that is none are refused; else the definition is rewritten back to what the lister answered; the text is short.
use borrow.Author.Tests.{lt-ltb, le-ltb}
use native.Mathlib.Omega.{arith}
use Rattle.cp1610.specs.ListingCall.{list_words, list_call}
use Rattle.cp1610.proofs.WordLaws.{cast-flag}
use Rattle.cp1610.proofs.EndLaws.{listing-kept, listing-short}
use Rattle.cp1610.proofs.cp1610_list.Goals as goal

pub returns-then-out-lt-LIST_LENGTH : goal.returns-then-out-lt-LIST_LENGTH
unfolding list_call
returns-then-out-lt-LIST_LENGTH c = rw (lt-ltb _ _ c.if-out-lt-LIST_LENGTH.true)

pub returns-in_default : goal.returns-in_default
unfolding list_call
returns-in_default c = rw (le-ltb _ _ c.if-out-lt-LIST_LENGTH.false, c.in_default.ensures)

pub overflow_cast-listed : goal.overflow_cast-listed
overflow_cast-listed c = omega (arith, listing-short _ _ _ _ _ _ c.disassemble-answer.ensures c.in-Ok.is)

pub returns-in-Ok : goal.returns-in-Ok
unfolding list_call list_words
returns-in-Ok c =
    let map = c.in-Some.ensures in
    rw (
      c.success.ensures,
      c.put.ensures,
      le-ltb _ _ c.if-out-lt-LIST_LENGTH.false,
      map.0,
      ← map.1,
      ← c.disassemble-answer.ensures,
      c.in-Ok.is,
    )
    (simp cast-flag)

pub returns-in-Err : goal.returns-in-Err
unfolding list_call
returns-in-Err c =
    let map = c.in-Some.ensures in
    rw (
      le-ltb _ _ c.if-out-lt-LIST_LENGTH.false,
      map.0,
      ← map.1,
      ← c.disassemble-answer.ensures,
      c.in-Err.is,
      c.refused.ensures,
      listing-kept _ _ _ _ _ _ c.disassemble-answer.ensures c.in-Err.is,
    )
