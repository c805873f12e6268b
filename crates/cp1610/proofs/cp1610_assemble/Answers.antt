-- `cp1610_assemble`: a short buffer is refused; else the definition is rewritten back to what the assembler answered.
use borrow.Author.Tests.{lt-ltb, le-ltb}
use Rattle.cp1610.specs.ListingCall.{assemble_call}
use Rattle.cp1610.proofs.cp1610_assemble.Goals as goal

pub returns-then-words-lt-LINE_WORDS : goal.returns-then-words-lt-LINE_WORDS
unfolding assemble_call
returns-then-words-lt-LINE_WORDS c = rw (lt-ltb _ _ c.if-words-lt-LINE_WORDS.true)

pub returns-in-Ok : goal.returns-in-Ok
unfolding assemble_call
returns-in-Ok c =
    rw (c.put_assembly.ensures.count, c.put_assembly.ensures.put, le-ltb _ _ c.if-words-lt-LINE_WORDS.false, ← c.assemble.ensures, c.in-Ok.is)

pub returns-in-Err : goal.returns-in-Err
unfolding assemble_call
returns-in-Err c =
    rw (c.refused.ensures, le-ltb _ _ c.if-words-lt-LINE_WORDS.false, ← c.assemble.ensures, c.in-Err.is)
