-- `disassemble` tests document 01's refusals in their order, and writes the entry's line.
use mathlib.Core.Path.{ap}
use borrow.Author.Rules.{rules}
use Rattle.std.proofs.lemmas.Result.{err_from_is_err_and}
use borrow.Author.Tests.{lt-ltb, le-ltb}
use Rattle.memory.specs.Bus.{bus_on, read_of}
use Rattle.listing.specs.Disassemble.{disassemble_of, listed_disassembly}
use Rattle.listing.proofs.Entries.{entry_in}
use Rattle.listing.proofs.Spelling.{rows-spell-lines}
use Rattle.listing.proofs.disassemble.Goals as goal

pub returns-in_err-admit : goal.returns-in_err-admit
unfolding disassemble_of
returns-in_err-admit c =
    let p = err_from_is_err_and c.from_residual.result c.from_residual.ensures.1 in
    rw (p.1, p.2, ← c.admit.ensures, c.in_err-admit.was)

pub returns-then-text-lt-TEXT_ROOM : goal.returns-then-text-lt-TEXT_ROOM
unfolding disassemble_of
returns-then-text-lt-TEXT_ROOM c = rw (← c.admit.ensures, c.in_ok-admit.was, lt-ltb _ _ c.if-text-lt-TEXT_ROOM.true)

pub write-requires : goal.write-requires
write-requires c = (rw c.entry_at-entry.ensures (entry_in _ _ _), search rules)

pub returns : goal.returns
unfolding disassemble_of listed_disassembly
returns c =
    let a = c.args in
    rw (
      c.write.ensures.0,
      c.write.ensures.1,
      c.entry_at-entry.ensures,
      ← c.admit.ensures,
      c.in_ok-admit.was,
      le-ltb _ _ c.if-text-lt-TEXT_ROOM.false,
    )
    (ap (listed_disassembly a.text.now) (rows-spell-lines (read_of (bus_on a.board a.mem.now)) a.at a.double))
