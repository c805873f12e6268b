-- `entry::entry_at`: of the three words there, which the view reads as the board does.
use Prim.Native.Nat.{ℕ}
use mathlib.Core.Path.{ap, ◌∙◌}
use Rattle.memory.specs.Near.{reads}
use Rattle.listing.specs.Inner.Entry.{row_entry_at}
use Rattle.listing.proofs.Entries.{entry-of-words}
use Rattle.listing.proofs.entry.entry_at.Goals as goal

pub returns : goal.returns
returns c =
    let a = c.args in
    rw (
      c.entry_of.ensures,
      c.read-third.ensures,
      c.wrapping_add-2.ensures,
      c.read-second.ensures,
      c.wrapping_add.ensures,
      c.read-first.ensures,
    )
    (entry-of-words (reads c.at-view.result) a.at a.double
    ∙ ap (λ (read : ℕ → ℕ). row_entry_at read a.at a.double) c.at-view.ensures)
