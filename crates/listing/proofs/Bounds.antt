-- How long a line is, and how many words it uses.
use Prim.Native.Nat.{ℕ, ◌≤◌}
use mathlib.Core.Path.{subst}
use mathlib.Core.Bool.{Bool}
use mathlib.Core.List.{List}
use lib.ListN.{length}
use Rattle.listing.specs.Laws.{LinesBounded}
use Rattle.listing.specs.Inner.Entry.{row_entry_at, row_text_at}
use Rattle.listing.proofs.Entries.{entry_in, entry-count}
use Rattle.listing.proofs.Lines.{text-length}
use Rattle.listing.proofs.Table.{template-most}
use Rattle.listing.proofs.Spelling.{text_is}

row-text-most : (read : ℕ → ℕ) (at : ℕ) (double : Bool) → length (row_text_at read at double) ≤ 14
row-text-most read at double =
    rw (text-length (row_entry_at read at double).line) (template-most (row_entry_at read at double).line.row (entry_in read at double))

pub lines-bounded : LinesBounded
lines-bounded read at double =
    record {
      text_most = subst (λ (t : List ℕ). length t ≤ 14) (text_is read at double) (row-text-most read at double);
      words_least = (entry-count read at double).0;
      words_most = (entry-count read at double).1;
    }
