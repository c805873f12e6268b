-- `guess_row`: the fourth byte is taken by a test of the length.
use Rattle.std.proofs.Common.{◌≡◌, length, get_or}
use mathlib.Core.Bool.{cond}
use borrow.Author.Tests.{lt-ltb, le-ltb}
use lib.Dec.{ltb}
use Rattle.listing.specs.Inner.Guess.{guess_of}
use Rattle.listing.proofs.guess.guess_row.Goals as goal
use Rattle.listing.proofs.guess.guess_row.Goals.{then-length-lt-LONGER, else-length-lt-LONGER}

pub returns-in_default : goal.returns-in_default
unfolding guess_of
returns-in_default c = rw (lt-ltb _ _ c.in_default.len_below)

pub returns : goal.returns
unfolding guess_of
returns c =
    let text = c.args.text.now in
    let fourth : c.if-length-lt-LONGER.fourth ≡ cond (ltb (length text) 8) 32 (get_or text 3 0) =
    elim c.if-length-lt-LONGER.branch [
      | then-length-lt-LONGER w ↦ rw (lt-ltb _ _ w.if-length-lt-LONGER.true) w.fourth-is
      | else-length-lt-LONGER w ↦ rw (le-ltb _ _ w.if-length-lt-LONGER.false) w.fourth-is
    ] in
    rw (c.row_told.ensures, le-ltb _ _ c.in-len3-up.len_at_least, fourth)
