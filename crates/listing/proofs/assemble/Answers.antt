-- `assemble` reads the text as a line of the row that it is guessed to be of: by `Accept` no other row accepts it.
use mathlib.Core.Path.{◌≡◌, sym, ◌∙◌}
use Rattle.listing.specs.Inner.Entry.{row_entry_at}
use Rattle.listing.specs.Inner.Encode.{memory_as}
use Rattle.listing.proofs.Guessing.{guess-low, guess-right}
use Rattle.listing.proofs.Back.{read-row}
use Rattle.listing.proofs.Entries.{entry_in}
use Rattle.listing.proofs.Accept.{own-entry, accepted, refused-by, refused-length}
use Rattle.listing.proofs.assemble.Goals as goal
use Rattle.listing.proofs.assemble.Goals.{After-entry_of-entry}

-- the entry of the words that are found is the one in a memory of their own
listed :
    (c : After-entry_of-entry) →
    c.entry_of-entry.result
    ≡ row_entry_at (memory_as c.guess_row-row.result c.args.text.now c.args.double) 0 c.args.double
listed c = rw (c.entry_of-entry.ensures, c.words_of-words.ensures, c.read-line.ensures) (own-entry _ _)

pub row_at-requires : goal.row_at-requires
row_at-requires c = guess-low _ c.guess_row-row.result c.guess_row-row.ensures

pub returns-then-row_at-text : goal.returns-then-row_at-text
returns-then-row_at-text c =
    let text = c.args.text.now in
    let g = c.guess_row-row in
    refused-length text c.args.double g.result (guess-low text g.result g.ensures) (guess-right text g.result g.ensures)
    (λ z. c.if-row_at-text.true (rw c.row_at.ensures.template z))

pub read-line-requires : goal.read-line-requires
read-line-requires c = guess-low _ c.guess_row-row.result c.guess_row-row.ensures

pub words_of-words-requires : goal.words_of-words-requires
words_of-words-requires c =
    let g = c.guess_row-row in
    rw (c.read-line.ensures, read-row g.result c.args.text.now) (guess-low _ g.result g.ensures)

pub spells-requires : goal.spells-requires
spells-requires c = rw (listed (goal.at.spells-requires c).After-entry_of-entry) (entry_in _ _ _)

pub returns-then-spells : goal.returns-then-spells
returns-then-spells c =
    let text = c.args.text.now in
    let g = c.guess_row-row in
    let l = listed (goal.at.returns-then-spells c).After-entry_of-entry in
    rw (c.first_words.ensures, l, c.words_of-words.ensures, c.read-line.ensures)
    (accepted text c.args.double g.result (guess-low text g.result g.ensures) (guess-right text g.result g.ensures)
    (rw l at (sym c.spells.ensures ∙ c.if-spells.true)))

pub returns-else-spells : goal.returns-else-spells
returns-else-spells c =
    let text = c.args.text.now in
    let g = c.guess_row-row in
    let l = listed (goal.at.returns-else-spells c).After-entry_of-entry in
    refused-by text c.args.double g.result (guess-low text g.result g.ensures) (guess-right text g.result g.ensures)
    (rw l at (sym c.spells.ensures ∙ c.if-spells.false))
