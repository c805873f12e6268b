-- A text read along a template, symbol by symbol.
use Rattle.std.proofs.Common.{ℕ, ◌≡◌, ◌<◌, refl, List, [], ◌∷◌, length, arith}
use borrow.Author.Tests.{lt-ltb}
use Rattle.listing.specs.declared.line.Line.{Line}
use Rattle.listing.specs.Inner.Rows.{first_letter}
use Rattle.listing.specs.Inner.Encode.{with_symbol, read_in}

-- a literal takes nothing
pub literal : (l : Line) (h c : ℕ) → h < first_letter → with_symbol l h c ≡ l
unfolding with_symbol
literal l h c p = rw (lt-ltb _ _ p)

-- nothing is read past the template, nor past the text
pub past-template : (t text : List ℕ) (l : Line) → length t ≡ 0 → read_in t text l ≡ l
past-template [] text l e = refl
past-template (h ∷ t) text l e = absurd (omega arith)

pub past-text : (t text : List ℕ) (l : Line) → length text ≡ 0 → read_in t text l ≡ l
past-text [] text l e = refl
past-text (h ∷ t) [] l e = refl
past-text (h ∷ t) (c ∷ text) l e = absurd (omega arith)
