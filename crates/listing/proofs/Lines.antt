-- The bytes of a line, one after the other.
use Rattle.std.proofs.Common.{ℕ, ◌+◌, ◌%◌, ◌<◌, ◌≡◌, refl, ap, ◌&&◌, List, [], ◌∷◌, ◌++◌, length, get_or, take, drop, set, add-one, zero-add, arith}
use Rattle.std.proofs.lemmas.List.{length-map, get_or-map}
use lib.Dec.{eqb, lit<}
use lib.Seq.{paste-suc, take-length}
use Rattle.std.specs.Cmp.Lexicographic.{pointwise}
use Rattle.text.specs.Text.{codes, digit_of, same_text}
use Rattle.listing.specs.declared.line.Line.{Line}
use Rattle.listing.specs.Inner.Rows.{template_of, OfRegisters}
use Rattle.listing.specs.Inner.Line.{field_of, glyph_of, text_of}
use Rattle.listing.proofs.Table.{registers-template, registers-name}

pub text-length : (l : Line) → length (text_of l) ≡ length (template_of l.row)
unfolding text_of
text-length l = length-map (template_of l.row) (glyph_of l)

pub text_at : (l : Line) (i : ℕ) → i < length (template_of l.row) → get_or (text_of l) i 0 ≡ glyph_of l (get_or (template_of l.row) i 0)
unfolding text_of
text_at l i h = get_or-map (glyph_of l) (template_of l.row) i 0 0 h

-- a turn of a loop that writes s to the front of d, and its end
pub write_step : (d s : List ℕ) (i : ℕ) → i < length d → i < length s → set (take i s ++ drop i d) i (get_or s i 0) ≡ take (i + 1) s ++ drop (i + 1) d
write_step d s i h k = rw add-one (simp zero-add at (paste-suc d 0 s i 0 (omega arith) k))

pub write-end : (d s : List ℕ) (i : ℕ) → i ≡ length s → take i s ++ drop i d ≡ s ++ drop (length s) d
write-end d s i e = rw (e, take-length)

-- two slices are equal where two texts are the same
pub same-slices : (s l : List ℕ) → pointwise eqb s l ≡ same_text s l
same-slices [] [] = refl
same-slices [] (y ∷ l) = refl
same-slices (x ∷ s) [] = refl
same-slices (x ∷ s) (y ∷ l) = ap (λ b. eqb x y && b) (same-slices s l)

-- a line of two registers
abbrev pub registers_text : Line → List ℕ
registers_text l =
    get_or (template_of l.row) 0 0 ∷ get_or (template_of l.row) 1 0 ∷ get_or (template_of l.row) 2 0 ∷ get_or (template_of l.row) 3 0
    ∷ codes " R" ++ (digit_of (l.s % 16) ∷ codes ",R") ++ (digit_of (l.d % 16) ∷ [])

pub registers-text : (l : Line) → l.row < 86 → OfRegisters l.row → text_of l ≡ registers_text l
unfolding text_of glyph_of field_of
registers-text l h e =
    let name = registers-name l.row h e in
    rw (
      registers-template l.row h e,
      name 0 (lit< tt),
      name 1 (lit< tt),
      name 2 (lit< tt),
      name 3 (lit< tt),
    )

pub registers-length : (r : ℕ) → r < 86 → OfRegisters r → length (template_of r) ≡ 10
registers-length r h e = ap length (registers-template r h e)
