-- A line as its row and fields, and as its bytes.
use Rattle.std.specs.Prelude.{ℕ, ◌/◌, ◌%◌, cond, List, map, eqb, ltb}
use Prim.Native.Char.{code}
use Rattle.text.specs.Text.{digit_of}
use Rattle.listing.specs.declared.line.Line.{Line}
use Rattle.listing.specs.Inner.Rows.{first_letter, template_of}

abbrev pub line_with : ℕ → ℕ → ℕ → ℕ → Line
line_with row s d operand = record { row = row; s = s; d = d; operand = operand }

-- "`BEQ +$0005`, `BEQ -$0001` (bit 5, printed displacement)": bit 5 is the highest of s, so a branch has s = 0 or 4
unfoldable pub sign_of : ℕ → ℕ
sign_of s = cond (eqb s 0) (code "+") (code "-")

-- the digit that a small letter stands for: s, d, w, x, y, and z
unfoldable pub field_of : Line → ℕ → ℕ
field_of l h =
    cond (eqb h (code "s")) (l.s % 16)
    (cond (eqb h (code "d")) (l.d % 16)
    (cond (eqb h (code "w")) (l.operand / 4096 % 16)
    (cond (eqb h (code "x")) (l.operand / 256 % 16)
    (cond (eqb h (code "y")) (l.operand / 16 % 16) (l.operand % 16)))))

-- what is printed for a symbol of a template: what is no small letter as it is, for g the sign, for any other letter its digit
unfoldable pub glyph_of : Line → ℕ → ℕ
glyph_of l h = cond (ltb h first_letter) h (cond (eqb h (code "g")) (sign_of l.s) (digit_of (field_of l h)))

-- the bytes of a line
unfoldable pub text_of : Line → List ℕ
text_of l = map (glyph_of l) (template_of l.row)
