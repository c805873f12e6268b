-- The words that a line stands for: a text is read as a line of a row, digit by digit at that row's places, and the row with its fields
-- gives the words.
use Rattle.std.specs.Prelude.{ℕ, ◌+◌, ◌-◌, ◌*◌, ◌/◌, ◌%◌, Bool, cond, List, [], ◌∷◌, eqb, leb, ltb, get_or, Option, None, Some}
use Prim.Native.Char.{code}
use Rattle.memory.specs.Bus.{bus_of, read_of}
use Rattle.decode.specs.declared.Instr.{Instr}
use Rattle.decode.specs.Decode.{decode_words}
use Rattle.decode.specs.Rows.{row_of}
use Rattle.text.specs.Text.{digit_value}
use Rattle.listing.specs.declared.line.Line.{Line}
use Rattle.listing.specs.Inner.Rows.{first_letter, template_of, base_of}
use Rattle.listing.specs.Inner.Line.{line_with}

-- the field s of a branch: its bit 5 where the sign is "-"
abbrev pub sign_value : ℕ → ℕ
sign_value c = cond (eqb c (code "-")) 4 0

-- a line with what stands at the place of a template's symbol: a digit of s or d, the sign, the next digit of the operand
unfoldable pub with_symbol : Line → ℕ → ℕ → Line
with_symbol l h c =
    cond (ltb h first_letter) l
    (cond (eqb h (code "s")) (line_with l.row (digit_value c) l.d l.operand)
    (cond (eqb h (code "d")) (line_with l.row l.s (digit_value c) l.operand)
    (cond (eqb h (code "g")) (line_with l.row (sign_value c) l.d l.operand)
    (line_with l.row l.s l.d (l.operand % 4096 * 16 + digit_value c)))))

abbrev pub read_in : List ℕ → List ℕ → Line → Line
read_in [] text l = l
read_in (h ∷ t) [] l = l
read_in (h ∷ t) (c ∷ text) l = read_in t text (with_symbol l h c)

-- a text read as a line of row r
unfoldable pub line_read : ℕ → List ℕ → Line
line_read r text = read_in (template_of r) text (line_with r 0 0 0)

-- how many words an opcode's instruction has; with a 0 after it a jump has its three
abbrev pub count_of : Option Instr → Bool → ℕ
count_of None double = 1
count_of (Some i) double = (row_of i double).words

unfoldable pub word_count : ℕ → Bool → ℕ
word_count w double = count_of (decode_words w 0) double

-- a jump's second word without the address: rows 79 on have no return register, rows 82 on R4 to R6; row 85 is DECLE, which
-- stands for any second word that ends in bits 3
unfoldable pub jump_word : ℕ → ℕ → ℕ
jump_word r d = cond (ltb r 82) (768 + (r - 79)) (d % 4 * 256 + (r - 82))

unfoldable pub jump_words : Line → List ℕ
jump_words l =
    base_of l.row ∷ (jump_word l.row l.d + l.operand / 1024 * 4) ∷ l.operand % 1024 ∷ []

-- "under D the two words of a read row's immediate", low half first
unfoldable pub plain_words : ℕ → ℕ → Bool → List ℕ
plain_words w x double =
    cond (eqb (word_count w double) 3) (w ∷ x % 256 ∷ x / 256 ∷ []) (w ∷ x ∷ 0 ∷ [])

-- the opcode of a line that is no jump's: its row's, with the fields
abbrev pub opcode_in : Line → ℕ
opcode_in l = base_of l.row + l.s % 16 * 8 + l.d % 16

-- the words of a line, filled up to three
unfoldable pub encoded : Line → Bool → List ℕ
encoded l double =
    cond (leb 79 l.row) (jump_words l)
    (plain_words (opcode_in l) l.operand double)

-- the first one, two or three words
abbrev pub first_words : List ℕ → ℕ → List ℕ
first_words ws n =
    cond (eqb n 1) (get_or ws 0 0 ∷ [])
    (cond (eqb n 2) (get_or ws 0 0 ∷ get_or ws 1 0 ∷ []) (get_or ws 0 0 ∷ get_or ws 1 0 ∷ get_or ws 2 0 ∷ []))

-- the words that a text has as a line of row r, seen as a memory
abbrev pub memory_as : ℕ → List ℕ → Bool → ℕ → ℕ
memory_as r text double = read_of (bus_of (encoded (line_read r text) double))
