-- The line of the instruction at an address as a row of the table with its fields, the words used, and the next D.
use Rattle.std.specs.Prelude.{ℕ, ◌+◌, ◌*◌, ◌/◌, ◌%◌, Bool, false, cond, List, eqb, ltb, Option, None, Some}
use Rattle.word.specs.Word.{wrap_add}
use Rattle.decode.specs.declared.Instr.{Instr}
use Rattle.decode.specs.declared.Instr.TheVariants.{Hlt, Control, Jump, Single, Gswd, Nop, Sin, Shift, Register, Branch, Store, Read}
use Rattle.decode.specs.declared.rows.Row.{Row}
use Rattle.decode.specs.Fields.{is_backward, is_external, input_number, Return, no_return, return_in, return_of, jump_target, jump_bits}
use Rattle.decode.specs.Decode.{decode_at}
use Rattle.decode.specs.Rows.{row_of}
use Rattle.listing.specs.declared.line.Line.{Line}
use Rattle.listing.specs.declared.entry.RowEntry.{RowEntry}
use Rattle.listing.specs.Line.{line_operand}
use Rattle.listing.specs.Disassemble.{Entry}
use Rattle.listing.specs.Inner.Line.{line_with, text_of}

-- "`J $1234`, `JE`, `JD`, `JSR R5,$1234`, `JSRE`, `JSRD`": rows 79 on without a return register, 82 on with one, by what I becomes
abbrev pub jump_line_by : Return → ℕ → ℕ → Line
jump_line_by no_return bits target = line_with (79 + bits) 0 0 target
jump_line_by (return_in r) bits target = line_with (82 + bits) 0 r target

unfoldable pub jump_line : ℕ → ℕ → Line
jump_line a b = jump_line_by (return_of a) (jump_bits a) (jump_target a b)

-- 000 to 007: rows 0 to 3 and, past the jump, 4 to 6
unfoldable pub control_line : ℕ → ℕ → Line
control_line d x = cond (ltb d 4) (line_with d 0 0 x) (line_with ((d % 8 + 7) % 8) 0 0 x)

-- rows 7 to 13 by s
unfoldable pub single_line : ℕ → ℕ → ℕ → Line
single_line s d x = line_with (6 + s % 8) 0 d x

-- "`SLL R0`, `SLL R0,2`"
unfoldable pub shift_line : ℕ → ℕ → ℕ → Line
shift_line s d x = line_with (18 + s % 8 * 2 + d / 4 % 2) 0 (d % 4) x

-- "`BEQ +$0005`, `BEQ -$0001` (bit 5, printed displacement), `BEXT 15,+$0005` (0 to 15)": bit 5 is the highest bit of s, and BEXT's second
-- row has the numbers from 10 on
abbrev pub branch_sign : ℕ → ℕ
branch_sign b = cond (is_backward b) 4 0

unfoldable pub branch_line : ℕ → ℕ → Line
branch_line b x =
    cond (is_external b) (line_with (56 + input_number b / 10) (branch_sign b) (input_number b % 10) x)
    (line_with (40 + b % 16) (branch_sign b) 0 x)

-- "s = 0 direct .., 1 to 5 through that register, 6 stack, 7 immediate": three rows for MVO, whose bits 9 to 6 are 9, and for each read,
-- whose are 10 to 15
unfoldable pub memory_line : ℕ → ℕ → ℕ → ℕ → Line
memory_line row s d x =
    cond (eqb s 0) (line_with (55 + row % 8 * 3) 0 d x)
    (cond (eqb s 7) (line_with (55 + row % 8 * 3 + 2) 0 d x) (line_with (55 + row % 8 * 3 + 1) s d x))

-- 080 to 1FF "`ADDR R1,R2`", by bits 9 to 6, which are 2 to 7
unfoldable pub register_line : ℕ → ℕ → ℕ → ℕ → Line
register_line row s d x = line_with (32 + row % 8) s d x

-- the line of an instruction with operand x, or of a jump with the words a and b after its opcode
abbrev pub row_line_of : Instr → ℕ → ℕ → ℕ → Line
row_line_of Hlt x a b = control_line 0 x
row_line_of (Control d) x a b = control_line d x
row_line_of Jump x a b = jump_line a b
row_line_of (Single s d) x a b = single_line s d x
-- GSWD has s = 6; "`NOP`, `NOP 2` ($035; SIN alike)" are rows 14 to 17
row_line_of (Gswd d) x a b = single_line 6 d x
row_line_of (Nop n) x a b = line_with (14 + n % 2) 0 0 x
row_line_of (Sin n) x a b = line_with (16 + n % 2) 0 0 x
row_line_of (Shift s d) x a b = shift_line s d x
row_line_of (Register row s d) x a b = register_line row s d x
row_line_of (Branch bits) x a b = branch_line bits x
row_line_of (Store s d) x a b = memory_line 9 s d x
row_line_of (Read row s d) x a b = memory_line row s d x

-- "Jump bits 3 give `DECLE $0004`, one word, next D clear"; of all else words and next D are the row table's
unfoldable pub row_entry_for : Instr → Row → ℕ → ℕ → RowEntry
row_entry_for i row a b =
    record { line = row_line_of i (line_operand row.words a b) a b; words = row.words; double = row.double }

abbrev pub row_entry_of : Option Instr → Bool → ℕ → ℕ → RowEntry
row_entry_of None double a b = record { line = line_with 85 0 0 0; words = 1; double = false }
row_entry_of (Some i) double a b = row_entry_for i (row_of i double) a b

-- what is listed at an address. "stack reads under D list as without it": the instruction is decoded with D clear
unfoldable pub row_entry_at : (ℕ → ℕ) → ℕ → Bool → RowEntry
row_entry_at read at double =
    row_entry_of (decode_at read at false) double (read (wrap_add at 1)) (read (wrap_add at 2))

-- the bytes of the line at an address
abbrev pub row_text_at : (ℕ → ℕ) → ℕ → Bool → List ℕ
row_text_at read at double = text_of (row_entry_at read at double).line

-- what the entry of a row shows
abbrev pub shown : RowEntry → Entry
shown e = record { text = text_of e.line; words = e.words; double = e.double }
