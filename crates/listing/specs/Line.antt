-- Document 01, "Listing lines": the line of an instruction, "the row's name and operand in these forms". The names are those of its tables, in
-- their order; x is the operand's text, four digits.
use Rattle.std.specs.Prelude.{ℕ, ◌%◌, cond, List, [], ◌∷◌, ◌++◌, eqb, get_or}
use Prim.Native.String.{String}
use Rattle.word.specs.Word.{bit}
use Rattle.decode.specs.declared.Instr.{Instr}
use Rattle.decode.specs.declared.Instr.TheVariants.{Hlt, Control, Jump, Single, Gswd, Nop, Sin, Shift, Register, Branch, Store, Read}
use Rattle.decode.specs.Fields.{
  Mode,
  direct,
  through,
  rising,
  stack,
  immediate,
  mode_of,
  joined,
  is_backward,
  is_external,
  input_number,
  condition_number,
  is_negated,
  Return,
  no_return,
  return_in,
  return_of,
  jump_target,
  jump_bits,
}
use Rattle.text.specs.Text.{codes, digit_of, hex_of}

-- the name at a place; where a group has none at a place, which another group has, "" stands in its list
abbrev pub name_in : List String → ℕ → List ℕ
name_in names k = codes (get_or names k "")

-- 000 to 007: "SDBD EIS DIS TCI CLRC SETC"; 000 is HLT's, 004 the jumps'
unfoldable pub control_names : List String
control_names = "" ∷ "SDBD" ∷ "EIS" ∷ "DIS" ∷ "" ∷ "TCI" ∷ "CLRC" ∷ "SETC" ∷ []

-- 008 to 03F by eights: "INCR DECR COMR NEGR", "ADCR, RSWD"; 030 is GSWD's, NOP's and SIN's
unfoldable pub single_names : List String
single_names = "" ∷ "INCR" ∷ "DECR" ∷ "COMR" ∷ "NEGR" ∷ "ADCR" ∷ "" ∷ "RSWD" ∷ []

-- 040 to 07F by eights: "SWAP SLL RLC SLLC SLR SAR RRC SARC"
unfoldable pub shift_names : List String
shift_names = "SWAP" ∷ "SLL" ∷ "RLC" ∷ "SLLC" ∷ "SLR" ∷ "SAR" ∷ "RRC" ∷ "SARC" ∷ []

-- by bits 9 to 6, 64 opcodes each: 080 on "MOVR ADDR SUBR CMPR ANDR XORR", 280 on "MVI ADD SUB CMP AND XOR"; 240 is MVO's
unfoldable pub row_names : List String
row_names =
    "" ∷ "" ∷ "MOVR" ∷ "ADDR" ∷ "SUBR" ∷ "CMPR" ∷ "ANDR" ∷ "XORR" ∷
    "" ∷ "" ∷ "MVI" ∷ "ADD" ∷ "SUB" ∷ "CMP" ∷ "AND" ∷ "XOR" ∷
    []

-- by bits 2 to 0: "B BC BOV BPL BEQ BLT BLE BUSC", and where bit 3 negates "NOPP BNC BNOV BMI BNEQ BGE BGT BESC"
unfoldable pub condition_names : List String
condition_names = "B" ∷ "BC" ∷ "BOV" ∷ "BPL" ∷ "BEQ" ∷ "BLT" ∷ "BLE" ∷ "BUSC" ∷ []

unfoldable pub negated_names : List String
negated_names = "NOPP" ∷ "BNC" ∷ "BNOV" ∷ "BMI" ∷ "BNEQ" ∷ "BGE" ∷ "BGT" ∷ "BESC" ∷ []

-- "`BEXT 15,+$0005` (0 to 15)"
unfoldable pub input_names : List String
input_names =
    "0" ∷ "1" ∷ "2" ∷ "3" ∷ "4" ∷ "5" ∷ "6" ∷ "7" ∷ "8" ∷ "9" ∷ "10" ∷ "11" ∷ "12" ∷ "13" ∷ "14" ∷ "15" ∷ []

-- by what a jump does to I: "0 none, 1 sets I, 2 clears I"; without a return register and with one
unfoldable pub jump_names : List String
jump_names = "J" ∷ "JE" ∷ "JD" ∷ []

unfoldable pub call_names : List String
call_names = "JSR" ∷ "JSRE" ∷ "JSRD" ∷ []

-- "`NOP`, `NOP 2` ($035; SIN alike)"
unfoldable pub nop_names : List String
nop_names = "NOP" ∷ "NOP 2" ∷ []

unfoldable pub sin_names : List String
sin_names = "SIN" ∷ "SIN 2" ∷ []

-- R0 to R7
abbrev pub register_text : ℕ → List ℕ
register_text n = codes "R" ++ (digit_of n ∷ [])

-- Memory rows: what a mode puts behind the name, and what it shows: "`MVI $0123,R0`", "`MVI@ R4,R0`" ("R6 too"), "`MVII #$1234,R0`"
abbrev pub mode_mark : Mode → List ℕ
mode_mark direct = []
mode_mark (through s) = codes "@"
mode_mark (rising s) = codes "@"
mode_mark stack = codes "@"
mode_mark immediate = codes "I"

abbrev pub mode_text : Mode → List ℕ → List ℕ
mode_text direct x = codes "$" ++ x
mode_text (through s) x = register_text s
mode_text (rising s) x = register_text s
mode_text stack x = codes "R6"
mode_text immediate x = codes "#$" ++ x

-- "`MVI@ R4,R0`"
abbrev pub read_line : List ℕ → Mode → ℕ → List ℕ → List ℕ
read_line name mode d x = name ++ mode_mark mode ++ codes " " ++ mode_text mode x ++ codes "," ++ register_text d

-- "`MVO@ R0,R4`"
abbrev pub store_line : Mode → ℕ → List ℕ → List ℕ
store_line mode d x = codes "MVO" ++ mode_mark mode ++ codes " " ++ register_text d ++ codes "," ++ mode_text mode x

-- "`BEQ +$0005`, `BEQ -$0001` (bit 5, printed displacement)"
abbrev pub displacement_text : ℕ → List ℕ → List ℕ
displacement_text b x = cond (is_backward b) (codes "-$") (codes "+$") ++ x

unfoldable pub branch_text : ℕ → List ℕ → List ℕ
branch_text b x =
    cond (is_external b) (codes "BEXT " ++ name_in input_names (input_number b) ++ codes ",")
    (name_in (cond (is_negated b) negated_names condition_names) (condition_number b) ++ codes " ")
    ++ displacement_text b x

-- "`J $1234`, `JE`, `JD`, `JSR R5,$1234`, `JSRE`, `JSRD`"
abbrev pub jump_text : Return → ℕ → List ℕ → List ℕ
jump_text no_return bits x = name_in jump_names bits ++ codes " $" ++ x
jump_text (return_in r) bits x = name_in call_names bits ++ codes " " ++ register_text r ++ codes ",$" ++ x

-- The line of an instruction with the text x of its operand; a jump's is the address that the words a and b after its opcode give.
abbrev pub line_of : Instr → List ℕ → ℕ → ℕ → List ℕ
line_of Hlt x a b = codes "HLT"
line_of (Control d) x a b = name_in control_names d
line_of Jump x a b = jump_text (return_of a) (jump_bits a) (hex_of (jump_target a b))
-- "`INCR R1`"
line_of (Single s d) x a b = name_in single_names s ++ codes " " ++ register_text d
line_of (Gswd d) x a b = codes "GSWD " ++ register_text d
line_of (Nop n) x a b = name_in nop_names n
line_of (Sin n) x a b = name_in sin_names n
-- "`SLL R0`, `SLL R0,2`"; "R0-R3 by bits 1-0; bit 2 set means by two"
line_of (Shift s d) x a b = name_in shift_names s ++ codes " " ++ register_text (d % 4) ++ cond (bit 2 d) (codes ",2") []
-- "`ADDR R1,R2`"
line_of (Register row s d) x a b = name_in row_names row ++ codes " " ++ register_text s ++ codes "," ++ register_text d
line_of (Branch bits) x a b = branch_text bits x
line_of (Store s d) x a b = store_line (mode_of s) d x
line_of (Read row s d) x a b = read_line (name_in row_names row) (mode_of s) d x

-- the operand of an instruction of n words: none, the second word, or an immediate's two words under D joined
unfoldable pub line_operand : ℕ → ℕ → ℕ → ℕ
line_operand n a b = cond (eqb n 1) 0 (cond (eqb n 2) a (joined a b))
