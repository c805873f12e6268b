-- The guess of a text's row, if it is a line at all: by the letters that it begins with, and by its length where a name has more forms.
use Rattle.std.specs.Prelude.{ℕ, ◌+◌, ◌<◌, ◌≡◌, cond, List, [], ◌∷◌, eqb, ltb, length, get_or}
use Prim.Native.Char.{Char, code}
use Rattle.listing.specs.declared.line.Line.{Line}
use Rattle.listing.specs.declared.guess.Start.{Start}
use Rattle.listing.specs.Inner.Line.{text_of}

-- r is the row of the text, if it is a line
abbrev pub Guesses : List ℕ → ℕ → Type 0
Guesses l r = (line : Line) → line.row < 86 → l ≡ text_of line → r ≡ line.row

-- names to tell apart: that of one row; by whether the i-th byte is a letter; by whether the text has n bytes
pub data Names : Type 0 where
  only : ℕ → Names
  letter : ℕ → Char → Names → Names → Names
  bytes : ℕ → Names → Names → Names

abbrev pub byte_of : Start → ℕ → ℕ
byte_of x i = get_or (x.first ∷ x.second ∷ x.third ∷ x.fourth ∷ []) i 0

abbrev pub told : Names → Start → ℕ
told (only r) x = r
told (letter i c here others) x = cond (eqb (byte_of x i) (code c)) (told here x) (told others x)
told (bytes n here others) x = cond (eqb x.length n) (told here x) (told others x)

-- direct, through a register, immediate
abbrev pub memory_names : ℕ → Names
memory_names direct = letter 3 " " (only direct) (letter 3 "@" (only (direct + 1)) (only (direct + 2)))

abbrev pub operation_names : ℕ → ℕ → Names
operation_names register direct = letter 3 "R" (only register) (memory_names direct)

-- the shorter line and the longer, in the next row
abbrev pub two_forms : ℕ → ℕ → Names
two_forms n shorter = bytes n (only shorter) (only (shorter + 1))

-- by one and by two, without C and four rows on with it
abbrev pub carry_names : ℕ → Names
carry_names once =
    bytes 6 (only once) (bytes 8 (only (once + 1)) (bytes 7 (only (once + 4)) (only (once + 5))))

-- ADCR; ANDR, AND; ADDR, ADD
abbrev pub a_names : Names
a_names = letter 1 "N" (operation_names 38 73) (letter 2 "C" (only 11) (operation_names 35 64))

-- BEQ, BESC, BEXT
abbrev pub be_names : Names
be_names = letter 2 "Q" (only 44) (letter 2 "S" (only 55) (two_forms 13 56))

-- BNC, BNOV, BNEQ
abbrev pub bn_names : Names
bn_names = letter 2 "C" (only 49) (letter 2 "O" (only 50) (only 52))

-- B, BC, BOV, BPL, BUSC, BMI; BLT, BLE; BGE, BGT
abbrev pub b_names : Names
b_names =
    letter 1 " " (only 40)
    (letter 1 "C" (only 41)
    (letter 1 "O" (only 42)
    (letter 1 "P" (only 43)
    (letter 1 "E" be_names
    (letter 1 "L" (letter 2 "T" (only 45) (only 46))
    (letter 1 "U" (only 47)
    (letter 1 "N" bn_names
    (letter 1 "M" (only 51) (letter 2 "E" (only 53) (only 54))))))))))

-- CMPR, CMP; COMR; CLRC
abbrev pub c_names : Names
c_names = letter 1 "M" (operation_names 37 70) (letter 1 "O" (only 9) (only 5))

-- DIS, DECR, DECLE
abbrev pub d_names : Names
d_names = bytes 3 (only 3) (bytes 7 (only 8) (only 85))

-- JSR, JSRE, JSRD
abbrev pub jsr_names : Names
jsr_names = letter 3 " " (only 82) (letter 3 "E" (only 83) (only 84))

-- J, JE, JD
abbrev pub j_names : Names
j_names = letter 1 " " (only 79) (letter 1 "E" (only 80) (letter 1 "D" (only 81) jsr_names))

-- MOVR; MVO; MVI
abbrev pub m_names : Names
m_names = letter 2 "V" (only 34) (letter 2 "O" (memory_names 58) (memory_names 61))

-- NOP, NOP 2, NEGR, NOPP
abbrev pub n_names : Names
n_names = bytes 3 (only 14) (bytes 5 (only 15) (bytes 7 (only 10) (only 48)))

-- RSWD; RLC; RRC
abbrev pub r_names : Names
r_names = letter 1 "S" (only 13) (letter 1 "L" (two_forms 6 22) (two_forms 6 30))

-- SUBR, SUB; SLR, SLL, SLLC; SAR, SARC; SWAP; SIN; SDBD; SETC
abbrev pub s_names : Names
s_names =
    letter 1 "U" (operation_names 36 67)
    (letter 1 "L" (letter 2 "R" (two_forms 6 26) (carry_names 20))
    (letter 1 "A" (carry_names 28)
    (letter 1 "W" (two_forms 7 18)
    (letter 1 "I" (two_forms 3 16)
    (letter 1 "D" (only 1) (only 6))))))

-- EIS, GSWD, HLT, INCR, TCI; XORR, XOR
abbrev pub names : Names
names =
    letter 0 "A" a_names
    (letter 0 "B" b_names
    (letter 0 "C" c_names
    (letter 0 "D" d_names
    (letter 0 "E" (only 2)
    (letter 0 "G" (only 12)
    (letter 0 "H" (only 0)
    (letter 0 "I" (only 7)
    (letter 0 "J" j_names
    (letter 0 "M" m_names
    (letter 0 "N" n_names
    (letter 0 "R" r_names
    (letter 0 "S" s_names
    (letter 0 "T" (only 4) (operation_names 39 76))))))))))))))

-- what tells the row of a text. The fourth byte counts where a line is longer: in a shorter one a digit may stand there
abbrev pub start_of : List ℕ → Start
start_of l =
    record {
      length = length l;
      first = get_or l 0 0;
      second = get_or l 1 0;
      third = get_or l 2 0;
      fourth = cond (ltb (length l) 8) (code " ") (get_or l 3 0);
    }

unfoldable pub guess_of : List ℕ → ℕ
guess_of l = cond (ltb (length l) 3) 0 (told names (start_of l))
