-- Document 01, "Listing lines": one row for each name and form of its operands, "the row's name and operand in these forms".
use Rattle.std.specs.Prelude.{ℕ, ◌≡◌, List, [], ◌∷◌, get_or}
use Prim.Native.Char.{code}
use Prim.Native.String.{String}
use Rattle.text.specs.Text.{codes}

-- A row's line as a template, and its opcode where s and d are 0. In a template a small letter stands for what a line fills in: s and d for a
-- register's digit or an input's, w x y z for the operand's four digits, g for the sign of a branch. All else is printed as it is.
pub record LineRow : Type 0 where
  pub template : List ℕ
  pub base : ℕ

-- the first of the small letters
abbrev pub first_letter : ℕ
first_letter = code "a"

abbrev pub row : String → ℕ → LineRow
row s n = record { template = codes s; base = n }

unfoldable pub rows : List LineRow
rows =
    -- 000-007: HLT halts, SDBD sets D, EIS DIS TCI CLRC SETC
    row "HLT" 0x000 ∷ row "SDBD" 0x001 ∷ row "EIS" 0x002 ∷ row "DIS" 0x003 ∷ row "TCI" 0x005 ∷ row "CLRC" 0x006 ∷
    row "SETC" 0x007 ∷
    -- 008-02F, 030-033 and 038-03F, one register
    row "INCR Rd" 0x008 ∷ row "DECR Rd" 0x010 ∷ row "COMR Rd" 0x018 ∷ row "NEGR Rd" 0x020 ∷ row "ADCR Rd" 0x028 ∷
    row "GSWD Rd" 0x030 ∷ row "RSWD Rd" 0x038 ∷
    -- 034-037
    row "NOP" 0x034 ∷ row "NOP 2" 0x035 ∷ row "SIN" 0x036 ∷ row "SIN 2" 0x037 ∷
    -- 040-07F, by one and by two
    row "SWAP Rd" 0x040 ∷ row "SWAP Rd,2" 0x044 ∷ row "SLL Rd" 0x048 ∷ row "SLL Rd,2" 0x04C ∷ row "RLC Rd" 0x050 ∷
    row "RLC Rd,2" 0x054 ∷ row "SLLC Rd" 0x058 ∷ row "SLLC Rd,2" 0x05C ∷ row "SLR Rd" 0x060 ∷ row "SLR Rd,2" 0x064 ∷
    row "SAR Rd" 0x068 ∷ row "SAR Rd,2" 0x06C ∷ row "RRC Rd" 0x070 ∷ row "RRC Rd,2" 0x074 ∷ row "SARC Rd" 0x078 ∷
    row "SARC Rd,2" 0x07C ∷
    -- 080-1FF, two registers
    row "MOVR Rs,Rd" 0x080 ∷ row "ADDR Rs,Rd" 0x0C0 ∷ row "SUBR Rs,Rd" 0x100 ∷ row "CMPR Rs,Rd" 0x140 ∷
    row "ANDR Rs,Rd" 0x180 ∷ row "XORR Rs,Rd" 0x1C0 ∷
    -- 200-20F and 220-22F: bit 5 is the sign
    row "B g$wxyz" 0x200 ∷ row "BC g$wxyz" 0x201 ∷ row "BOV g$wxyz" 0x202 ∷ row "BPL g$wxyz" 0x203 ∷
    row "BEQ g$wxyz" 0x204 ∷ row "BLT g$wxyz" 0x205 ∷ row "BLE g$wxyz" 0x206 ∷ row "BUSC g$wxyz" 0x207 ∷
    row "NOPP g$wxyz" 0x208 ∷ row "BNC g$wxyz" 0x209 ∷ row "BNOV g$wxyz" 0x20A ∷ row "BMI g$wxyz" 0x20B ∷
    row "BNEQ g$wxyz" 0x20C ∷ row "BGE g$wxyz" 0x20D ∷ row "BGT g$wxyz" 0x20E ∷ row "BESC g$wxyz" 0x20F ∷
    -- 210-21F and 230-23F: the input's number is decimal
    row "BEXT d,g$wxyz" 0x210 ∷ row "BEXT 1d,g$wxyz" 0x21A ∷
    -- 240-27F: direct, through a register, immediate
    row "MVO Rd,$wxyz" 0x240 ∷ row "MVO@ Rd,Rs" 0x240 ∷ row "MVOI Rd,#$wxyz" 0x278 ∷
    -- 280-3FF: direct, through a register, immediate
    row "MVI $wxyz,Rd" 0x280 ∷ row "MVI@ Rs,Rd" 0x280 ∷ row "MVII #$wxyz,Rd" 0x2B8 ∷ row "ADD $wxyz,Rd" 0x2C0 ∷
    row "ADD@ Rs,Rd" 0x2C0 ∷ row "ADDI #$wxyz,Rd" 0x2F8 ∷ row "SUB $wxyz,Rd" 0x300 ∷ row "SUB@ Rs,Rd" 0x300 ∷
    row "SUBI #$wxyz,Rd" 0x338 ∷ row "CMP $wxyz,Rd" 0x340 ∷ row "CMP@ Rs,Rd" 0x340 ∷ row "CMPI #$wxyz,Rd" 0x378 ∷
    row "AND $wxyz,Rd" 0x380 ∷ row "AND@ Rs,Rd" 0x380 ∷ row "ANDI #$wxyz,Rd" 0x3B8 ∷ row "XOR $wxyz,Rd" 0x3C0 ∷
    row "XOR@ Rs,Rd" 0x3C0 ∷ row "XORI #$wxyz,Rd" 0x3F8 ∷
    -- 004: no return register, then R4, R5, R6; I stays, is set, is cleared
    row "J $wxyz" 0x004 ∷ row "JE $wxyz" 0x004 ∷ row "JD $wxyz" 0x004 ∷ row "JSR Rd,$wxyz" 0x004 ∷
    row "JSRE Rd,$wxyz" 0x004 ∷ row "JSRD Rd,$wxyz" 0x004 ∷
    -- 004 with bits 3 in its second word
    row "DECLE $0004" 0x004 ∷
    []

unfoldable pub template_of : ℕ → List ℕ
template_of r = (get_or rows r (row "" 0)).template

unfoldable pub base_of : ℕ → ℕ
base_of r = (get_or rows r (row "" 0)).base

-- a row of two registers, "NAME Rs,Rd": no other template has an s at that place
abbrev pub OfRegisters : ℕ → Type 0
OfRegisters r = get_or (template_of r) 6 0 ≡ code "s"
