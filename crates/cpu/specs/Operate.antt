-- Document 01, "Flags": what the register rows 080 to 1FF and the reads 280 to 3FF do with their operand y.
use Rattle.std.specs.Prelude.{ℕ, List, [], ◌∷◌, get_or}
use Rattle.std.specs.Int.Bits.{bit_and, bit_xor}
use Rattle.word.specs.Flags.{add_of, subtract_of}
use Rattle.cpu.specs.Machine.{Machine, register, set_register, set_flags, flags_of, with_sz, result}

-- MOVR: "MOVR, logic, INCR, DECR, COMR set S Z only."
unfoldable pub movr : ℕ → ℕ → Machine → Machine
movr d y m = result d (with_sz y m.flags) m

-- MVI: "MVI, MVO, GSWD set none."
unfoldable pub mvi : ℕ → ℕ → Machine → Machine
mvi d y m = set_register d y m

-- ADDR, ADD
unfoldable pub add : ℕ → ℕ → Machine → Machine
add d y m = result d (add_of (register d m) y) m

-- SUBR, SUB: "Subtract and compare take d minus operand"
unfoldable pub sub : ℕ → ℕ → Machine → Machine
sub d y m = result d (subtract_of (register d m) y) m

-- CMPR, CMP: the flags of the difference, and d stays
unfoldable pub cmp : ℕ → ℕ → Machine → Machine
cmp d y m = set_flags (flags_of (subtract_of (register d m) y)) m

-- ANDR, AND
unfoldable pub and : ℕ → ℕ → Machine → Machine
and d y m = result d (with_sz (bit_and (register d m) y) m.flags) m

-- XORR, XOR
unfoldable pub xor : ℕ → ℕ → Machine → Machine
xor d y m = result d (with_sz (bit_xor (register d m) y) m.flags) m

-- "080 0C0 100 140 180 1C0, 64 each: MOVR ADDR SUBR CMPR ANDR XORR": by n from 0, y is register s
abbrev pub register_rows : ℕ → ℕ → Machine → List Machine
register_rows y d m = movr d y m ∷ add d y m ∷ sub d y m ∷ cmp d y m ∷ and d y m ∷ xor d y m ∷ []

abbrev pub register_row : ℕ → ℕ → ℕ → Machine → Machine
register_row n y d m = get_or (register_rows y d m) n m

-- "280 2C0 300 340 380 3C0, 64 each: MVI ADD SUB CMP AND XOR": by n from 0, y is the operand read, and the pointer has moved
abbrev pub read_rows : ℕ → ℕ → Machine → List Machine
read_rows y d m = mvi d y m ∷ add d y m ∷ sub d y m ∷ cmp d y m ∷ and d y m ∷ xor d y m ∷ []

abbrev pub read_row : ℕ → ℕ → ℕ → Machine → Machine
read_row n y d m = get_or (read_rows y d m) n m
