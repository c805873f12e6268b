-- Which words of memory the execution of an instruction reads. The words that decoding reads and the instruction's own words stand in `decode`: some of
-- its own words are read by neither, as MVOI's operand word, where a word is put.
use Rattle.std.specs.Prelude.{ℕ, Bool, List, [], ◌∷◌}
use Rattle.word.specs.Word.{wrap_add}
use Rattle.decode.specs.declared.Instr.{Instr}
use Rattle.decode.specs.declared.Instr.TheVariants.{Hlt, Control, Jump, Single, Gswd, Nop, Sin, Shift, Register, Branch, Store, Read}
use Rattle.decode.specs.Fields.{mode_of}
use Rattle.cpu.specs.Machine.{Machine}
use Rattle.cpu.specs.Modes.{fetch_of, store_reads}

-- the addresses in order; `at` is the opcode's address, the Bool D, and R7 of the machine is past the instruction's words
abbrev pub execution_reads : Instr → Bool → (ℕ → ℕ) → ℕ → Machine → List ℕ
execution_reads Hlt double read at m = []
execution_reads (Control d) double read at m = []
execution_reads Jump double read at m = wrap_add at 1 ∷ wrap_add at 2 ∷ []
execution_reads (Single s d) double read at m = []
execution_reads (Gswd d) double read at m = []
execution_reads (Nop n) double read at m = []
execution_reads (Sin n) double read at m = []
execution_reads (Shift s d) double read at m = []
execution_reads (Register row s d) double read at m = []
execution_reads (Branch b) double read at m = wrap_add at 1 ∷ []
execution_reads (Store s d) double read at m = store_reads (mode_of s) at
execution_reads (Read row s d) double read at m = (fetch_of (mode_of s) double at m).reads read
