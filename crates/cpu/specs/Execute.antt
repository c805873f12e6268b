-- One instruction: what it leaves of the machine, and what it stores. `at` is the opcode's address, `double` D as it stood before.
use Rattle.std.specs.Prelude.{ℕ, ◌-◌, Bool, false, List}
use Rattle.word.specs.Word.{wrap_add}
use Rattle.decode.specs.declared.Instr.{Instr}
use Rattle.decode.specs.declared.Instr.TheVariants.{Hlt, Control, Jump, Single, Gswd, Nop, Sin, Shift, Register, Branch, Store, Read}
use Rattle.decode.specs.declared.rows.Row.{Row}
use Rattle.decode.specs.Fields.{mode_of}
use Rattle.decode.specs.Rows.{branch_cycles}
use Rattle.cpu.specs.Machine.{Machine, register, set_register, set_d, set_running}
use Rattle.cpu.specs.Control.{hlt, control, jump}
use Rattle.cpu.specs.Single.{single, gswd, nop, sin, shift}
use Rattle.cpu.specs.Operate.{register_row, read_row}
use Rattle.cpu.specs.Branch.{is_taken, branch}
use Rattle.cpu.specs.Modes.{word, Fetch, fetch_of, Effect, keeps, mvo}

-- Before each row: "All move R7 on"; "every other executed instruction clears" D; "Ready is then its row's 'heard' mark."
unfoldable pub begun : Row → Machine → Machine
begun row m =
    set_running m.running.halted row.interruptible
    (set_d false (set_register 7 (wrap_add (register 7 m) row.words) m))

-- "A read moves the pointer first and takes the destination operand after."
abbrev pub read_through : ℕ → ℕ → Fetch → List ℕ → Machine
read_through n d f words = read_row n (f.operand words) d f.after

-- the rows, from the words that the execution reads: memory counts through these alone. m is the machine begun.
abbrev pub execute_of : Instr → Bool → List ℕ → ℕ → ℕ → Machine → Effect
execute_of Hlt double words at external m = keeps (hlt m)
execute_of (Control d) double words at external m = keeps (control d m)
execute_of Jump double words at external m = keeps (jump (word 0 words) (word 1 words) m)
execute_of (Single s d) double words at external m = keeps (single s d m)
execute_of (Gswd d) double words at external m = keeps (gswd d m)
execute_of (Nop n) double words at external m = keeps (nop m)
execute_of (Sin n) double words at external m = keeps (sin m)
execute_of (Shift s d) double words at external m = keeps (shift s d m)
execute_of (Register row s d) double words at external m = keeps (register_row (row - 2) (register s m) d m)
execute_of (Branch b) double words at external m = keeps (branch b external at (word 0 words) m)
execute_of (Store s d) double words at external m = mvo (mode_of s) d words at m
execute_of (Read row s d) double words at external m =
    keeps (read_through (row - 10) d (fetch_of (mode_of s) double at m) words)

-- the row's cycles; of a branch "9 taken, 7 not"
abbrev pub instruction_cycles : Instr → Row → ℕ → Machine → ℕ
instruction_cycles Hlt row external m = row.cycles
instruction_cycles (Control d) row external m = row.cycles
instruction_cycles Jump row external m = row.cycles
instruction_cycles (Single s d) row external m = row.cycles
instruction_cycles (Gswd d) row external m = row.cycles
instruction_cycles (Nop n) row external m = row.cycles
instruction_cycles (Sin n) row external m = row.cycles
instruction_cycles (Shift s d) row external m = row.cycles
instruction_cycles (Register n s d) row external m = row.cycles
instruction_cycles (Branch b) row external m = branch_cycles (is_taken m.flags external b)
instruction_cycles (Store s d) row external m = row.cycles
instruction_cycles (Read n s d) row external m = row.cycles
