-- Document 01, "Control" and "Jumps": opcodes 000 to 007. R7 is past the instruction's words, and D is clear.
use Rattle.std.specs.Prelude.{ℕ, true, false, List, [], ◌∷◌, get_or}
use Rattle.decode.specs.Fields.{Return, no_return, return_in, return_of, jump_target, interrupts_after}
use Rattle.cpu.specs.Machine.{Machine, register, set_register, set_running, set_c, set_i, set_d}

-- "HLT sets halted"
abbrev pub hlt : Machine → Machine
hlt m = set_running true m.running.ready m

-- "SDBD sets D; every other executed instruction clears it."
abbrev pub sdbd : Machine → Machine
sdbd m = set_d true m

-- "EIS sets I, DIS clears it; SETC, CLRC likewise for C"
abbrev pub eis : Machine → Machine
eis m = set_i true m

abbrev pub dis : Machine → Machine
dis m = set_i false m

abbrev pub setc : Machine → Machine
setc m = set_c true m

abbrev pub clrc : Machine → Machine
clrc m = set_c false m

-- "TCI, SIN, NOP only move R7."
abbrev pub tci : Machine → Machine
tci m = m

-- "001 002 003 005 006 007 SDBD EIS DIS TCI CLRC SETC": by d; 0 and 4 are HLT and the jumps, not of these rows
abbrev pub control_rows : Machine → List Machine
control_rows m = m ∷ sdbd m ∷ eis m ∷ dis m ∷ m ∷ tci m ∷ clrc m ∷ setc m ∷ []

abbrev pub control : ℕ → Machine → Machine
control d m = get_or (control_rows m) d m

-- "The return register gets the address after it."
abbrev pub save_in : Return → Machine → Machine
save_in no_return m = m
save_in (return_in n) m = set_register n (register 7 m) m

-- J, JE, JD, JSR, JSRE, JSRD, from their second and third word
unfoldable pub jump : ℕ → ℕ → Machine → Machine
jump second third m =
    set_i (interrupts_after second m.switches.i) (set_register 7 (jump_target second third) (save_in (return_of second) m))
