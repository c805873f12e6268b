-- Document 01, "Flags" and "Shifts": the rows of one register, 008 to 07F. R7 is already past the instruction.
use Rattle.std.specs.Prelude.{ℕ, ◌%◌, cond, List, [], ◌∷◌, leb, get_or}
use Rattle.word.specs.declared.Flagged.{Flagged}
use Rattle.word.specs.Word.{wrap_add, wrap_sub, bit_value}
use Rattle.word.specs.Flags.{add_of, subtract_of, status_word, from_status}
use Rattle.word.specs.Shifts.{swap_once, swap_twice, sll_once, sll_twice, rlc_once, rlc_twice, sllc_once, sllc_twice, slr_once, slr_twice, sar_once, sar_twice, rrc_once, rrc_twice, sarc_once, sarc_twice}
use Rattle.cpu.specs.Machine.{Machine, register, set_register, set_flags, beside, flags_of, with_sz, result}

-- "MOVR, logic, INCR, DECR, COMR set S Z only."
unfoldable pub incr : ℕ → Machine → Machine
incr d m = result d (with_sz (wrap_add (register d m) 1) m.flags) m

unfoldable pub decr : ℕ → Machine → Machine
decr d m = result d (with_sz (wrap_sub (register d m) 1) m.flags) m

unfoldable pub comr : ℕ → Machine → Machine
comr d m = result d (with_sz (wrap_sub 0xFFFF (register d m)) m.flags) m

-- "NEGR is 0 minus the register."
unfoldable pub negr : ℕ → Machine → Machine
negr d m = result d (subtract_of 0 (register d m)) m

-- "ADCR adds C."
unfoldable pub adcr : ℕ → Machine → Machine
adcr d m = result d (add_of (register d m) (bit_value m.flags.c)) m

-- "GSWD writes S Z O C to bits 15-12 and 7-4, zeros elsewhere, into R0-R3"; "MVI, MVO, GSWD set none."
unfoldable pub gswd : ℕ → Machine → Machine
gswd d m = set_register d (status_word (beside 0 m.flags)) m

-- "TCI, SIN, NOP only move R7."
abbrev pub nop : Machine → Machine
nop m = m

abbrev pub sin : Machine → Machine
sin m = m

-- "RSWD takes them from bits 7-4": the register stays
unfoldable pub rswd : ℕ → Machine → Machine
rswd d m = set_flags (flags_of (from_status (register d m))) m

-- "008-027 by eights INCR DECR COMR NEGR; 028, 038 by eights ADCR, RSWD": by s; 0 and 6 are not of these rows
abbrev pub single_rows : ℕ → Machine → List Machine
single_rows d m = m ∷ incr d m ∷ decr d m ∷ comr d m ∷ negr d m ∷ adcr d m ∷ m ∷ rswd d m ∷ []

abbrev pub single : ℕ → ℕ → Machine → Machine
single s d m = get_or (single_rows d m) s m

-- "R0-R3 by bits 1-0; bit 2 set means by two."
unfoldable pub shifted : (Flagged → Flagged) → (Flagged → Flagged) → ℕ → Machine → Machine
shifted once twice d m =
    let x : Flagged = beside (register (d % 4) m) m.flags in
    result (d % 4) (cond (leb 4 d) (twice x) (once x)) m

abbrev pub swap : ℕ → Machine → Machine
swap = shifted swap_once swap_twice

abbrev pub sll : ℕ → Machine → Machine
sll = shifted sll_once sll_twice

abbrev pub rlc : ℕ → Machine → Machine
rlc = shifted rlc_once rlc_twice

abbrev pub sllc : ℕ → Machine → Machine
sllc = shifted sllc_once sllc_twice

abbrev pub slr : ℕ → Machine → Machine
slr = shifted slr_once slr_twice

abbrev pub sar : ℕ → Machine → Machine
sar = shifted sar_once sar_twice

abbrev pub rrc : ℕ → Machine → Machine
rrc = shifted rrc_once rrc_twice

abbrev pub sarc : ℕ → Machine → Machine
sarc = shifted sarc_once sarc_twice

-- "040-07F by eights: SWAP SLL RLC SLLC SLR SAR RRC SARC": by s
abbrev pub shift_rows : ℕ → Machine → List Machine
shift_rows d m = swap d m ∷ sll d m ∷ rlc d m ∷ sllc d m ∷ slr d m ∷ sar d m ∷ rrc d m ∷ sarc d m ∷ []

abbrev pub shift : ℕ → ℕ → Machine → Machine
shift s d m = get_or (shift_rows d m) s m
