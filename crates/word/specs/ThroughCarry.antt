-- Document 02, [6]: the four rows that shift through carry, bit by bit: "for each result bit, C and O, the old bit or flag it takes, or 0".
-- The code has the same written out, `src/carry.rt`.
use Rattle.std.specs.Prelude.{◌≡◌, ℕ, ◌+◌, ◌-◌, ◌<◌, Bool, true, false, cond, ◌==◌}
use Rattle.word.specs.declared.Flagged.{Flagged}
use Rattle.word.specs.Word.{bit}
use Rattle.word.specs.Shifts.{shift_of}

-- what a bit of the result, C or O takes: "the old bit or flag .., or 0"
pub data Source : Type 0 where
  old_bit : ℕ → Source
  old_c : Source
  old_o : Source
  nought : Source

-- what is found there before the shift, in a register's word and the flags beside it
abbrev pub found : Flagged → Source → Bool
found f (old_bit n) = bit n f.value
found f old_c = f.c
found f old_o = f.o
found f nought = false

-- a row by one or by two: what each bit of the result takes, by its number, and what C and O take; and the bit of the result that S is
pub record Form : Type 0 where
  pub result : ℕ → Source
  pub c : Source
  pub o : Source
  pub sign : ℕ

-- "Left through carry: bit 15 to C, and by two bit 14 to O." "By-one forms keep O." Every other bit moves up, and into bit 0, or bits 1 and 0,
-- comes what is named. "S = bit 15, .. unless said otherwise."
abbrev pub left_once : Source → Form
left_once into0 = record { result = λ n. cond (n == 0) into0 (old_bit (n - 1)); c = old_bit 15; o = old_o; sign = 15 }

abbrev pub left_twice : Source → Source → Form
left_twice into1 into0 =
    record {
      result = λ n. cond (n == 1) into1 (cond (n == 0) into0 (old_bit (n - 2)));
      c = old_bit 15;
      o = old_bit 14;
      sign = 15;
    }

-- "Right through carry: bit 0 to C, and by two bit 1 to O." Every other bit moves down, and into bit 15, or bits 15 and 14, comes what is named.
-- "S is bit 7 for .. RRC, SARC."
abbrev pub right_once : Source → Form
right_once into15 = record { result = λ n. cond (n == 15) into15 (old_bit (n + 1)); c = old_bit 0; o = old_o; sign = 7 }

abbrev pub right_twice : Source → Source → Form
right_twice into15 into14 =
    record {
      result = λ n. cond (n == 15) into15 (cond (n == 14) into14 (old_bit (n + 2)));
      c = old_bit 0;
      o = old_bit 1;
      sign = 7;
    }

-- "the four through-carry rows"
pub data CarryRow : Type 0 where
  rlc_row : CarryRow
  sllc_row : CarryRow
  rrc_row : CarryRow
  sarc_row : CarryRow

-- "040-07F by eights: SWAP SLL RLC SLLC SLR SAR RRC SARC"
abbrev pub row_number : CarryRow → ℕ
row_number rlc_row = 2
row_number sllc_row = 3
row_number rrc_row = 6
row_number sarc_row = 7

-- the eight forms, each row by one and by two
abbrev pub form_of : CarryRow → Bool → Form
-- "RLC by one brings C into bit 0; by two C into bit 1, O into bit 0."
form_of rlc_row false = left_once old_c
form_of rlc_row true = left_twice old_c old_o
-- SLLC: what comes in is source document 004's, "clearing bit 0", by two "clearing bits 0 and 1"
form_of sllc_row false = left_once nought
form_of sllc_row true = left_twice nought nought
-- "RRC by one brings C into bit 15; by two O into 15, C into 14."
form_of rrc_row false = right_once old_c
form_of rrc_row true = right_twice old_o old_c
-- "SAR, SARC repeat the sign."
form_of sarc_row false = right_once (old_bit 15)
form_of sarc_row true = right_twice (old_bit 15) (old_bit 15)

-- what a form gives of a word and its flags: result bit n is what the form names for it, and so are C and O. "All set S Z": S is the bit of the
-- result that the form names, and Z that the result is zero
pub record Gives (form : Form) (old new : Flagged) : Type 0 where
  pub fits : new.value < 65536
  pub bits : (n : ℕ) → n < 16 → bit n new.value ≡ found old (form.result n)
  pub carry : new.c ≡ found old form.c
  pub overflow : new.o ≡ found old form.o
  pub sign : new.s ≡ bit form.sign new.value
  pub zero : new.z ≡ (new.value == 0)

-- "Show that this gives the row's result, C and O on every input": each of the eight, of every 16-bit word under all flags. `shift_of` of a
-- row's number is that row's own definition, `rlc_once` to `sarc_twice`.
abbrev pub BitByBit : Type 0
BitByBit = (row : CarryRow) (twice : Bool) (f : Flagged) → f.value < 65536 → Gives (form_of row twice) f (shift_of (row_number row) twice f)

-- and nothing else: what a form gives is one result, since two words with equal bits are equal
abbrev pub GivesOne : Type 0
GivesOne = (form : Form) (old x y : Flagged) → Gives form old x → Gives form old y → x ≡ y

-- The letters of docs/SHIFTS.md, answered by their forms alone, whatever S and Z were: document 01's "RLC R0,2 of $8001, C 0, O 1: $0005, C 1,
-- O 0", RRC by two of $0007 and SARC by one of $8000. And the highest word meets the law's premise.
pub record CarryInstances : Type 0 where
  pub left :
      (s z : Bool) (new : Flagged) →
      Gives (form_of rlc_row true) (record { value = 0x8001; s = s; z = z; o = true; c = false }) new →
      new ≡ record { value = 0x0005; s = false; z = false; o = false; c = true }
  pub right :
      (s z : Bool) (new : Flagged) →
      Gives (form_of rrc_row true) (record { value = 0x0007; s = s; z = z; o = false; c = true }) new →
      new ≡ record { value = 0x4001; s = false; z = false; o = true; c = true }
  pub repeated :
      (s z : Bool) (new : Flagged) →
      Gives (form_of sarc_row false) (record { value = 0x8000; s = s; z = z; o = true; c = false }) new →
      new ≡ record { value = 0xC000; s = false; z = false; o = true; c = false }
  pub highest :
      (row : CarryRow) (twice s z o c : Bool) →
      let f : Flagged = record { value = 0xFFFF; s = s; z = z; o = o; c = c } in
      Gives (form_of row twice) f (shift_of (row_number row) twice f)
