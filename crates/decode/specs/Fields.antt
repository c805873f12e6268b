-- Document 01, "Instruction rows": the fields of an opcode and of its operand words, one definition each. Step, meter, disassembler and
-- all else that decodes cite them.
use Rattle.std.specs.Prelude.{ℕ, ◌+◌, ◌*◌, ◌/◌, ◌%◌, Bool, true, false, cond, List, [], ◌∷◌, eqb, get_or}
use Rattle.word.specs.Word.{wrap_add, wrap_sub, bit}

-- "Opcode = word modulo 1024"
abbrev pub opcode_of : ℕ → ℕ
opcode_of w = w % 1024

-- "Fields: s = bits 5-3, d = bits 2-0."
abbrev pub field_s : ℕ → ℕ
field_s w = w / 8 % 8

abbrev pub field_d : ℕ → ℕ
field_d w = w % 8

-- Memory rows: "s = 0 direct (address in the next word), 1 to 5 through that register, 6 stack, 7 immediate." R4 and R5 rise: they "move up
-- after use".
pub data Mode : Type 0 where
  direct : Mode
  through : ℕ → Mode
  rising : ℕ → Mode
  stack : Mode
  immediate : Mode

-- by s, which has three bits: the default of `mode_of` is never taken
abbrev pub modes : List Mode
modes = direct ∷ through 1 ∷ through 2 ∷ through 3 ∷ rising 4 ∷ rising 5 ∷ stack ∷ immediate ∷ []

abbrev pub mode_of : ℕ → Mode
mode_of s = get_or modes s stack

-- Under D: "the low bytes of two successive words, low half first"
unfoldable pub joined : ℕ → ℕ → ℕ
joined low high = low % 256 + high % 256 * 256

-- Branches. b is bits 5 to 0 of the opcode. "Bit 5 clear: target = opcode address + 2 + displacement. Set: address + 1 - displacement"
abbrev pub is_backward : ℕ → Bool
is_backward b = bit 5 b

unfoldable pub branch_target : ℕ → ℕ → ℕ → ℕ
branch_target at b displacement =
    cond (is_backward b) (wrap_sub (wrap_add at 1) displacement) (wrap_add (wrap_add at 2) displacement)

-- "Bit 4: BEXT, taken if the external input numbered by bits 3-0 is 1."
abbrev pub is_external : ℕ → Bool
is_external b = bit 4 b

abbrev pub input_number : ℕ → ℕ
input_number b = b % 16

-- "Otherwise bits 2-0: always; .." "Bit 3 negates."
abbrev pub condition_number : ℕ → ℕ
condition_number b = b % 8

abbrev pub is_negated : ℕ → Bool
is_negated b = bit 3 b

-- B: "always", not negated, for both directions of bit 5
abbrev pub is_always : ℕ → Bool
is_always b = eqb (b % 32) 0

-- NOPP: bit 3 negates "always", for both directions
abbrev pub is_nopp : ℕ → Bool
is_nopp b = eqb (b % 32) 8

-- Jumps. "Second word: bits 9-8 return register R4, R5, R6 or none"; both words "count modulo 1024"
pub data Return : Type 0 where
  no_return : Return
  return_in : ℕ → Return

unfoldable pub return_of : ℕ → Return
return_of second = get_or (return_in 4 ∷ return_in 5 ∷ return_in 6 ∷ []) (second / 256 % 4) no_return

-- the jump is a JSR, which comes back
abbrev pub has_return : Return → Bool
has_return no_return = false
has_return (return_in r) = true

-- "bits 7-2 address bits 15-10"; "the third gives address bits 9-0"
unfoldable pub jump_target : ℕ → ℕ → ℕ
jump_target second third = second / 4 % 64 * 1024 + third % 1024

-- "bits 1-0: 0 none, 1 sets I, 2 clears I, 3 unspecified"
abbrev pub jump_bits : ℕ → ℕ
jump_bits second = second % 4

-- I after a jump, from I before it; 3 is refused before a jump is made
unfoldable pub interrupts_after : ℕ → Bool → Bool
interrupts_after second i = get_or (i ∷ true ∷ []) (jump_bits second) false
