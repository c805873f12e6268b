-- Document 01, "Branches". b is bits 5 to 0 of the opcode, at its address; R7 is past the instruction's words.
use Rattle.std.specs.Prelude.{ℕ, Bool, true, false, not, cond, ◌||◌, List, [], ◌∷◌, get_or}
use Rattle.std.specs.Bool.{beq}
use Rattle.word.specs.Word.{bit}
use Rattle.decode.specs.Fields.{branch_target, is_external, input_number, condition_number, is_negated}
use Rattle.cpu.specs.Machine.{Flags, Machine, set_register}

-- "bits 2-0: always; C; O; S = 0; Z; S ≠ O; Z or S ≠ O; S ≠ C": B BC BOV BPL BEQ BLT BLE BUSC
abbrev pub conditions : Flags → List Bool
conditions f =
    true
    ∷ f.c
    ∷ f.o
    ∷ not f.s
    ∷ f.z
    ∷ not (beq f.s f.o)
    ∷ (f.z || not (beq f.s f.o))
    ∷ not (beq f.s f.c)
    ∷ []

-- "Bit 3 negates": NOPP BNC BNOV BMI BNEQ BGE BGT BESC
unfoldable pub condition_holds : Flags → ℕ → Bool
condition_holds f b =
    let holds : Bool = get_or (conditions f) (condition_number b) false in
    cond (is_negated b) (not holds) holds

-- "Bit 4: BEXT, taken if the external input numbered by bits 3-0 is 1. Otherwise bits 2-0"
unfoldable pub is_taken : Flags → ℕ → ℕ → Bool
is_taken f external b = cond (is_external b) (bit (input_number b) external) (condition_holds f b)

-- taken, R7 becomes the target
unfoldable pub branch : ℕ → ℕ → ℕ → ℕ → Machine → Machine
branch b external at displacement m =
    cond (is_taken m.flags external b) (set_register 7 (branch_target at b displacement) m) m
