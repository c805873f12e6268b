-- The C interface page, "State" and "Lines": how words stand for a machine, and a number for the lines.
use Rattle.std.specs.Prelude.{ℕ, ◌/◌, ◌%◌, Bool, not, cond, List, [], ◌∷◌, ◌++◌, eqb, get_or, drop}
use Rattle.cpu.specs.declared.Lines.{Lines}
use Rattle.cpu.specs.Machine.{Machine}

-- "A state is 18 words of 16 bits."
abbrev pub state_length : ℕ
state_length = 18

-- "words 0 to 7 are R0 to R7"
abbrev pub eight : List ℕ → List ℕ
eight l =
    get_or l 0 0
    ∷ get_or l 1 0
    ∷ get_or l 2 0
    ∷ get_or l 3 0
    ∷ get_or l 4 0
    ∷ get_or l 5 0
    ∷ get_or l 6 0
    ∷ get_or l 7 0
    ∷ []

-- "On input any value other than 0 in words 8 to 17 counts as 1"
abbrev pub is_set : ℕ → Bool
is_set word = not (eqb word 0)

-- "on output they are 0 or 1"
abbrev pub flag_word : Bool → ℕ
flag_word b = cond b 1 0

-- "words 8 to 13 are S Z O C I D, word 14 halted, word 15 ready, word 16 the previous INTRM level (1 is high), word 17 the pending mark"
unfoldable pub unpacked : List ℕ → Machine
unpacked words =
    let set : ℕ → Bool = λ n. is_set (get_or words n 0) in
    record {
      registers = eight words;
      flags = record { s = set 8; z = set 9; o = set 10; c = set 11 };
      switches = record { i = set 12; d = set 13 };
      running = record { halted = set 14; ready = set 15 };
      intrm = record { level = set 16; mark = set 17 };
    }

-- the same words of a machine
abbrev pub mark_words : Machine → List ℕ
mark_words m =
    flag_word m.flags.s
    ∷ flag_word m.flags.z
    ∷ flag_word m.flags.o
    ∷ flag_word m.flags.c
    ∷ flag_word m.switches.i
    ∷ flag_word m.switches.d
    ∷ flag_word m.running.halted
    ∷ flag_word m.running.ready
    ∷ flag_word m.intrm.level
    ∷ flag_word m.intrm.mark
    ∷ []

-- "A buffer longer than the table says is taken; the items past what is named stay."
unfoldable pub packed : List ℕ → Machine → List ℕ
packed words m = eight m.registers ++ mark_words m ++ drop state_length words

-- "bit 0 the INTRM level (1 high), bit 1 the BUSRQ level (1 high), bits 16 to 31 the external branch inputs 0 to 15; the other bits are ignored"
unfoldable pub lines_of : ℕ → Lines
lines_of n = record { intrm = eqb (n % 2) 1; busrq = eqb (n / 2 % 2) 1; external = n / 65536 }
