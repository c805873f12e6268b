-- Document 01, "Memory rows" and "D", an addressing mode at a time. `at` is the opcode's address; R7 is past the instruction's words.
use Rattle.std.specs.Prelude.{ℕ, Bool, true, false, List, [], ◌∷◌, get_or}
use Rattle.word.specs.Word.{wrap_add, wrap_sub}
use Rattle.memory.specs.Bus.{Store, keep, put}
use Rattle.decode.specs.Fields.{Mode, direct, through, rising, stack, immediate, joined}
use Rattle.cpu.specs.Machine.{Machine, register, set_register}

-- word n of those that an execution reads
abbrev pub word : ℕ → List ℕ → ℕ
word n words = get_or words n 0

-- how a read row comes by its operand: the addresses of the words that it reads, in order, the operand from these words, and the machine with
-- the pointer moved
pub record Fetch : Type 0 where
  pub reads : (ℕ → ℕ) → List ℕ
  pub operand : List ℕ → ℕ
  pub after : Machine

-- the Bool is D
abbrev pub fetch_of : Mode → Bool → ℕ → Machine → Fetch
-- "address in the next word"; "Other rows ignore D"
fetch_of direct double at m =
    record { reads = λ read. wrap_add at 1 ∷ read (wrap_add at 1) ∷ []; operand = word 1; after = m }
fetch_of (through p) false at m = record { reads = λ read. register p m ∷ []; operand = word 0; after = m }
-- under D "s = 1, 2, 3 read one word and use its low byte for both halves"
fetch_of (through p) true at m =
    record { reads = λ read. register p m ∷ []; operand = λ words. joined (word 0 words) (word 0 words); after = m }
-- "R4, R5, R7 move up after use."
fetch_of (rising p) false at m =
    record { reads = λ read. register p m ∷ []; operand = word 0; after = set_register p (wrap_add (register p m) 1) m }
-- under D "s = 4, 5, 7 take the low bytes of two successive words, low half first, pointer moved twice"
fetch_of (rising p) true at m =
    record {
      reads = λ read. register p m ∷ wrap_add (register p m) 1 ∷ [];
      operand = λ words. joined (word 0 words) (word 1 words);
      after = set_register p (wrap_add (register p m) 2) m;
    }
-- "R6: .. a read first takes R6 - 1"; "s = 6 under D is unspecified"
fetch_of stack double at m =
    record {
      reads = λ read. wrap_sub (register 6 m) 1 ∷ [];
      operand = word 0;
      after = set_register 6 (wrap_sub (register 6 m) 1) m;
    }
-- the instruction's own words: R7 has moved past them
fetch_of immediate false at m = record { reads = λ read. wrap_add at 1 ∷ []; operand = word 0; after = m }
fetch_of immediate true at m =
    record {
      reads = λ read. wrap_add at 1 ∷ wrap_add at 2 ∷ [];
      operand = λ words. joined (word 0 words) (word 1 words);
      after = m;
    }

-- the machine after an instruction, and at most one store
pub record Effect : Type 0 where
  pub machine : Machine
  pub store : Store

abbrev pub keeps : Machine → Effect
keeps m = record { machine = m; store = keep }

abbrev pub stores : ℕ → ℕ → Machine → Effect
stores a w m = record { machine = m; store = put a w }

-- what MVO reads: of a direct one the address
abbrev pub store_reads : Mode → ℕ → List ℕ
store_reads direct at = wrap_add at 1 ∷ []
store_reads (through p) at = []
store_reads (rising p) at = []
store_reads stack at = []
store_reads immediate at = []

-- MVO, from the words that it reads: "A store takes its value first"; "MVI, MVO, GSWD set none" of the flags
abbrev pub mvo : Mode → ℕ → List ℕ → ℕ → Machine → Effect
mvo direct d words at m = stores (word 0 words) (register d m) m
mvo (through p) d words at m = stores (register p m) (register d m) m
mvo (rising p) d words at m = stores (register p m) (register d m) (set_register p (wrap_add (register p m) 1) m)
-- "a write goes to R6, then R6 + 1"
mvo stack d words at m = stores (register 6 m) (register d m) (set_register 6 (wrap_add (register 6 m) 1) m)
-- "MVOI stores R7 = opcode address + 1 if d = 7"
mvo immediate d words at m = stores (wrap_add at 1) (register d (set_register 7 (wrap_add at 1) m)) m
