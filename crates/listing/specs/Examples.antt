-- Document 01, "Listing lines": its own examples, each with words that list so, and lines of four kinds that give their words back. The lists hold by
-- computing the definitions.
use Rattle.std.specs.Prelude.{ℕ, ◌≡◌, true, false, List, [], ◌∷◌}
use Rattle.refusal.specs.Report.{answered}
use Rattle.memory.specs.Bus.{bus_of, read_of}
use Rattle.text.specs.Text.{codes}
use Rattle.listing.specs.Disassemble.{text_at}
use Rattle.listing.specs.Assemble.{assemble_of}

-- the line of some words, with D clear, and under D
abbrev pub line_from : List ℕ → List ℕ
line_from ws = text_at (read_of (bus_of ws)) 0 false

abbrev pub line_under_d : List ℕ → List ℕ
line_under_d ws = text_at (read_of (bus_of ws)) 0 true

pub record DocumentLines : Type 0 where
  pub single : line_from (0x009 ∷ []) ≡ codes "INCR R1"
  pub by_one : line_from (0x048 ∷ []) ≡ codes "SLL R0"
  pub by_two : line_from (0x04C ∷ []) ≡ codes "SLL R0,2"
  pub nop : line_from (0x034 ∷ []) ≡ codes "NOP"
  pub nop_two : line_from (0x035 ∷ []) ≡ codes "NOP 2"
  pub sin_two : line_from (0x037 ∷ []) ≡ codes "SIN 2"
  pub register : line_from (0x0CA ∷ []) ≡ codes "ADDR R1,R2"
  pub read_direct : line_from (0x280 ∷ 0x0123 ∷ []) ≡ codes "MVI $0123,R0"
  pub store_direct : line_from (0x240 ∷ 0x0123 ∷ []) ≡ codes "MVO R0,$0123"
  pub read_through : line_from (0x2A0 ∷ []) ≡ codes "MVI@ R4,R0"
  pub store_through : line_from (0x260 ∷ []) ≡ codes "MVO@ R0,R4"
  pub store_stack : line_from (0x270 ∷ []) ≡ codes "MVO@ R0,R6"
  pub read_immediate : line_from (0x2B8 ∷ 0x1234 ∷ []) ≡ codes "MVII #$1234,R0"
  pub store_immediate : line_from (0x278 ∷ 0x1234 ∷ []) ≡ codes "MVOI R0,#$1234"
  pub forward : line_from (0x204 ∷ 0x0005 ∷ []) ≡ codes "BEQ +$0005"
  pub backward : line_from (0x224 ∷ 0x0001 ∷ []) ≡ codes "BEQ -$0001"
  pub external : line_from (0x21F ∷ 0x0005 ∷ []) ≡ codes "BEXT 15,+$0005"
  pub jump : line_from (0x004 ∷ 0x310 ∷ 0x234 ∷ []) ≡ codes "J $1234"
  pub jump_enabling : line_from (0x004 ∷ 0x311 ∷ 0x234 ∷ []) ≡ codes "JE $1234"
  pub jump_disabling : line_from (0x004 ∷ 0x312 ∷ 0x234 ∷ []) ≡ codes "JD $1234"
  pub call : line_from (0x004 ∷ 0x110 ∷ 0x234 ∷ []) ≡ codes "JSR R5,$1234"
  pub call_enabling : line_from (0x004 ∷ 0x111 ∷ 0x234 ∷ []) ≡ codes "JSRE R5,$1234"
  pub call_disabling : line_from (0x004 ∷ 0x112 ∷ 0x234 ∷ []) ≡ codes "JSRD R5,$1234"
  pub jump_bits_3 : line_from (0x004 ∷ 0x313 ∷ 0x234 ∷ []) ≡ codes "DECLE $0004"
  -- "stack reads under D list as without it"; an immediate's two words are joined, low half first
  pub stack_under_d : line_under_d (0x2B0 ∷ []) ≡ codes "MVI@ R6,R0"
  pub immediate_under_d : line_under_d (0x2B8 ∷ 0x34 ∷ 0x12 ∷ []) ≡ codes "MVII #$1234,R0"
  -- "Cut so, a listed instruction's words come back equal"
  pub register_back : assemble_of (codes "ADDR R1,R2") false ≡ answered (0x0CA ∷ [])
  pub branch_back : assemble_of (codes "BEQ -$0001") false ≡ answered (0x224 ∷ 0x0001 ∷ [])
  pub call_back : assemble_of (codes "JSR R5,$1234") false ≡ answered (0x004 ∷ 0x110 ∷ 0x234 ∷ [])
  pub decle_back : assemble_of (codes "DECLE $0004") false ≡ answered (0x004 ∷ [])
