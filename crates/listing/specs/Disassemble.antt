-- Document 01, "Listing lines": "The lister takes an address and D, answers text length, words used and next D". The memory is a reader,
-- from an address to the word there.
use Rattle.std.specs.Prelude.{ℕ, Bool, false, cond, List, ◌++◌, ltb, length, drop, Result, Option, None, Some}
use Rattle.refusal.specs.declared.Refusal.{Refusal}
use Rattle.refusal.specs.declared.Refusal.TheVariants.{TextRoomTooSmall}
use Rattle.refusal.specs.Refusals.{refusal_number}
use Rattle.refusal.specs.Report.{Report, refused}
use Rattle.word.specs.Word.{wrap_add}
use Rattle.memory.specs.Bus.{Bus, read_of, admission_of, unless_barred}
use Rattle.decode.specs.declared.Instr.{Instr}
use Rattle.decode.specs.Decode.{decode_at}
use Rattle.decode.specs.Rows.{row_of}
use Rattle.text.specs.Text.{codes, hex_of}
use Rattle.listing.specs.declared.Listed.{Listed}
use Rattle.listing.specs.Answer.{ListedLine, listed_line, listing_reported}
use Rattle.listing.specs.Line.{line_of, line_operand}

-- what is listed at an address: "text .., words used and next D"
pub record Entry : Type 0 where
  pub text : List ℕ
  pub words : ℕ
  pub double : Bool

-- "Jump bits 3 give `DECLE $0004`, one word, next D clear"
abbrev pub decle_entry : Entry
decle_entry = record { text = codes "DECLE $0004"; words = 1; double = false }

-- the entry of what is decoded, with the words a and b after the opcode: words used and next D are the row table's
abbrev pub entry_of : Option Instr → Bool → ℕ → ℕ → Entry
entry_of None double a b = decle_entry
entry_of (Some i) double a b =
    record {
      text = line_of i (hex_of (line_operand (row_of i double).words a b)) a b;
      words = (row_of i double).words;
      double = (row_of i double).double;
    }

-- "stack reads under D list as without it": the instruction is decoded with D clear
unfoldable pub entry_at : (ℕ → ℕ) → ℕ → Bool → Entry
entry_at read at double =
    entry_of (decode_at read at false) double (read (wrap_add at 1)) (read (wrap_add at 2))

-- the bytes of the line at an address
abbrev pub text_at : (ℕ → ℕ) → ℕ → Bool → List ℕ
text_at read at double = (entry_at read at double).text

-- all that the disassembler leaves: what it reports, and the room
pub record Disassembly : Type 0 where
  pub answer : Report ListedLine
  pub room : List ℕ

-- "A refusal hands back its number, no other result, and no lent word or byte altered."
abbrev pub refused_disassembly : List ℕ → Refusal → Disassembly
refused_disassembly room r = record { answer = refused (refusal_number r); room = room }

-- "Text room past the line is untouched."
unfoldable pub listed_disassembly : List ℕ → Entry → Disassembly
listed_disassembly room e =
    record {
      answer = listed_line (length e.text) e.words e.double;
      room = e.text ++ drop (length e.text) room;
    }

-- refusal 1: "memory above 65,536 words"; refusal 5: "text room under 16 bytes"
unfoldable pub disassemble_of : Bus → ℕ → Bool → List ℕ → Disassembly
disassemble_of b at double room =
    unless_barred (admission_of b) (refused_disassembly room)
    (cond (ltb (length room) 16) (refused_disassembly room TextRoomTooSmall)
    (listed_disassembly room (entry_at (read_of b) at double)))

-- what the code's answer and the room at its return stand for: the contract says that it is `disassemble_of`
abbrev pub disassembly : Result Listed Refusal → List ℕ → Disassembly
disassembly x room = record { answer = listing_reported x; room = room }
