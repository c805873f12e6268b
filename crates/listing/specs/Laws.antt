-- What holds of listing and assembling together. Each law is stated here; `proofs/RoundTrip` proves (a), (c), (d) and (f), `proofs/Itself`
-- (b), `proofs/RowTable` (e), and `proofs/Bounds` the last.
use Rattle.std.specs.Prelude.{ℕ, ◌<◌, ◌≤◌, ◌≡◌, Bool, true, false, List, length, get_or, None, Some}
use Rattle.word.specs.Word.{wrap_add}
use Rattle.memory.specs.Bus.{Bus, bus_of, read_of}
use Rattle.memory.specs.Laws.{BusWords}
use Rattle.decode.specs.declared.Instr.{Instr}
use Rattle.decode.specs.declared.Instr.TheVariants.{Read}
use Rattle.decode.specs.Fields.{opcode_of, jump_bits}
use Rattle.decode.specs.Decode.{instruction_of, decode_at}
use Rattle.decode.specs.Rows.{row_of}
use Rattle.refusal.specs.Report.{answered}
use Rattle.text.specs.Text.{codes}
use Rattle.listing.specs.Disassemble.{Entry, entry_at, text_at}
use Rattle.listing.specs.Cut.{cut_at}
use Rattle.listing.specs.Assemble.{assemble_of}

-- (a) "Cut so, a listed instruction's words come back equal"
abbrev pub ListedComesBack : Type 0
ListedComesBack =
    (b : Bus) (at : ℕ) (double : Bool) →
    BusWords b →
    assemble_of (text_at (read_of b) at double) double ≡ answered (cut_at (read_of b) at double)

-- the words ws stand at an address, whatever follows them
abbrev pub Stand : (ℕ → ℕ) → ℕ → List ℕ → Type 0
Stand read at ws = (i : ℕ) → i < length ws → read (wrap_add at i) ≡ get_or ws i 0

-- (b) "an assembled line lists as itself, DECLE excepted": under the same D, and whatever words follow
abbrev pub AssembledListsAsItself : Type 0
AssembledListsAsItself =
    (text : List ℕ) (double : Bool) (ws : List ℕ) →
    assemble_of text double ≡ answered ws →
    (text ≡ codes "DECLE $0004" → ⊥) →
    (read : ℕ → ℕ) (at : ℕ) →
    at < 65536 →
    Stand read at ws →
    (text_at read at double ≡ text) × ((entry_at read at double).words ≡ length ws)

-- a memory whose first words list as a text, and are, cut, the words ws
pub record WordsOf (text : List ℕ) (double : Bool) (ws : List ℕ) : Type 0 where
  pub memory : List ℕ
  pub short : length memory ≤ 65536
  pub words : BusWords (bus_of memory)
  pub lists : text_at (read_of (bus_of memory)) 0 double ≡ text
  pub cut : cut_at (read_of (bus_of memory)) 0 double ≡ ws

-- (c) "It accepts exactly the lister's lines": what is accepted is the line of some words, and every such line is accepted
pub record AcceptsListedLines : Type 0 where
  pub only : (text : List ℕ) (double : Bool) (ws : List ℕ) → assemble_of text double ≡ answered ws → WordsOf text double ws
  pub every :
      (text : List ℕ) (double : Bool) (b : Bus) (at : ℕ) →
      BusWords b →
      text_at (read_of b) at double ≡ text →
      (ws : List ℕ) × (assemble_of text double ≡ answered ws)

-- (d) two instructions with the same line have the same words, cut
abbrev pub SameLineSameWords : Type 0
SameLineSameWords =
    (b c : Bus) (at to : ℕ) (double : Bool) →
    BusWords b →
    BusWords c →
    text_at (read_of b) at double ≡ text_at (read_of c) to double →
    cut_at (read_of b) at double ≡ cut_at (read_of c) to double

-- (e) words used and next D are those of the row table that the step uses; "Jump bits 3 give `DECLE $0004`, one word, next D clear;
-- stack reads under D list as without it"
pub record FollowsRowTable (read : ℕ → ℕ) (at : ℕ) (double : Bool) : Type 0 where
  pub known :
      (i : Instr) →
      decode_at read at double ≡ Some i →
      ((entry_at read at double).words ≡ (row_of i double).words) × ((entry_at read at double).double ≡ (row_of i double).double)
  pub jump_bits_back :
      opcode_of (read at) ≡ 0x004 →
      jump_bits (read (wrap_add at 1)) ≡ 3 →
      entry_at read at double ≡ record { text = codes "DECLE $0004"; words = 1; double = false }
  pub stack :
      (i : Instr) →
      decode_at read at double ≡ None →
      decode_at read at false ≡ Some i →
      entry_at read at double ≡ entry_at read at false

abbrev pub EveryRowFollows : Type 0
EveryRowFollows = (read : ℕ → ℕ) (at : ℕ) (double : Bool) → FollowsRowTable read at double

-- (f) "gives opcode and jump words below 1024, and under D the two words of a read row's immediate below 256"
pub record Cut (double : Bool) (ws : List ℕ) : Type 0 where
  pub opcode : get_or ws 0 0 < 1024
  pub jump_words_low : get_or ws 0 0 ≡ 0x004 → (i : ℕ) → get_or ws i 0 < 1024
  pub immediate :
      (row d : ℕ) →
      double ≡ true →
      instruction_of (get_or ws 0 0) ≡ Read row 7 d →
      (length ws ≡ 3) × ((get_or ws 1 0 < 256) × (get_or ws 2 0 < 256))

abbrev pub AssembledIsCut : Type 0
AssembledIsCut =
    (text : List ℕ) (double : Bool) (ws : List ℕ) → assemble_of text double ≡ answered ws → Cut double ws

-- A line has at most 14 bytes, so that it fits where "text room under 16 bytes" is not refused; and it uses one to three words.
pub record LineBounds (e : Entry) : Type 0 where
  pub text_most : length e.text ≤ 14
  pub words_least : 1 ≤ e.words
  pub words_most : e.words ≤ 3

abbrev pub LinesBounded : Type 0
LinesBounded = (read : ℕ → ℕ) (at : ℕ) (double : Bool) → LineBounds (entry_at read at double)
