-- What holds of the decoder and of every row of the table.
use Rattle.std.specs.Prelude.{ℕ, ◌<◌, ◌≤◌, ◌≡◌, Bool, false, cond, List, ◌++◌, Option, None, Some}
use Rattle.word.specs.Word.{wrap_add}
use Rattle.memory.specs.Bus.{Bus, read_of}
use Rattle.memory.specs.Laws.{AgreeAt}
use Rattle.decode.specs.declared.Instr.{Instr}
use Rattle.decode.specs.declared.Instr.TheVariants.{Hlt, Control, Jump, Single, Gswd, Nop, Sin, Shift, Register, Branch, Store, Read}
use Rattle.decode.specs.declared.rows.Row.{Row}
use Rattle.decode.specs.Fields.{opcode_of}
use Rattle.decode.specs.Decode.{instruction_of, opcode_for, is_unspecified, unspecified_form, specified, decode_at, decode_words}
use Rattle.decode.specs.Rows.{row_of}
use Rattle.decode.specs.Reads.{decoding_reads, own_words}

-- what decoding tells, in document 01's numbers: the form is unspecified, or its opcode and its row
pub data Told : Type 0 where
  unspecified : Told
  known : ℕ → Row → Told

abbrev pub told_of : Bool → Option Instr → Told
told_of double None = unspecified
told_of double (Some i) = known (opcode_for i) (row_of i double)

abbrev pub told_at : (ℕ → ℕ) → ℕ → Bool → Told
told_at read at double =
    cond (is_unspecified read at (opcode_of (read at)) double) unspecified
    (known (opcode_of (read at)) (row_of (instruction_of (opcode_of (read at))) double))

-- what the decoder answers: the instruction there, and so the opcode that stands there with its row
pub record Decodes (read : ℕ → ℕ) (at : ℕ) (double : Bool) (r : Option Instr) : Type 0 where
  pub instruction : r ≡ decode_at read at double
  pub tells : told_of double r ≡ told_at read at double

-- the decoding in two steps, the instruction of the opcode and then its form; and that of two words
pub record DecodesInSteps : Type 0 where
  pub forms : (read : ℕ → ℕ) (at : ℕ) (double : Bool) (w : ℕ) → w < 1024 → unspecified_form read at (instruction_of w) double ≡ is_unspecified read at w double
  pub steps : (read : ℕ → ℕ) (at : ℕ) (double : Bool) → specified read at (instruction_of (opcode_of (read at))) double ≡ decode_at read at double
  pub words : (read : ℕ → ℕ) (at : ℕ) → decode_words (read at) (read (wrap_add at 1)) ≡ decode_at read at false

-- an instruction's opcode inverts the decoding, on all 1,024 opcodes
abbrev pub OpcodesInvert : Type 0
OpcodesInvert = (w : ℕ) → w < 1024 → opcode_for (instruction_of w) ≡ w

-- the fields of an instruction have as many bits as the table gives them, and each kind has its own
abbrev pub InRange : Instr → Type 0
InRange Hlt = Unit
InRange (Control d) = (d < 8) × (d ≡ 0 → ⊥) × (d ≡ 4 → ⊥)
InRange Jump = Unit
InRange (Single s d) = (s < 8) × (s ≡ 0 → ⊥) × (s ≡ 6 → ⊥) × (d < 8)
InRange (Gswd d) = d < 4
InRange (Nop n) = n < 2
InRange (Sin n) = n < 2
InRange (Shift s d) = (s < 8) × (d < 8)
InRange (Register row s d) = (2 ≤ row) × (row < 8) × (s < 8) × (d < 8)
InRange (Branch b) = b < 64
InRange (Store s d) = (s < 8) × (d < 8)
InRange (Read row s d) = (10 ≤ row) × (row < 16) × (s < 8) × (d < 8)

-- .. so it is of every instruction that is decoded
abbrev pub DecodesInRange : Type 0
DecodesInRange = (read : ℕ → ℕ) (at : ℕ) (double : Bool) (i : Instr) → decode_at read at double ≡ Some i → InRange i

-- every row costs 4 to 12 cycles and has 1 to 3 words
pub record RowBounds : Type 0 where
  pub least : (i : Instr) (double : Bool) → 4 ≤ (row_of i double).cycles
  pub most : (i : Instr) (double : Bool) → (row_of i double).cycles ≤ 12
  pub words_least : (i : Instr) (double : Bool) → 1 ≤ (row_of i double).words
  pub words_most : (i : Instr) (double : Bool) → (row_of i double).words ≤ 3

-- decoding depends on the words that it reads and on no others
abbrev pub DecodingIsLocal : Type 0
DecodingIsLocal =
    (b c : Bus) (at : ℕ) (double : Bool) →
    AgreeAt (decoding_reads (read_of b) at) b c →
    decode_at (read_of b) at double ≡ decode_at (read_of c) at double

-- xs is how ys begins
pub record Begins (xs ys : List ℕ) : Type 0 where
  pub rest : List ℕ
  pub whole : ys ≡ xs ++ rest

-- the words that decoding reads are the first of the instruction's own
abbrev pub DecodingReadsOwnWords : Type 0
DecodingReadsOwnWords =
    (read : ℕ → ℕ) (at : ℕ) (double : Bool) (i : Instr) →
    decode_at read at double ≡ Some i →
    Begins (decoding_reads read at) (own_words at (row_of i double).words)
