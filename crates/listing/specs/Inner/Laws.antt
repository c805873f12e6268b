-- What joins the definitions in the code's shape to those of document 01. `proofs/Spelling` and `proofs/RowPlaces` prove it.
use Rattle.std.specs.Prelude.{ℕ, ◌%◌, ◌≡◌, Bool, [], ◌∷◌}
use Rattle.word.specs.Word.{wrap_add}
use Rattle.decode.specs.Fields.{opcode_of, jump_bits}
use Rattle.listing.specs.declared.line.Line.{Line}
use Rattle.listing.specs.Disassemble.{entry_at}
use Rattle.listing.specs.Inner.Rows.{base_of}
use Rattle.listing.specs.Inner.Entry.{row_entry_at, shown}
use Rattle.listing.specs.Inner.Encode.{opcode_in, encoded}

-- the rows spell document 01's lines
abbrev pub RowsSpellLines : Type 0
RowsSpellLines = (read : ℕ → ℕ) (at : ℕ) (double : Bool) → shown (row_entry_at read at double) ≡ entry_at read at double

-- Each row stands at its opcode in the table: a line's row with its fields gives back the opcode that was listed, and a jump's gives back its
-- three words, modulo 1024.
pub record RowAtOpcode (read : ℕ → ℕ) (at : ℕ) (double : Bool) (line : Line) : Type 0 where
  pub plain : (opcode_of (read at) ≡ 0x004 → ⊥) → opcode_in line ≡ opcode_of (read at)
  pub jump_row : opcode_of (read at) ≡ 0x004 → base_of line.row ≡ 0x004
  pub jump_words_low :
      opcode_of (read at) ≡ 0x004 →
      (jump_bits (read (wrap_add at 1)) ≡ 3 → ⊥) →
      encoded line double ≡ 0x004 ∷ read (wrap_add at 1) % 1024 ∷ read (wrap_add at 2) % 1024 ∷ []

abbrev pub RowsAtOpcodes : Type 0
RowsAtOpcodes =
    (read : ℕ → ℕ) (at : ℕ) (double : Bool) → RowAtOpcode read at double (row_entry_at read at double).line
