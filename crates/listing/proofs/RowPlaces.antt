-- Each row of the table stands at its opcode.
use Prim.Native.Nat.{ℕ, ◌/◌, ◌%◌, ◌<◌, ◌≤◌}
use mathlib.Core.Path.{◌≡◌, ap, ◌∙◌}
use mathlib.Core.Bool.{Bool, true, false}
use mathlib.Core.List.{[], ◌∷◌}
use native.Mathlib.Omega.{arith}
use lib.Dec.{eqb, lit<, lit≤}
use borrow.Author.Tests.{eq-eqb, ne_eqb}
use Rattle.word.specs.Word.{wrap_add}
use Rattle.word.proofs.Choice.{cond_both}
use Rattle.decode.specs.Fields.{opcode_of, jump_bits}
use Rattle.decode.specs.Decode.{instruction_of}
use Rattle.decode.specs.Rows.{row_of}
use Rattle.listing.specs.declared.line.Line.{Line}
use Rattle.listing.specs.declared.entry.RowEntry.{RowEntry}
use Rattle.listing.specs.Line.{line_operand}
use Rattle.listing.specs.Inner.Rows.{base_of}
use Rattle.listing.specs.Inner.Entry.{jump_line, row_entry_for}
use Rattle.listing.specs.Inner.Encode.{opcode_in, encoded}
use Rattle.listing.specs.Inner.Laws.{RowsAtOpcodes}
use Rattle.listing.proofs.Entries.{jump-line}
use Rattle.listing.proofs.EntryWith.{entry_with, entry-with}
use Rattle.listing.proofs.JumpTrip.{jump-base, jump_words_low}
use Rattle.listing.proofs.Opcodes.{opcode, plain-line, with_operand}

-- the last rows are the jumps'
abbrev OfJump : Line → Type 0
OfJump l = (79 ≤ l.row) × (l.row < 86)

jump-last : (a b : ℕ) → OfJump (jump_line a b)
jump-last a b =
    rw (jump-line a b) (cond_both OfJump (eqb (a / 256 % 4) 3) (omega arith, omega arith) (omega arith, omega arith))

module _ (w a b : ℕ) (double : Bool) where
  plain-place : w < 1024 → eqb w 4 ≡ false → opcode_in (entry_with w a b double).line ≡ w
  unfolding entry_with row_entry_for with_operand
  plain-place h e =
      rw (e, plain-line w h e (line_operand (row_of (instruction_of w) double).words a b) a b) (opcode w h e)

  jump-place : eqb w 4 ≡ true → base_of (entry_with w a b double).line.row ≡ 4
  unfolding entry_with
  jump-place e =
      let last : OfJump (entry_with w a b double).line =
      rw e (cond_both (λ (x : RowEntry). OfJump x.line) (eqb (jump_bits a) 3) (lit≤ tt, lit< tt) (jump-last a b))
      in
      jump-base (entry_with w a b double).line.row last.0 last.1

  jump-encoded : eqb w 4 ≡ true → eqb (jump_bits a) 3 ≡ false → encoded (entry_with w a b double).line double ≡ 4 ∷ a % 1024 ∷ b % 1024 ∷ []
  unfolding entry_with
  jump-encoded e f = rw (e, f) (jump_words_low a b double f)

pub rows-at-opcodes : RowsAtOpcodes
rows-at-opcodes read at double =
    let w = opcode_of (read at) in
    let a = read (wrap_add at 1) in
    let b = read (wrap_add at 2) in
    let is = ap (λ (e : RowEntry). e.line) (entry-with read at double) in
    record {
      plain = λ other. ap opcode_in is ∙ plain-place w a b double (omega arith) (ne_eqb w 4 other);
      jump_row = λ e. ap (λ (l : Line). base_of l.row) is ∙ jump-place w a b double (eq-eqb w 4 e);
      jump_words_low = λ e f. ap (λ (l : Line). encoded l double) is ∙ jump-encoded w a b double (eq-eqb w 4 e) (ne_eqb (jump_bits a) 3 f);
    }
