-- Every opcode but the jump's: the rule of the table, tested over all of them, and what follows of one.
use Prim.Native.Nat.{ℕ, suc, ◌+◌, ◌*◌, ◌/◌, ◌%◌, ◌<◌}
use mathlib.Core.Path.{◌≡◌, refl, ap}
use mathlib.Core.Bool.{Bool, true, false, cond, not, ◌&&◌, ◌||◌}
use native.Mathlib.Omega.{arith}
use lib.Dec.{T, eqb, ltb, eqb→eq, leb→le}
use Rattle.decode.specs.declared.Instr.{Instr}
use Rattle.decode.specs.declared.Instr.TheVariants.{Hlt, Control, Jump, Single, Gswd, Nop, Sin, Shift, Register, Branch, Store, Read}
use Rattle.decode.specs.Fields.{is_external, input_number}
use Rattle.decode.specs.Decode.{control_instruction, status_instruction, low_instruction, instruction_of, decode_words}
use Rattle.decode.specs.Rows.{interruptible_entry, plain_entry, halt_entry, control_entry, jump_entry, register_entry, shift_entry, branch_entry, memory_words, store_entry, read_words, read_entry, row_of}
use Rattle.text.specs.Text.{digit_of, digit_value}
use Rattle.text.proofs.Tests.{below, below_at, both_left, both_right, clash}
use Rattle.listing.specs.Inner.Rows.{rows, template_of, base_of}
use Rattle.listing.specs.Inner.Line.{line_with, sign_of, field_of, glyph_of, text_of}
use Rattle.listing.specs.Inner.Entry.{control_line, single_line, shift_line, branch_sign, branch_line, memory_line, register_line, row_line_of}
use Rattle.listing.specs.Inner.Encode.{with_symbol, line_read, word_count}
use Rattle.listing.specs.declared.line.Line.{Line}
use Rattle.listing.proofs.Tests.{imp, imp-at}
use Rattle.listing.proofs.Table.{shows_operand}
use Rattle.listing.proofs.Back.{backs}

-- a jump's opcode is 004 alone
abbrev pub is_jump : Instr → Bool
is_jump Hlt = false
is_jump (Control d) = false
is_jump Jump = true
is_jump (Single s d) = false
is_jump (Gswd d) = false
is_jump (Nop n) = false
is_jump (Sin n) = false
is_jump (Shift s d) = false
is_jump (Register row s d) = false
is_jump (Branch b) = false
is_jump (Store s d) = false
is_jump (Read row s d) = false

-- of any other instruction the words after the opcode count only through the operand
unfoldable pub with_operand : Line → ℕ → Line
with_operand l x = line_with l.row l.s l.d x

chosen : (c : Bool) (l m : ℕ → Line) (x : ℕ) → l x ≡ with_operand (l 0) x → m x ≡ with_operand (m 0) x
    → cond c (l x) (m x) ≡ with_operand (cond c (l 0) (m 0)) x
chosen true l m x p q = p
chosen false l m x p q = q

control-shape : (d x : ℕ) → control_line d x ≡ with_operand (control_line d 0) x
unfolding control_line with_operand
control-shape d x = chosen (ltb d 4) (λ y. line_with d 0 0 y) (λ y. line_with ((d % 8 + 7) % 8) 0 0 y) x refl refl

memory-shape : (row s d x : ℕ) → memory_line row s d x ≡ with_operand (memory_line row s d 0) x
unfolding memory_line with_operand
memory-shape row s d x =
    chosen (eqb s 0) (λ y. line_with (55 + row % 8 * 3) 0 d y)
    (λ y. cond (eqb s 7) (line_with (55 + row % 8 * 3 + 2) 0 d y) (line_with (55 + row % 8 * 3 + 1) s d y))
    x refl
    (chosen (eqb s 7) (λ y. line_with (55 + row % 8 * 3 + 2) 0 d y) (λ y. line_with (55 + row % 8 * 3 + 1) s d y) x refl refl)

line-shape : (i : Instr) (x a b : ℕ) → is_jump i ≡ false → row_line_of i x a b ≡ with_operand (row_line_of i 0 0 0) x
unfolding single_line shift_line branch_line register_line with_operand
line-shape Hlt x a b e = control-shape 0 x
line-shape (Control d) x a b e = control-shape d x
line-shape Jump x a b e = clash refl e
line-shape (Single s d) x a b e = refl
line-shape (Gswd d) x a b e = refl
line-shape (Nop n) x a b e = refl
line-shape (Sin n) x a b e = refl
line-shape (Shift s d) x a b e = refl
line-shape (Register row s d) x a b e = refl
line-shape (Branch c) x a b e =
    chosen (is_external c) (λ y. line_with (56 + input_number c / 10) (branch_sign c) (input_number c % 10) y)
    (λ y. line_with (40 + c % 16) (branch_sign c) 0 y) x refl refl
line-shape (Store s d) x a b e = memory-shape 9 s d x
line-shape (Read row s d) x a b e = memory-shape row s d x

-- the row and the fields of an opcode
unfoldable pub shape : ℕ → Line
shape w = row_line_of (instruction_of w) 0 0 0

-- How many words an opcode's instruction has, and that they show: one, or two or three with the operand in the line.
abbrev counts : ℕ → Bool → Bool
counts w double =
    cond (eqb (row_of (instruction_of w) double).words 1) true
    (shows_operand (template_of (shape w).row)
    && (eqb (row_of (instruction_of w) double).words 2 || eqb (row_of (instruction_of w) double).words 3))

-- The rule of the table, over all opcodes but 004: the row is none of the jump's, the row's number with the fields is the opcode, the
-- fields are read back, and the operand shows where there is one.
abbrev rule : ℕ → Bool
rule w =
    imp (not (eqb w 4))
    ((not (is_jump (instruction_of w)) && ltb (shape w).row 79)
    && ((eqb (base_of (shape w).row + (shape w).s % 16 * 8 + (shape w).d % 16) w && backs (shape w).row (shape w).s (shape w).d)
    && (counts w false && counts w true)))

rule-test : T (below rule 1024)
unfolding shape instruction_of low_instruction control_instruction status_instruction control_line single_line shift_line branch_line memory_line register_line interruptible_entry plain_entry halt_entry control_entry jump_entry register_entry shift_entry branch_entry memory_words store_entry read_words read_entry base_of line_read with_symbol digit_value text_of glyph_of field_of digit_of sign_of template_of rows
rule-test = tt

module _ (w : ℕ) (h : w < 1024) (e : eqb w 4 ≡ false) where
  ruled : T ((not (is_jump (instruction_of w)) && ltb (shape w).row 79)
      && ((eqb (base_of (shape w).row + (shape w).s % 16 * 8 + (shape w).d % 16) w && backs (shape w).row (shape w).s (shape w).d)
      && (counts w false && counts w true)))
  ruled = imp-at (not (eqb w 4)) _ (below_at rule 1024 rule-test w h) (ap not e)

  placed : T (not (is_jump (instruction_of w)) && ltb (shape w).row 79)
  placed = both_left (not (is_jump (instruction_of w)) && ltb (shape w).row 79) _ ruled

  fielded : T (eqb (base_of (shape w).row + (shape w).s % 16 * 8 + (shape w).d % 16) w && backs (shape w).row (shape w).s (shape w).d)
  fielded = both_left (eqb (base_of (shape w).row + (shape w).s % 16 * 8 + (shape w).d % 16) w && backs (shape w).row (shape w).s (shape w).d) (counts w false && counts w true) (both_right (not (is_jump (instruction_of w)) && ltb (shape w).row 79) _ ruled)

  counted : T (counts w false && counts w true)
  counted = both_right (eqb (base_of (shape w).row + (shape w).s % 16 * 8 + (shape w).d % 16) w && backs (shape w).row (shape w).s (shape w).d) (counts w false && counts w true) (both_right (not (is_jump (instruction_of w)) && ltb (shape w).row 79) _ ruled)

  pub no_jump : is_jump (instruction_of w) ≡ false
  no_jump = go (is_jump (instruction_of w)) (both_left (not (is_jump (instruction_of w))) (ltb (shape w).row 79) placed)
    where
      go : (b : Bool) → T (not b) → b ≡ false
      go true t = absurd t
      go false t = refl

  pub row-79 : (shape w).row < 79
  row-79 = leb→le (suc (shape w).row) 79 (both_right (not (is_jump (instruction_of w))) (ltb (shape w).row 79) placed)

  pub opcode : base_of (shape w).row + (shape w).s % 16 * 8 + (shape w).d % 16 ≡ w
  opcode = eqb→eq (base_of (shape w).row + (shape w).s % 16 * 8 + (shape w).d % 16) w (both_left (eqb (base_of (shape w).row + (shape w).s % 16 * 8 + (shape w).d % 16) w) (backs (shape w).row (shape w).s (shape w).d) fielded)

  pub fields : T (backs (shape w).row (shape w).s (shape w).d)
  fields = both_right (eqb (base_of (shape w).row + (shape w).s % 16 * 8 + (shape w).d % 16) w) (backs (shape w).row (shape w).s (shape w).d) fielded

  pub counts-at : (double : Bool) → T (counts w double)
  counts-at false = both_left (counts w false) (counts w true) counted
  counts-at true = both_right (counts w false) (counts w true) counted

  -- the opcode with a 0 after it is decoded as the instruction
  pub count_at : (double : Bool) → word_count w double ≡ (row_of (instruction_of w) double).words
  unfolding word_count decode_words
  count_at double = let m : w % 1024 ≡ w = omega arith in rw (m, e)

  pub plain-line : (x a b : ℕ) → row_line_of (instruction_of w) x a b ≡ with_operand (shape w) x
  unfolding shape
  plain-line x a b = line-shape (instruction_of w) x a b no_jump
