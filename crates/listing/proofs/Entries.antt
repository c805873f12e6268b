-- The entry at an address: its row is in the table, and it is that of three words.
use Rattle.std.proofs.Common.{Option, None, Some}
use Prim.Native.Nat.{ℕ, zero, suc, ◌+◌, ◌/◌, ◌%◌, ◌<◌, ◌≤◌}
use mathlib.Core.Path.{◌≡◌, refl, ap, ◌∙◌}
use mathlib.Core.Bool.{Bool, true, false, cond}
use mathlib.Core.List.{[], ◌∷◌}
use native.Mathlib.Omega.{arith}
use lib.Dec.{eqb, ltb, lit<, lit≤}
use lib.ListN.{get_or}
use borrow.Author.Tests.{ltb-true}
use Rattle.word.specs.Word.{wrap_add}
use Rattle.word.proofs.Choice.{cond_both, cond_either}
use Rattle.decode.specs.declared.Instr.{Instr}
use Rattle.decode.specs.declared.Instr.TheVariants.{Hlt, Control, Jump, Single, Gswd, Nop, Sin, Shift, Register, Branch, Store, Read}
use Rattle.decode.specs.Fields.{is_external, Return, no_return, return_in, return_of, jump_target, jump_bits}
use Rattle.decode.specs.Decode.{decode_at, decode_words}
use Rattle.decode.specs.Rows.{row_of}
use Rattle.decode.proofs.RowLaws.{row-bounds}
use Rattle.decode.proofs.DecodeLaws.{decodes-in-steps}
use Rattle.listing.specs.declared.line.Line.{Line}
use Rattle.listing.specs.Line.{line_operand}
use Rattle.listing.specs.Disassemble.{entry_of, entry_at}
use Rattle.listing.specs.Inner.Line.{line_with}
use Rattle.listing.specs.Inner.Entry.{jump_line_by, jump_line, control_line, single_line, shift_line, branch_line, memory_line, register_line, row_line_of, row_entry_for, row_entry_of, row_entry_at}

-- the return register by its two bits
return-is : (n : ℕ) → n < 4 → get_or (return_in 4 ∷ return_in 5 ∷ return_in 6 ∷ []) n no_return ≡ cond (eqb n 3) no_return (return_in (n + 4))
return-is zero h = refl
return-is (suc zero) h = refl
return-is (suc (suc zero)) h = refl
return-is (suc (suc (suc zero))) h = refl
return-is (suc (suc (suc (suc n)))) h = absurd (omega arith)

pub return_of-is : (a : ℕ) → return_of a ≡ cond (eqb (a / 256 % 4) 3) no_return (return_in (a / 256 % 4 + 4))
unfolding return_of
return_of-is a = return-is (a / 256 % 4) (omega arith)

jump-by : (b : Bool) (r bits target : ℕ) → jump_line_by (cond b no_return (return_in r)) bits target ≡ cond b (line_with (79 + bits) 0 0 target) (line_with (82 + bits) 0 r target)
jump-by true r bits target = refl
jump-by false r bits target = refl

pub jump-line : (a b : ℕ) → jump_line a b
    ≡ cond (eqb (a / 256 % 4) 3) (line_with (79 + jump_bits a) 0 0 (jump_target a b)) (line_with (82 + jump_bits a) 0 (a / 256 % 4 + 4) (jump_target a b))
unfolding jump_line
jump-line a b =
    ap (λ (r : Return). jump_line_by r (jump_bits a) (jump_target a b)) (return_of-is a)
    ∙ jump-by (eqb (a / 256 % 4) 3) (a / 256 % 4 + 4) (jump_bits a) (jump_target a b)

-- a line of the table
abbrev InTable : Line → Type 0
InTable l = l.row < 86

jump_in : (a b : ℕ) → InTable (jump_line a b)
jump_in a b = rw (jump-line a b) (cond_both InTable (eqb (a / 256 % 4) 3) (omega arith) (omega arith))

control-in : (d x : ℕ) → InTable (control_line d x)
unfolding control_line
control-in d x = cond_either InTable (ltb d 4) (λ e. let h = ltb-true d 4 e in omega arith) (λ e. omega arith)

single-in : (s d x : ℕ) → InTable (single_line s d x)
unfolding single_line
single-in s d x = omega arith

shift_in : (s d x : ℕ) → InTable (shift_line s d x)
unfolding shift_line
shift_in s d x = omega arith

branch_in : (b x : ℕ) → InTable (branch_line b x)
unfolding branch_line
branch_in b x = cond_both InTable (is_external b) (omega arith) (omega arith)

memory-in : (row s d x : ℕ) → InTable (memory_line row s d x)
unfolding memory_line
memory-in row s d x = cond_both InTable (eqb s 0) (omega arith) (cond_both InTable (eqb s 7) (omega arith) (omega arith))

register-in : (row s d x : ℕ) → InTable (register_line row s d x)
unfolding register_line
register-in row s d x = omega arith

line-in : (i : Instr) (x a b : ℕ) → InTable (row_line_of i x a b)
line-in Hlt x a b = control-in 0 x
line-in (Control d) x a b = control-in d x
line-in Jump x a b = jump_in a b
line-in (Single s d) x a b = single-in s d x
line-in (Gswd d) x a b = single-in 6 d x
line-in (Nop n) x a b = omega arith
line-in (Sin n) x a b = omega arith
line-in (Shift s d) x a b = shift_in s d x
line-in (Register row s d) x a b = register-in row s d x
line-in (Branch bits) x a b = branch_in bits x
line-in (Store s d) x a b = memory-in 9 s d x
line-in (Read row s d) x a b = memory-in row s d x

pub entry_in : (read : ℕ → ℕ) (at : ℕ) (double : Bool) → InTable (row_entry_at read at double).line
unfolding row_entry_at row_entry_for
entry_in read at double = go (decode_at read at false)
  where
    go : (x : Option Instr) → InTable (row_entry_of x double (read (wrap_add at 1)) (read (wrap_add at 2))).line
    go None = lit< tt
    go (Some i) = line-in i (line_operand (row_of i double).words (read (wrap_add at 1)) (read (wrap_add at 2))) (read (wrap_add at 1)) (read (wrap_add at 2))

-- the words at an address are decoded by themselves
pub entry-of-words : (read : ℕ → ℕ) (at : ℕ) (double : Bool)
    → row_entry_of (decode_words (read at) (read (wrap_add at 1))) double (read (wrap_add at 1)) (read (wrap_add at 2)) ≡ row_entry_at read at double
unfolding row_entry_at
entry-of-words read at double = ap (λ (x : Option Instr). row_entry_of x double (read (wrap_add at 1)) (read (wrap_add at 2))) (decodes-in-steps.words read at)

-- words used are the same in document 01's entry
pub entry-words : (read : ℕ → ℕ) (at : ℕ) (double : Bool) → (entry_at read at double).words ≡ (row_entry_at read at double).words
unfolding entry_at row_entry_at row_entry_for
entry-words read at double = go (decode_at read at false)
  where
    go : (x : Option Instr) → (entry_of x double (read (wrap_add at 1)) (read (wrap_add at 2))).words ≡ (row_entry_of x double (read (wrap_add at 1)) (read (wrap_add at 2))).words
    go None = refl
    go (Some i) = refl

pub entry-count : (read : ℕ → ℕ) (at : ℕ) (double : Bool) → (1 ≤ (entry_at read at double).words) × ((entry_at read at double).words ≤ 3)
unfolding entry_at
entry-count read at double = go (decode_at read at false)
  where
    go : (x : Option Instr) → (1 ≤ (entry_of x double (read (wrap_add at 1)) (read (wrap_add at 2))).words) × ((entry_of x double (read (wrap_add at 1)) (read (wrap_add at 2))).words ≤ 3)
    go None = (lit≤ tt, lit≤ tt)
    go (Some i) = (row-bounds.words_least i double, row-bounds.words_most i double)
