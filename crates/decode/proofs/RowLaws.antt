-- The bounds of the row table, by its rows, and the words that an instruction stands in.
use Prim.Native.Nat.{ℕ, ◌≤◌}
use mathlib.Core.Path.{◌≡◌}
use mathlib.Core.Bool.{Bool, false, not, ◌&&◌, ◌||◌}
use mathlib.Core.List.{[], ◌∷◌}
use lib.Dec.{eqb, ltb, lit≤}
use lib.ListN.{get_or}
use Rattle.word.proofs.Choice.{cond_both}
use Rattle.decode.specs.declared.Instr.{Instr}
use Rattle.decode.specs.declared.Instr.TheVariants.{Hlt, Control, Jump, Single, Gswd, Nop, Sin, Shift, Register, Branch, Store, Read}
use Rattle.decode.specs.declared.rows.Row.{Row}
use Rattle.decode.specs.Fields.{is_nopp}
use Rattle.decode.specs.Rows.{interruptible_entry, plain_entry, halt_entry, control_entry, jump_entry, register_entry, shift_entry, operate_cycles, operate_entry, branch_cycles, branch_entry, memory_words, store_entry, read_cycles, read_words, read_entry, row_of}
use Rattle.decode.specs.Laws.{RowBounds}

-- an operate that is not MOVR costs what the rows of one register do
pub others-cost : (row d : ℕ) → eqb row 2 ≡ false → register_entry ≡ operate_entry row d
unfolding register_entry operate_cycles
others-cost row d e = rw e

-- a row's cycles lie from 4 to 12, and its words from 1 to 3
abbrev Costs : ℕ → Type 0
Costs n = (4 ≤ n) × (n ≤ 12)

abbrev Sized : ℕ → Type 0
Sized n = (1 ≤ n) × (n ≤ 3)

abbrev Bounded : Row → Type 0
Bounded r = Costs r.cycles × Sized r.words

memory-sized : (s : ℕ) → Sized (memory_words s)
unfolding memory_words
memory-sized s = cond_both Sized (eqb s 0 || eqb s 7) (lit≤ tt, lit≤ tt) (lit≤ tt, lit≤ tt)

read-sized : (s : ℕ) (double : Bool) → Sized (read_words s double)
unfolding read_words
read-sized s double = cond_both Sized (double && eqb s 7) (lit≤ tt, lit≤ tt) (memory-sized s)

read-costs : (s : ℕ) (double : Bool) → Costs (read_cycles s double)
unfolding read_cycles
read-costs s double =
    let P : ℕ → Type 0 = λ k. Costs (get_or (10 ∷ 11 ∷ 8 ∷ 10 ∷ []) k 0) in
    cond_both P (eqb s 0) (lit≤ tt, lit≤ tt)
    (cond_both P (eqb s 6) (lit≤ tt, lit≤ tt) (cond_both P double (lit≤ tt, lit≤ tt) (lit≤ tt, lit≤ tt)))

row-bounded : (i : Instr) (double : Bool) → Bounded (row_of i double)
unfolding interruptible_entry plain_entry halt_entry control_entry jump_entry register_entry shift_entry operate_cycles branch_cycles branch_entry store_entry read_entry
row-bounded Hlt double = ((lit≤ tt, lit≤ tt), (lit≤ tt, lit≤ tt))
row-bounded (Control d) double = ((lit≤ tt, lit≤ tt), (lit≤ tt, lit≤ tt))
row-bounded Jump double = ((lit≤ tt, lit≤ tt), (lit≤ tt, lit≤ tt))
row-bounded (Single s d) double = ((lit≤ tt, lit≤ tt), (lit≤ tt, lit≤ tt))
row-bounded (Gswd d) double = ((lit≤ tt, lit≤ tt), (lit≤ tt, lit≤ tt))
row-bounded (Nop n) double = ((lit≤ tt, lit≤ tt), (lit≤ tt, lit≤ tt))
row-bounded (Sin n) double = ((lit≤ tt, lit≤ tt), (lit≤ tt, lit≤ tt))
row-bounded (Shift s d) double = cond_both Bounded (ltb d 4) ((lit≤ tt, lit≤ tt), (lit≤ tt, lit≤ tt)) ((lit≤ tt, lit≤ tt), (lit≤ tt, lit≤ tt))
row-bounded (Register row s d) double = (cond_both Costs (eqb row 2 && ltb 5 d) (lit≤ tt, lit≤ tt) (lit≤ tt, lit≤ tt), (lit≤ tt, lit≤ tt))
row-bounded (Branch b) double = (cond_both Costs (not (is_nopp b)) (lit≤ tt, lit≤ tt) (lit≤ tt, lit≤ tt), (lit≤ tt, lit≤ tt))
row-bounded (Store s d) double = (cond_both Costs (eqb s 0) (lit≤ tt, lit≤ tt) (lit≤ tt, lit≤ tt), memory-sized s)
row-bounded (Read row s d) double = (read-costs s double, read-sized s double)

pub row-bounds : RowBounds
row-bounds =
    record {
      least = λ i double. (row-bounded i double).0.0;
      most = λ i double. (row-bounded i double).0.1;
      words_least = λ i double. (row-bounded i double).1.0;
      words_most = λ i double. (row-bounded i double).1.1;
    }
