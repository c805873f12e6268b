-- What an instruction leaves beside its result is its row's: D, ready, halted, and R7 where it is not interruptible.
use Prim.Native.Nat.{ℕ, zero, suc, ◌-◌, ◌%◌}
use mathlib.Core.Path.{◌≡◌, refl, ap, sym, ◌∙◌}
use mathlib.Core.Bool.{Bool, true, false, not, true≢false}
use mathlib.Core.List.{List}
use native.Mathlib.Omega.{arith}
use lib.Dec.{ltb}
use borrow.Author.Tests.{ne_eqb}
use Rattle.word.specs.declared.Flagged.{Flagged}
use Rattle.word.proofs.Choice.{cond_both}
use Rattle.decode.specs.declared.Instr.TheVariants.{Hlt, Control, Jump, Single, Gswd, Nop, Sin, Shift, Register, Branch, Store as StoreRow, Read}
use Rattle.decode.specs.declared.rows.Row.{Row}
use Rattle.decode.specs.Fields.{Mode, direct, through, rising, stack, immediate, modes, mode_of, is_nopp, Return, no_return, return_in, return_of}
use Rattle.decode.specs.Rows.{interruptible_entry, plain_entry, halt_entry, control_entry, jump_entry, register_entry, shift_entry, operate_entry, branch_entry, store_entry, read_entry}
use Rattle.decode.proofs.Tables.{of-table}
use Rattle.cpu.specs.Machine.{Running, Machine, register, result}
use Rattle.cpu.specs.Control.{control, save_in, jump}
use Rattle.cpu.specs.Single.{incr, decr, comr, negr, adcr, gswd, rswd, single_rows, single, shifted, shift_rows, shift}
use Rattle.cpu.specs.Operate.{movr, mvi, add, sub, cmp, and, xor, register_rows, register_row, read_rows, read_row}
use Rattle.cpu.specs.Branch.{is_taken, branch}
use Rattle.cpu.specs.Modes.{Fetch, fetch_of, mvo}
use Rattle.cpu.specs.Execute.{begun, read_through}
use Rattle.cpu.specs.Step.{execution_words, executed_from, executed}
use Rattle.cpu.specs.Laws.{ByItsRow, GoesByItsRow}

-- a row that leaves D, halted and ready as they are
abbrev Keeps : Machine → Machine → Type 0
Keeps m after = (after.switches.d ≡ m.switches.d) × (after.running ≡ m.running)

-- .. and R7 too
abbrev InLine : Machine → Machine → Type 0
InLine m after = Keeps m after × (register 7 after ≡ register 7 m)

contrary : {A : Type 0} {b : Bool} → b ≡ true → b ≡ false → A
contrary p q = absurd (true≢false (sym p ∙ q))

-- the row's marks, of a machine that keeps those with which it began
module _ (row : Row) (m : Machine) (double : row.double ≡ false) (halts : row.halts ≡ false) where
  by-keeping : (after : Machine) → Keeps (begun row m) after → (row.interruptible ≡ false → register 7 after ≡ register 7 (begun row m)) → ByItsRow row m after
  unfolding begun
  by-keeping after h r =
      record {
        double = h.0 ∙ sym double;
        ready = ap (λ (x : Running). x.ready) h.1;
        halted = λ e. ap (λ (x : Running). x.halted) h.1 ∙ e ∙ sym halts;
        in_line = r;
      }

  interruptible-row : row.interruptible ≡ true → (after : Machine) → Keeps (begun row m) after → ByItsRow row m after
  interruptible-row t after h = by-keeping after h (λ e. contrary t e)

  line_row : (after : Machine) → InLine (begun row m) after → ByItsRow row m after
  line_row after h = by-keeping after h.0 (λ e. h.1)

single-keeps : (s d : ℕ) (m : Machine) → Keeps m (single s d m)
unfolding incr decr comr negr adcr rswd result
single-keeps s d m =
    of-table (Keeps m) (single_rows d m) s m
    ((refl, refl), ((refl, refl), ((refl, refl), ((refl, refl), ((refl, refl), ((refl, refl), ((refl, refl), ((refl, refl), tt))))))))
    (refl, refl)

-- a shift writes R0 to R3
shifted-line : (once twice : Flagged → Flagged) (d : ℕ) (m : Machine) → InLine m (shifted once twice d m)
unfolding shifted result
shifted-line once twice d m = ((refl, refl), rw (ne_eqb (d % 4) 7 (omega arith)))

shift_line : (s d : ℕ) (m : Machine) → InLine m (shift s d m)
shift_line s d m =
    of-table (InLine m) (shift_rows d m) s m
    (shifted-line _ _ d m, (shifted-line _ _ d m, (shifted-line _ _ d m, (shifted-line _ _ d m, (shifted-line _ _ d m, (shifted-line _ _ d m, (shifted-line _ _ d m, (shifted-line _ _ d m, tt))))))))
    ((refl, refl), refl)

branch_keeps : (b external at displacement : ℕ) (m : Machine) → Keeps m (branch b external at displacement m)
unfolding branch
branch_keeps b external at displacement m = cond_both (Keeps m) (is_taken m.flags external b) (refl, refl) (refl, refl)

-- a store moves R4, R5 or R6
store_line : (s d : ℕ) (words : List ℕ) (at : ℕ) (m : Machine) → InLine m (mvo (mode_of s) d words at m).machine
store_line s d words at m =
    let line : InLine m m = ((refl, refl), refl) in
    of-table (λ (mode : Mode). InLine m (mvo mode d words at m).machine) modes s stack
    (line, (line, (line, (line, (((refl, refl), refl), (((refl, refl), refl), (((refl, refl), refl), (line, tt))))))))
    ((refl, refl), refl)

register-keeps : (n y d : ℕ) (m : Machine) → Keeps m (register_row n y d m)
unfolding movr add sub cmp and xor result
register-keeps n y d m = of-table (Keeps m) (register_rows y d m) n m ((refl, refl), ((refl, refl), ((refl, refl), ((refl, refl), ((refl, refl), ((refl, refl), tt)))))) (refl, refl)

read_keeps : (n y d : ℕ) (m : Machine) → Keeps m (read_row n y d m)
unfolding mvi add sub cmp and xor result
read_keeps n y d m = of-table (Keeps m) (read_rows y d m) n m ((refl, refl), ((refl, refl), ((refl, refl), ((refl, refl), ((refl, refl), ((refl, refl), tt)))))) (refl, refl)

fetch-keeps : (mode : Mode) (double : Bool) (at : ℕ) (m : Machine) → Keeps m (fetch_of mode double at m).after
fetch-keeps direct double at m = (refl, refl)
fetch-keeps (through p) false at m = (refl, refl)
fetch-keeps (through p) true at m = (refl, refl)
fetch-keeps (rising p) false at m = (refl, refl)
fetch-keeps (rising p) true at m = (refl, refl)
fetch-keeps stack double at m = (refl, refl)
fetch-keeps immediate false at m = (refl, refl)
fetch-keeps immediate true at m = (refl, refl)

keeps-through : (m n k : Machine) → Keeps m n → Keeps n k → Keeps m k
keeps-through m n k p q = (q.0 ∙ p.0, q.1 ∙ p.1)

save-keeps : (r : Return) (m : Machine) → Keeps m (save_in r m)
save-keeps no_return m = (refl, refl)
save-keeps (return_in n) m = (refl, refl)

jump-keeps : (second third : ℕ) (m : Machine) → Keeps m (jump second third m)
unfolding jump
jump-keeps second third m = save-keeps (return_of second) m

-- SDBD sets D
control-marks : (d : ℕ) (m : Machine) → ByItsRow (control_entry d) m (control d (begun (control_entry d) m))
unfolding begun control_entry
control-marks zero m = record { double = refl; ready = refl; halted = λ e. e; in_line = λ e. refl }
control-marks (suc zero) m = record { double = refl; ready = refl; halted = λ e. e; in_line = λ e. refl }
control-marks (suc (suc zero)) m = record { double = refl; ready = refl; halted = λ e. e; in_line = λ e. refl }
control-marks (suc (suc (suc zero))) m = record { double = refl; ready = refl; halted = λ e. e; in_line = λ e. refl }
control-marks (suc (suc (suc (suc zero)))) m = record { double = refl; ready = refl; halted = λ e. e; in_line = λ e. refl }
control-marks (suc (suc (suc (suc (suc zero))))) m = record { double = refl; ready = refl; halted = λ e. e; in_line = λ e. refl }
control-marks (suc (suc (suc (suc (suc (suc zero)))))) m = record { double = refl; ready = refl; halted = λ e. e; in_line = λ e. refl }
control-marks (suc (suc (suc (suc (suc (suc (suc zero))))))) m = record { double = refl; ready = refl; halted = λ e. e; in_line = λ e. refl }
control-marks (suc (suc (suc (suc (suc (suc (suc (suc d)))))))) m =
    rw (ne_eqb (suc (suc (suc (suc (suc (suc (suc (suc d)))))))) 1 (omega arith)) (record { double = refl; ready = refl; halted = λ e. e; in_line = λ e. refl })

-- no mark of the shifts depends on which of their entries it is
pub shift-plain : (d : ℕ) → ((shift_entry d).double ≡ false) × ((shift_entry d).halts ≡ false)
unfolding shift_entry plain_entry
shift-plain d = cond_both (λ (x : Row). (x.double ≡ false) × (x.halts ≡ false)) (ltb d 4) (refl, refl) (refl, refl)

pub goes-by-its-row : GoesByItsRow
unfolding executed executed_from interruptible_entry plain_entry halt_entry jump_entry register_entry branch_entry store_entry read_entry
goes-by-its-row Hlt m b l = unfold begun in record { double = refl; ready = refl; halted = λ e. refl; in_line = λ e. refl }
goes-by-its-row (Control d) m b l = control-marks d m
goes-by-its-row Jump m b l = interruptible-row jump_entry m refl refl refl _ (jump-keeps _ _ (begun jump_entry m))
goes-by-its-row (Single s d) m b l = interruptible-row register_entry m refl refl refl _ (single-keeps s d (begun register_entry m))
goes-by-its-row (Gswd d) m b l = unfold gswd in interruptible-row register_entry m refl refl refl _ (refl, refl)
goes-by-its-row (Nop n) m b l = interruptible-row register_entry m refl refl refl _ (refl, refl)
goes-by-its-row (Sin n) m b l = interruptible-row register_entry m refl refl refl _ (refl, refl)
goes-by-its-row (Shift s d) m b l =
    let p = shift-plain d in line_row (shift_entry d) m p.0 p.1 _ (shift_line s d (begun (shift_entry d) m))
goes-by-its-row (Register n s d) m b l =
    let k : Machine = begun (operate_entry n d) m in
    interruptible-row (operate_entry n d) m refl refl refl _ (register-keeps (n - 2) (register s k) d k)
goes-by-its-row (Branch w) m b l =
    interruptible-row (branch_entry (not (is_nopp w))) m refl refl refl _ (branch_keeps w l.external (register 7 m) _ (begun (branch_entry (not (is_nopp w))) m))
goes-by-its-row (StoreRow s d) m b l = line_row (store_entry s) m refl refl _ (store_line s d _ (register 7 m) (begun (store_entry s) m))
goes-by-its-row (Read n s d) m b l =
    let r : Row = read_entry s m.switches.d in
    let k : Machine = begun r m in
    let f : Fetch = fetch_of (mode_of s) m.switches.d (register 7 m) k in
    let words : List ℕ = execution_words m b (Read n s d) in
    interruptible-row r m refl refl refl _
    (keeps-through k f.after (read_through (n - 10) d f words) (fetch-keeps (mode_of s) m.switches.d (register 7 m) k) (read_keeps (n - 10) (f.operand words) d f.after))
