-- A step keeps eight registers, and registers and memory within 16-bit words: both row by row, in one proof over what is asked of a word.
use Prim.Native.Nat.{ℕ, zero, suc, ◌-◌, ◌%◌, ◌<◌}
use mathlib.Core.Path.{◌≡◌, refl}
use mathlib.Core.Bool.{Bool, true, false, cond}
use mathlib.Core.List.{List, [], ◌∷◌, map}
use native.Mathlib.Nat.{lt_of_le_of_lt}
use native.Mathlib.Omega.{arith}
use lib.Bits.{bit_and, bit_xor, and_le_l, xor_lt}
use lib.Dec.{eqb, leb, lit<}
use lib.ListN.{length}
use Rattle.std.proofs.Common.{Some}
use Rattle.word.specs.declared.Flagged.{Flagged}
use Rattle.word.specs.Word.{wrap_add, wrap_sub}
use Rattle.word.specs.Flags.{with_sign, add_of, subtract_of, status_word}
use Rattle.word.specs.Shifts.{shift_once, shift_twice, shift_of}
use Rattle.word.proofs.Choice.{cond_both}
use Rattle.word.proofs.WordLaws.{add_low, sub_low, status-low, shift-low}
use Rattle.memory.specs.Bus.{Bus, read_of, Store, keep, put, stored}
use Rattle.memory.specs.Laws.{BusWords}
use Rattle.memory.proofs.BusLaws.{bus-laws}
use Rattle.decode.specs.declared.Instr.{Instr}
use Rattle.decode.specs.declared.Instr.TheVariants.{Hlt, Control, Jump, Single, Gswd, Nop, Sin, Shift, Register, Branch, Store as StoreRow, Read}
use Rattle.decode.specs.declared.rows.Row.{Row}
use Rattle.decode.specs.Fields.{Mode, direct, through, rising, stack, immediate, mode_of, joined, is_backward, branch_target, Return, no_return, return_in, return_of, jump_target}
use Rattle.decode.specs.Rows.{row_of}
use Rattle.decode.proofs.Tables.{of-table}
use Rattle.cpu.specs.declared.Lines.{Lines}
use Rattle.cpu.specs.Machine.{Machine, register, with_register, set_register, beside, result}
use Rattle.cpu.specs.Control.{control_rows, control, save_in, jump}
use Rattle.cpu.specs.Single.{incr, decr, comr, negr, adcr, gswd, rswd, single_rows, single, shifted, shift_rows, shift}
use Rattle.cpu.specs.Operate.{movr, mvi, add, sub, cmp, and, xor, register_rows, register_row, read_rows, read_row}
use Rattle.cpu.specs.Branch.{is_taken, branch}
use Rattle.cpu.specs.Modes.{word, fetch_of, Effect, mvo}
use Rattle.cpu.specs.Execute.{begun, execute_of}
use Rattle.cpu.specs.Step.{Action, noted, refused_step, granted, interrupted, execution_words, executed_from, executed, action_of, step_of, decoded_reads}
use Rattle.cpu.specs.Laws.{KeepsEight, Sound, StaysSound}
use Rattle.cpu.proofs.ActionLaws.{by-action}

-- what is asked of a word, where all that the rows compute meets it
record Closed (W : ℕ → Type 0) : Type 0 where
  none : W 0
  entry : W 0x1004
  sum : (x y : ℕ) → W (wrap_add x y)
  difference : (x y : ℕ) → W (wrap_sub x y)
  status : (f : Flagged) → W (status_word f)
  shifts : (f : Flagged) → W f.value → (n : ℕ) (twice : Bool) → W (shift_of n twice f).value
  ands : (x y : ℕ) → W x → W (bit_and x y)
  xors : (x y : ℕ) → W x → W y → W (bit_xor x y)
  joins : (low high : ℕ) → W (joined low high)
  jumps : (second third : ℕ) → W (jump_target second third)

-- eight registers that meet it
record Fits (W : ℕ → Type 0) (m : Machine) : Type 0 where
  eight : length m.registers ≡ 8
  words : (n : ℕ) → W (register n m)

module _ (W : ℕ → Type 0) (c : Closed W) where
  abbrev StoreFits : Store → Type 0
  StoreFits keep = Unit
  StoreFits (put a w) = W w

  abbrev EffectFits : Effect → Type 0
  EffectFits e = Fits W e.machine × StoreFits e.store

  -- a word written, a result, and the machine begun
  set-fits : (n v : ℕ) (m : Machine) → Fits W m → W v → Fits W (set_register n v m)
  set-fits n v m h p =
      let at : (k : ℕ) → W (cond (eqb n k) v (register k m)) = λ k. cond_both W (eqb n k) p (h.words k) in
      record {
        eight = refl;
        words = λ k. of-table W (with_register n v m.registers) k 0 (at 0, (at 1, (at 2, (at 3, (at 4, (at 5, (at 6, (at 7, tt)))))))) c.none;
      }

  result_fits : (d : ℕ) (f : Flagged) (m : Machine) → Fits W m → W f.value → Fits W (result d f m)
  unfolding result
  result_fits d f m h p = let q = set-fits d f.value m h p in record { eight = q.eight; words = q.words }

  begun-fits : (row : Row) (m : Machine) → Fits W m → Fits W (begun row m)
  unfolding begun
  begun-fits row m h = let q = set-fits 7 _ m h (c.sum _ _) in record { eight = q.eight; words = q.words }

  module _ (m : Machine) (h : Fits W m) where
    control-fits : (d : ℕ) → Fits W (control d m)
    control-fits d =
        of-table (Fits W) (control_rows m) d m
        (h, (record { eight = h.eight; words = h.words }, (record { eight = h.eight; words = h.words }, (record { eight = h.eight; words = h.words }, (h, (h, (record { eight = h.eight; words = h.words }, (record { eight = h.eight; words = h.words }, tt))))))))
        h

    save-fits : (r : Return) → Fits W (save_in r m)
    save-fits no_return = h
    save-fits (return_in n) = set-fits n _ m h (h.words 7)

    jump_fits : (second third : ℕ) → Fits W (jump second third m)
    unfolding jump
    jump_fits second third =
        let q = set-fits 7 _ (save_in (return_of second) m) (save-fits (return_of second)) (c.jumps second third) in
        record { eight = q.eight; words = q.words }

    single-fits : (s d : ℕ) → Fits W (single s d m)
    unfolding incr decr comr negr adcr rswd with_sign add_of subtract_of
    single-fits s d =
        of-table (Fits W) (single_rows d m) s m
        (h, (result_fits d _ m h (c.sum _ _), (result_fits d _ m h (c.difference _ _), (result_fits d _ m h (c.difference _ _), (result_fits d _ m h (c.difference _ _), (result_fits d _ m h (c.sum _ _), (h, (record { eight = h.eight; words = h.words }, tt))))))))
        h

    gswd-fits : (d : ℕ) → Fits W (gswd d m)
    unfolding gswd
    gswd-fits d = set-fits d _ m h (c.status _)

    shift_fits : (s d : ℕ) → Fits W (shift s d m)
    unfolding shifted shift_of shift_once shift_twice
    shift_fits s d =
        let x : Flagged = beside (register (d % 4) m) m.flags in
        let by : (n : ℕ) → W (shift_of n (leb 4 d) x).value = λ n. c.shifts x (h.words (d % 4)) n (leb 4 d) in
        of-table (Fits W) (shift_rows d m) s m
        (result_fits (d % 4) _ m h (by 0), (result_fits (d % 4) _ m h (by 1), (result_fits (d % 4) _ m h (by 2), (result_fits (d % 4) _ m h (by 3), (result_fits (d % 4) _ m h (by 4), (result_fits (d % 4) _ m h (by 5), (result_fits (d % 4) _ m h (by 6), (result_fits (d % 4) _ m h (by 7), tt))))))))
        h

    register-fits : (n y d : ℕ) → W y → Fits W (register_row n y d m)
    unfolding movr add sub cmp and xor with_sign add_of subtract_of
    register-fits n y d p =
        of-table (Fits W) (register_rows y d m) n m
        (result_fits d _ m h p, (result_fits d _ m h (c.sum _ _), (result_fits d _ m h (c.difference _ _), (record { eight = h.eight; words = h.words }, (result_fits d _ m h (c.ands _ y (h.words d)), (result_fits d _ m h (c.xors _ y (h.words d) p), tt))))))
        h

    read_fits : (n y d : ℕ) → W y → Fits W (read_row n y d m)
    unfolding mvi add sub cmp and xor with_sign add_of subtract_of
    read_fits n y d p =
        of-table (Fits W) (read_rows y d m) n m
        (set-fits d y m h p, (result_fits d _ m h (c.sum _ _), (result_fits d _ m h (c.difference _ _), (record { eight = h.eight; words = h.words }, (result_fits d _ m h (c.ands _ y (h.words d)), (result_fits d _ m h (c.xors _ y (h.words d) p), tt))))))
        h

    branch_fits : (b external at displacement : ℕ) → Fits W (branch b external at displacement m)
    unfolding branch branch_target
    branch_fits b external at displacement =
        cond_both (Fits W) (is_taken m.flags external b) (set-fits 7 _ m h (cond_both W (is_backward b) (c.difference _ _) (c.sum _ _))) h

    -- the machine that a fetch leaves
    after-fits : (mode : Mode) (double : Bool) (at : ℕ) → Fits W (fetch_of mode double at m).after
    after-fits direct double at = h
    after-fits (through p) false at = h
    after-fits (through p) true at = h
    after-fits (rising p) false at = set-fits p _ m h (c.sum _ _)
    after-fits (rising p) true at = set-fits p _ m h (c.sum _ _)
    after-fits stack double at = set-fits 6 _ m h (c.difference _ _)
    after-fits immediate false at = h
    after-fits immediate true at = h

    -- MVO's machine and its word
    mvo-fits : (mode : Mode) (d : ℕ) (words : List ℕ) (at : ℕ) → EffectFits (mvo mode d words at m)
    mvo-fits direct d words at = (h, h.words d)
    mvo-fits (through p) d words at = (h, h.words d)
    mvo-fits (rising p) d words at = (set-fits p _ m h (c.sum _ _), h.words d)
    mvo-fits stack d words at = (set-fits 6 _ m h (c.sum _ _), h.words d)
    mvo-fits immediate d words at = (h, (set-fits 7 _ m h (c.sum _ _)).words d)

  -- the words that are read, and the operand from them
  abbrev WordsFit : List ℕ → Type 0
  WordsFit words = (n : ℕ) → W (word n words)

  words_fit : (read : ℕ → ℕ) → ((a : ℕ) → W (read a)) → (xs : List ℕ) → WordsFit (map read xs)
  words_fit read r [] n = c.none
  words_fit read r (x ∷ xs) zero = r x
  words_fit read r (x ∷ xs) (suc n) = words_fit read r xs n

  operand-fits : (mode : Mode) (double : Bool) (at : ℕ) (m : Machine) (words : List ℕ) → WordsFit words → W ((fetch_of mode double at m).operand words)
  operand-fits direct double at m words r = r 1
  operand-fits (through p) false at m words r = r 0
  operand-fits (through p) true at m words r = c.joins _ _
  operand-fits (rising p) false at m words r = r 0
  operand-fits (rising p) true at m words r = c.joins _ _
  operand-fits stack double at m words r = r 0
  operand-fits immediate false at m words r = r 0
  operand-fits immediate true at m words r = c.joins _ _

  execute-fits : (i : Instr) (double : Bool) (words : List ℕ) (at external : ℕ) (m : Machine) → Fits W m → WordsFit words → EffectFits (execute_of i double words at external m)
  execute-fits Hlt double words at external m h r = (record { eight = h.eight; words = h.words }, tt)
  execute-fits (Control d) double words at external m h r = (control-fits m h d, tt)
  execute-fits Jump double words at external m h r = (jump_fits m h _ _, tt)
  execute-fits (Single s d) double words at external m h r = (single-fits m h s d, tt)
  execute-fits (Gswd d) double words at external m h r = (gswd-fits m h d, tt)
  execute-fits (Nop n) double words at external m h r = (h, tt)
  execute-fits (Sin n) double words at external m h r = (h, tt)
  execute-fits (Shift s d) double words at external m h r = (shift_fits m h s d, tt)
  execute-fits (Register row s d) double words at external m h r = (register-fits m h (row - 2) (register s m) d (h.words s), tt)
  execute-fits (Branch b) double words at external m h r = (branch_fits m h b external at _, tt)
  execute-fits (StoreRow s d) double words at external m h r = mvo-fits m h (mode_of s) d words at
  execute-fits (Read row s d) double words at external m h r = (
    read_fits _ (after-fits m h (mode_of s) double at) (row - 10) _ d (operand-fits (mode_of s) double at m words r),
    tt,
  )

  action-fits : (m : Machine) (b : Bus) (l : Lines) → Fits W m → ((a : ℕ) → W (read_of b a)) → Fits W (action_of m b l).machine × StoreFits (action_of m b l).store
  unfolding refused_step granted interrupted executed_from executed execution_words noted
  action-fits m b l h r =
      let k : Machine = noted m l in
      let q : Fits W k = record { eight = h.eight; words = h.words } in
      by-action (λ (x : Action). Fits W x.machine × StoreFits x.store) m b l
      (λ n. (h, tt))
      (q, tt)
      (let p = set-fits 7 0x1004 _ (set-fits 6 _ k q (c.sum _ _)) c.entry in (record { eight = p.eight; words = p.words }, q.words 7))
      (λ i. execute-fits i m.switches.d _ (register 7 m) l.external (begun (row_of i m.switches.d) k) (begun-fits _ k q)
      (words_fit (read_of b) r (decoded_reads (Some i) k b)))

-- asked nothing of the words: eight registers
anything : Closed (λ n. Unit)
anything =
    record {
      none = tt;
      entry = tt;
      sum = λ x y. tt;
      difference = λ x y. tt;
      status = λ f. tt;
      shifts = λ f p n twice. tt;
      ands = λ x y p. tt;
      xors = λ x y p q. tt;
      joins = λ low high. tt;
      jumps = λ second third. tt;
    }

pub keeps-eight : KeepsEight
unfolding step_of
keeps-eight m b l h = (action-fits (λ n. Unit) anything m b l (record { eight = h; words = λ n. tt }) (λ a. tt)).0.eight

-- asked that they have 16 bits
abbrev pub Word : ℕ → Type 0
Word n = n < 65536

sixteen : Closed Word
unfolding joined jump_target
sixteen =
    record {
      none = lit< tt;
      entry = lit< tt;
      sum = add_low;
      difference = sub_low;
      status = status-low;
      shifts = shift-low;
      ands = λ x y p. lt_of_le_of_lt (and_le_l x y) p;
      xors = xor_lt 16;
      joins = λ low high. omega arith;
      jumps = λ second third. omega arith;
    }

stored-words : (b : Bus) (s : Store) → BusWords b → StoreFits Word sixteen s → BusWords (stored b s)
stored-words b keep h p = h
stored-words b (put a w) h p = bus-laws.keeps_words b a w h p

pub stays-sound : StaysSound
unfolding step_of
stays-sound m b l h r =
    let a = action-fits Word sixteen m b l (record { eight = h.eight; words = h.words }) r in
    (record { eight = a.0.eight; words = a.0.words }, stored-words b (action_of m b l).store r a.1)

-- the machine begun, its machine after a fetch, and the operand
module _ (m : Machine) (b : Bus) (h : Sound m) (r : BusWords b) where
  pub begun-sound : (row : Row) → Sound (begun row m)
  begun-sound row = let q = begun-fits Word sixteen row m (record { eight = h.eight; words = h.words }) in record { eight = q.eight; words = q.words }

  pub fetched-sound : (mode : Mode) (double : Bool) (at : ℕ) → Sound (fetch_of mode double at m).after
  fetched-sound mode double at =
      let q = after-fits Word sixteen m (record { eight = h.eight; words = h.words }) mode double at in record { eight = q.eight; words = q.words }

  pub operand_low : (mode : Mode) (double : Bool) (at : ℕ) (xs : List ℕ) → Word ((fetch_of mode double at m).operand (map (read_of b) xs))
  operand_low mode double at xs = operand-fits Word sixteen mode double at m (map (read_of b) xs) (words_fit Word sixteen (read_of b) r xs)
