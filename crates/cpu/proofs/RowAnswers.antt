-- What a row's change leaves of the registers and the status is what the row's definition leaves of the machine begun.
use Prim.Native.Nat.{ℕ, ◌+◌, ◌/◌, ◌%◌, ◌<◌}
use mathlib.Core.Path.{◌≡◌, refl, ap, sym, ◌∙◌}
use mathlib.Core.Bool.{Bool, true, false, cond}
use mathlib.Core.List.{List, [], ◌∷◌}
use native.Mathlib.Omega.{arith}
use lib.Dec.{eqb, leb}
use lib.ListN.{get_or}
use Rattle.word.specs.declared.Flagged.{Flagged}
use Rattle.word.specs.Word.{wrap_add}
use Rattle.word.specs.Flags.{set_sz, status_word, from_status}
use Rattle.word.specs.Shifts.{shift_once, shift_twice, shift_of}
use Rattle.decode.specs.declared.Instr.{Instr}
use Rattle.decode.specs.declared.Instr.TheVariants.{Hlt, Control, Jump, Single, Gswd, Nop, Shift, Branch}
use Rattle.decode.specs.declared.rows.Row.{Row}
use Rattle.decode.specs.Fields.{branch_target, no_return, return_in, return_of, jump_target, interrupts_after}
use Rattle.decode.specs.Rows.{interruptible_entry, halt_entry, control_entry, jump_entry, register_entry, shift_entry, branch_cycles, branch_entry}
use Rattle.decode.proofs.OpcodeLaws.{by-eight}
use Rattle.cpu.specs.declared.Status.{Status}
use Rattle.cpu.specs.declared.change.Change.{Change}
use Rattle.cpu.specs.Machine.{Machine, register, with_register, set_registers, set_register, set_flags, set_i, beside, flags_of, result}
use Rattle.cpu.specs.Control.{save_in, jump}
use Rattle.cpu.specs.Single.{incr, decr, comr, negr, adcr, gswd, rswd, single, shifted, shift}
use Rattle.cpu.specs.Branch.{is_taken, branch}
use Rattle.cpu.specs.Inner.Parts.{flags_in}
use Rattle.cpu.specs.Inner.Change.{no_register, changed, status_after, writes_to, goes_to, begun_at, effect_at, cycles_at, Leaves}
use Rattle.cpu.specs.Inner.Control.{switched, return_register}
use Rattle.cpu.specs.Inner.Single.{single_result}
use Rattle.cpu.proofs.RowMarks.{shift-plain}
use Rattle.cpu.proofs.RegisterLaws.{other-register}

-- a register written with its own word
pub own_is : (n v : ℕ) (r : List ℕ) (d : ℕ) → d < 8 → with_register d (get_or (with_register n v r) d 0) (with_register n v r) ≡ with_register n v r
own_is n v r =
    by-eight (λ d. with_register d (get_or (with_register n v r) d 0) (with_register n v r) ≡ with_register n v r) refl refl refl refl refl refl refl refl

-- a result that is the register's own word sets the flags alone
pub result_own : (d : ℕ) (f : Flagged) (m : Machine) → with_register d (register d m) m.registers ≡ m.registers → f.value ≡ register d m → result d f m ≡ set_flags (flags_of f) m
unfolding result
result_own d f m own e =
    ap (λ (v : ℕ). set_flags (flags_of f) (set_register d v m)) e ∙ ap (λ (q : List ℕ). set_flags (flags_of f) (set_registers q m)) own

-- registers whose R7 is on already are the ones that the row sees
pub on-is : (next : ℕ) (r : List ℕ) → get_or r 7 0 ≡ next → (d : ℕ) → d < 8 → get_or (with_register 7 next r) d 0 ≡ get_or r d 0
on-is next r e =
    by-eight (λ d. get_or (with_register 7 next r) d 0 ≡ get_or r d 0) refl refl refl refl refl refl refl (sym e)

-- a register takes a result with its flags
pub writes-leave : (k : Status) (row : Row) → row.halts ≡ false → row.double ≡ false → (pc d : ℕ) (f : Flagged) (r : List ℕ) → changed (writes_to k row pc d f) r ≡ result d f (begun_at row pc r k)
unfolding result
writes-leave k row halts double pc d f r = rw (halts, double)

-- what SDBD to SETC answer, and the jumps: these write their own change
abbrev control_change : Status → ℕ → ℕ → Change
control_change k pc d =
    record {
      destination = no_register;
      value = 0;
      pointer = no_register;
      moved = 0;
      next = wrap_add pc (control_entry d).words;
      cycles = (control_entry d).cycles;
      status = status_after k (control_entry d) (record { value = 0; s = k.s; z = k.z; o = k.o; c = switched d 7 6 k.c }) (switched d 2 3 k.i);
    }

abbrev jump_change : Status → ℕ → ℕ → ℕ → Bool → Change
jump_change k pc destination next i =
    record {
      destination = destination;
      value = wrap_add pc jump_entry.words;
      pointer = no_register;
      moved = 0;
      next = next;
      cycles = jump_entry.cycles;
      status = status_after k jump_entry (beside 0 (flags_in k)) i;
    }

-- a shift by its number
shift-head : (d : ℕ) (m : Machine) (s : ℕ) → s < 8 → result (d % 4) (shift_of s (leb 4 d) (beside (register (d % 4) m) m.flags)) m ≡ shift s d m
unfolding shifted shift_of shift_once shift_twice
shift-head d m = by-eight (λ s. result (d % 4) (shift_of s (leb 4 d) (beside (register (d % 4) m) m.flags)) m ≡ shift s d m) refl refl refl refl refl refl refl refl

module _ (k : Status) (pc : ℕ) (r : List ℕ) (read : ℕ → ℕ) (external : ℕ) where
  -- a change that leaves what the instruction leaves
  abbrev Makes : Instr → Change → Type 0
  Makes i x = Leaves x r (effect_at i pc r k read external).machine (cycles_at i pc r k external)

  pub halt-leaves : Makes Hlt (goes_to k halt_entry (wrap_add pc halt_entry.words))
  unfolding halt_entry
  halt-leaves = record { machine = refl; costs = refl }

  pub control-leaves : (d : ℕ) → d < 8 → Makes (Control d) (control_change k pc d)
  unfolding control_entry switched
  control-leaves d h =
      record {
        machine = by-eight (λ d. changed (control_change k pc d) r ≡ (effect_at (Control d) pc r k read external).machine) refl refl refl refl refl refl refl refl d h;
        costs = refl;
      }

  -- n is the field of the return register
  jump-saves : (next : ℕ) (i : Bool) (n : ℕ) → n < 8 →
      changed (jump_change k pc (cond (eqb n 3) no_register (n + 4)) next i) r
      ≡ set_i i (set_register 7 next (save_in (get_or (return_in 4 ∷ return_in 5 ∷ return_in 6 ∷ []) n no_return) (begun_at jump_entry pc r k)))
  unfolding jump_entry interruptible_entry
  jump-saves next i =
      by-eight
      (λ n.
      changed (jump_change k pc (cond (eqb n 3) no_register (n + 4)) next i) r
      ≡ set_i i (set_register 7 next (save_in (get_or (return_in 4 ∷ return_in 5 ∷ return_in 6 ∷ []) n no_return) (begun_at jump_entry pc r k))))
      refl refl refl refl refl refl refl refl

  pub jump-leaves : (second third : ℕ) → second ≡ read (wrap_add pc 1) → third ≡ read (wrap_add pc 2) →
      Makes Jump (jump_change k pc (return_register second) (jump_target second third) (interrupts_after second k.i))
  unfolding jump return_register return_of
  jump-leaves second third e f =
      rw (sym e, sym f)
      (record { machine = jump-saves (jump_target second third) (interrupts_after second k.i) (second / 256 % 4) (omega arith); costs = refl })

  -- RSWD writes the register's own word, and the definition none
  single-head : (d : ℕ) → d < 8 → (s : ℕ) → s < 8 → (s ≡ 0 → ⊥) → (s ≡ 6 → ⊥) →
      result d (single_result s (beside (register d (begun_at register_entry pc r k)) (flags_in k))) (begun_at register_entry pc r k) ≡ single s d (begun_at register_entry pc r k)
  unfolding single_result incr decr comr negr adcr set_sz
  single-head d h =
      let m : Machine = begun_at register_entry pc r k in
      by-eight (λ s. (s ≡ 0 → ⊥) → (s ≡ 6 → ⊥) → result d (single_result s (beside (register d m) (flags_in k))) m ≡ single s d m)
      (λ a b. absurd (a refl))
      (λ a b. refl)
      (λ a b. refl)
      (λ a b. refl)
      (λ a b. refl)
      (λ a b. refl)
      (λ a b. absurd (b refl))
      (λ a b. unfold rswd from_status in result_own d (from_status (register d m)) m (own_is 7 (wrap_add pc register_entry.words) r d h) refl)

  pub single-leaves : (s d : ℕ) → get_or r 7 0 ≡ wrap_add pc 1 → s < 8 → (s ≡ 0 → ⊥) → (s ≡ 6 → ⊥) → d < 8 →
      Makes (Single s d) (writes_to k register_entry pc d (single_result s (beside (get_or r d 0) (flags_in k))))
  unfolding register_entry interruptible_entry
  single-leaves s d on low a b h =
      record {
        machine =
            writes-leave k register_entry refl refl pc d (single_result s (beside (get_or r d 0) (flags_in k))) r
            ∙ ap (λ (x : ℕ). result d (single_result s (beside x (flags_in k))) (begun_at register_entry pc r k)) (sym (on-is (wrap_add pc 1) r on d h))
            ∙ single-head d h s low a b;
        costs = refl;
      }

  pub gswd-leaves : (d : ℕ) → Makes (Gswd d) (writes_to k register_entry pc d (beside (status_word (beside 0 (flags_in k))) (flags_in k)))
  unfolding register_entry interruptible_entry gswd
  gswd-leaves d = record { machine = refl; costs = refl }

  pub idle-leaves : (n : ℕ) → Makes (Nop n) (goes_to k register_entry (wrap_add pc register_entry.words))
  unfolding register_entry interruptible_entry
  idle-leaves n = record { machine = refl; costs = refl }

  pub shift-leaves : (s d : ℕ) → s < 8 →
      Makes (Shift s d) (writes_to k (shift_entry d) pc (d % 4) (shift_of s (leb 4 d) (beside (get_or r (d % 4) 0) (flags_in k))))
  shift-leaves s d low =
      let row : Row = shift_entry d in
      record {
        machine =
            writes-leave k row (shift-plain d).1 (shift-plain d).0 pc (d % 4) (shift_of s (leb 4 d) (beside (get_or r (d % 4) 0) (flags_in k))) r
            ∙ ap (λ (x : ℕ). result (d % 4) (shift_of s (leb 4 d) (beside x (flags_in k))) (begun_at row pc r k)) (other-register r (wrap_add pc row.words) (d % 4) (omega arith) (omega arith))
            ∙ shift-head d (begun_at row pc r k) s low;
        costs = refl;
      }

  pub taken-leaves : (b : ℕ) → is_taken (flags_in k) external b ≡ true →
      Makes (Branch b) (goes_to k (branch_entry true) (branch_target pc b (read (wrap_add pc 1))))
  unfolding branch branch_entry interruptible_entry branch_cycles
  taken-leaves b e = rw e (record { machine = refl; costs = refl })

  pub not-taken-leaves : (b : ℕ) → is_taken (flags_in k) external b ≡ false →
      Makes (Branch b) (goes_to k (branch_entry false) (wrap_add pc (branch_entry false).words))
  unfolding branch branch_entry interruptible_entry branch_cycles
  not-taken-leaves b e = rw e (record { machine = refl; costs = refl })
