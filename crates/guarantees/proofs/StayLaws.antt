-- R7 after an instruction that does not write its result there: in line, or where its branch or jump goes. So a step goes on at a successor.
use Rattle.std.proofs.Common.{Some}
use Prim.Native.Nat.{ℕ, ◌-◌, ◌%◌, ◌/◌}
use mathlib.Core.Path.{◌≡◌, refl, sym, ap, ap₂, ◌∙◌, subst}
use mathlib.Core.Bool.{Bool, true, false, cond, not, ◌&&◌, ◌||◌, true≢false}
use mathlib.Core.List.Memᴰ
use mathlib.Core.List.{List, [], ◌∷◌}
use native.Mathlib.Omega.{arith}
use borrow.Author.Tests.{eqb-true, ne_eqb}
use lib.Dec.{eqb, ltb}
use Rattle.word.specs.Word.{wrap_add, wrap_sub}
use Rattle.word.proofs.Choice.{cond-false, cond_both}
use Rattle.memory.specs.Memory.{peek_of}
use Rattle.memory.specs.Bus.{Bus, read_of, admission_of}
use Rattle.decode.specs.declared.Instr.{Instr}
use Rattle.decode.specs.declared.Instr.TheVariants.{Hlt, Control, Jump, Single, Gswd, Nop, Sin, Shift, Register, Branch, Store as StoreRow, Read}
use Rattle.decode.specs.declared.rows.Row.{Row}
use Rattle.decode.specs.Fields.{Mode, stack, modes, mode_of, branch_target, is_always, is_nopp, Return, no_return, return_in, return_of, jump_target}
use Rattle.decode.specs.Decode.{instruction_of, writes_r7, is_unspecified, decode_at}
use Rattle.decode.specs.Rows.{interruptible_entry, plain_entry, halt_entry, control_entry, jump_entry, register_entry, shift_entry, operate_entry, branch_cycles, branch_entry, store_entry, read_entry, row_of}
use Rattle.decode.specs.Laws.{InRange}
use Rattle.decode.proofs.DecodeLaws.{decodes-in-range}
use Rattle.decode.proofs.Tables.{of-table}
use Rattle.cpu.specs.declared.Lines.{Lines}
use Rattle.cpu.specs.Machine.{Flags, Machine, register, set_register, result, seen_by}
use Rattle.cpu.specs.Control.{jump}
use Rattle.cpu.specs.Single.{incr, decr, comr, negr, adcr, gswd, rswd, single_rows, single}
use Rattle.cpu.specs.Operate.{movr, mvi, add, sub, cmp, and, xor, register_rows, register_row, read_rows, read_row}
use Rattle.cpu.specs.Branch.{condition_holds, is_taken, branch}
use Rattle.cpu.specs.Modes.{Fetch, fetch_of}
use Rattle.cpu.specs.Execute.{begun}
use Rattle.cpu.specs.Step.{noted, plan_of, execution_words, executed_from, executed, admitted_action, action_of, Outcome, step_of}
use Rattle.cpu.specs.Steps.{steps_from}
use Rattle.cpu.proofs.ActionLaws.{step-executes}
use Rattle.cpu.proofs.BranchLaws.{nopp-untaken}
use Rattle.cpu.proofs.RowMarks.{goes-by-its-row}
use Rattle.reach.specs.declared.Node.{Node}
use Rattle.reach.specs.Ways.{node_at, clear_at, onward_of, branch_ways, jump_ways, instruction_ways, decoded_ways, successors}
use Rattle.reach.specs.Paths.{◌∈◌, onward, Reached}
use Rattle.guarantees.specs.Reached.{branch_and_data}
use Rattle.guarantees.specs.Stays.{node_of, StepsOn, OnPath, AllReached, StaysReached, unrequested, StaysInstance}

-- an instruction that keeps R7 where it began, behind its words
abbrev Same7 : Machine → Machine → Type 0
Same7 m after = register 7 after ≡ register 7 m

-- a result in another register
module _ (d : ℕ) (e : eqb d 7 ≡ false) (m : Machine) where
  single-other : (s : ℕ) → Same7 m (single s d m)
  unfolding incr decr comr negr adcr rswd result
  single-other s = of-table (Same7 m) (single_rows d m) s m (refl, (rw e, (rw e, (rw e, (rw e, (rw e, (refl, (refl, tt)))))))) refl

  register-other : (n y : ℕ) → Same7 m (register_row n y d m)
  unfolding movr add sub cmp and xor result
  register-other n y = of-table (Same7 m) (register_rows y d m) n m (rw e, (rw e, (rw e, (refl, (rw e, (rw e, tt)))))) refl

  read-other : (n y : ℕ) → Same7 m (read_row n y d m)
  unfolding mvi add sub cmp and xor result
  read-other n y = of-table (Same7 m) (read_rows y d m) n m (rw e, (rw e, (rw e, (refl, (rw e, (rw e, tt)))))) refl

-- a compare, and RSWD, write no register
compare_same : (y d : ℕ) (m : Machine) → Same7 m (cmp d y m)
unfolding cmp
compare_same y d m = refl

-- what keeps R7 by its d or by its row
split-false : {A : Type 0} (b c : Bool) → (b && not c) ≡ false → (b ≡ false → A) → (c ≡ true → A) → A
split-false true true h f g = g refl
split-false true false h f g = absurd (true≢false h)
split-false false c h f g = f refl

single-same : (s d : ℕ) (m : Machine) → (eqb d 7 && not (eqb s 7)) ≡ false → Same7 m (single s d m)
unfolding rswd
single-same s d m h =
    split-false (eqb d 7) (eqb s 7) h (λ e. single-other d e m s) (λ e. let q : s ≡ 7 = eqb-true s 7 e in rw q)

register-same : (row y d : ℕ) (m : Machine) → (eqb d 7 && not (eqb row 5)) ≡ false → Same7 m (register_row (row - 2) y d m)
register-same row y d m h =
    split-false (eqb d 7) (eqb row 5) h (λ e. register-other d e m (row - 2) y) (λ e. let q : row ≡ 5 = eqb-true row 5 e in rw q (compare_same y d m))

read_same : (row y d : ℕ) (m : Machine) → (eqb d 7 && not (eqb row 13)) ≡ false → Same7 m (read_row (row - 10) y d m)
read_same row y d m h =
    split-false (eqb d 7) (eqb row 13) h (λ e. read-other d e m (row - 10) y) (λ e. let q : row ≡ 13 = eqb-true row 13 e in rw q (compare_same y d m))

-- a read's pointer is another register
fetch-same : (s : ℕ) (double : Bool) (at : ℕ) (m : Machine) → Same7 m (fetch_of (mode_of s) double at m).after
fetch-same s true at m =
    of-table (λ (mode : Mode). Same7 m (fetch_of mode true at m).after) modes s stack (refl, (refl, (refl, (refl, (refl, (refl, (refl, (refl, tt)))))))) refl
fetch-same s false at m =
    of-table (λ (mode : Mode). Same7 m (fetch_of mode false at m).after) modes s stack (refl, (refl, (refl, (refl, (refl, (refl, (refl, (refl, tt)))))))) refl

-- B is always taken
always-taken : (f : Flags) (external b : ℕ) → is_always b ≡ true → is_taken f external b ≡ true
unfolding is_taken condition_holds
always-taken f external b e =
    let n : b % 32 ≡ 0 = eqb-true (b % 32) 0 e in
    let p : b / 16 % 2 ≡ 0 = omega arith in
    let q : b / 8 % 2 ≡ 0 = omega arith in
    let r : b % 8 ≡ 0 = omega arith in
    rw (p, q, r)

-- a branch goes to its target if it is taken, and on if not: to one of its ways
branch_in : (next target : Node) (b : ℕ) (taken : Bool) → (is_always b ≡ true → taken ≡ true) → (is_nopp b ≡ true → taken ≡ false) → cond taken target next ∈ branch_ways next target b
unfolding branch_ways
branch_in next target b taken p q = go (is_always b) (is_nopp b) taken p q
  where
    go : (always nopp taken : Bool) → (always ≡ true → taken ≡ true) → (nopp ≡ true → taken ≡ false) →
        cond taken target next ∈ cond always (target ∷ []) (cond nopp (next ∷ []) (next ∷ target ∷ []))
    go true nopp true p q = Memᴰ.head refl
    go true nopp false p q = absurd (true≢false (sym (p refl)))
    go false true true p q = absurd (true≢false (q refl))
    go false true false p q = Memᴰ.head refl
    go false false true p q = Memᴰ.tail (Memᴰ.head refl)
    go false false false p q = Memᴰ.head refl

goes_to : (t : Bool) (v : ℕ) (m : Machine) → register 7 (cond t (set_register 7 v m) m) ≡ cond t v (register 7 m)
goes_to true v m = refl
goes_to false v m = refl

node_by : (t : Bool) (x y : ℕ) → clear_at (cond t x y) ≡ cond t (clear_at x) (clear_at y)
node_by true x y = refl
node_by false x y = refl

-- no shift is heard
shift-unheard : (d : ℕ) → (shift_entry d).interruptible ≡ false
unfolding shift_entry plain_entry
shift-unheard d = cond_both (λ (x : Row). x.interruptible ≡ false) (ltb d 4) refl refl

-- a jump goes to its target
jump_in : (next target : Node) (r : Return) → target ∈ jump_ways next target r
unfolding jump_ways
jump_in next target no_return = Memᴰ.head refl
jump_in next target (return_in n) = Memᴰ.tail (Memᴰ.head refl)

-- where an instruction goes on: each kind of row
module _ (m : Machine) (b : Bus) (l : Lines) where
  after : Instr → Machine
  after i = (executed m b l i).machine

  -- the D that it leaves is its row's
  at_row : (i : Instr) {a : ℕ} → register 7 (after i) ≡ a → node_of (after i) ≡ node_at a (row_of i m.switches.d).double
  unfolding after
  at_row i e = ap₂ node_at e (goes-by-its-row i m b l).double

  -- in line
  line-in : (i : Instr) → register 7 (after i) ≡ wrap_add (register 7 m) (row_of i m.switches.d).words → node_of (after i) ∈ onward_of (node_of m) (row_of i m.switches.d) ∷ []
  line-in i e = Memᴰ.head (at_row i e)

  goes : (i : Instr) → InRange i → (row_of i m.switches.d).halts ≡ false → writes_r7 i ≡ false → node_of (after i) ∈ instruction_ways (read_of b) (node_of m) (row_of i m.switches.d) i
  unfolding after executed executed_from execution_words begun interruptible_entry plain_entry halt_entry control_entry jump_entry register_entry branch_entry store_entry read_entry jump gswd branch
  goes Hlt k h w = absurd (true≢false h)
  goes (Control d) k h w = line-in (Control d) ((goes-by-its-row (Control d) m b l).in_line refl)
  goes Jump k h w =
      let second : ℕ = read_of b (wrap_add (register 7 m) 1) in
      let target : ℕ = jump_target second (read_of b (wrap_add (register 7 m) 2)) in
      let e : node_of (after Jump) ≡ clear_at target = at_row Jump refl in
      subst (λ (n : Node). n ∈ jump_ways (onward_of (node_of m) jump_entry) (clear_at target) (return_of second)) (sym e) (jump_in (onward_of (node_of m) jump_entry) (clear_at target) (return_of second))
  goes (Single s d) k h w = line-in (Single s d) (single-same s d (begun register_entry m) w)
  goes (Gswd d) k h w = line-in (Gswd d) (rw (ne_eqb d 7 (omega (arith, k))))
  goes (Nop n) k h w = line-in (Nop n) refl
  goes (Sin n) k h w = line-in (Sin n) refl
  goes (Shift s d) k h w = line-in (Shift s d) ((goes-by-its-row (Shift s d) m b l).in_line (shift-unheard d))
  goes (Register n s d) k h w = line-in (Register n s d) (register-same n _ d (begun (operate_entry n d) m) w)
  goes (Branch w) k h q =
      let row : Row = branch_entry (not (is_nopp w)) in
      let target : ℕ = branch_target (register 7 m) w (read_of b (wrap_add (register 7 m) 1)) in
      let taken : Bool = is_taken m.flags l.external w in
      let e : node_of (after (Branch w)) ≡ cond taken (clear_at target) (onward_of (node_of m) row) =
      at_row (Branch w) (goes_to taken target (begun row m)) ∙ node_by taken target _ in
      subst (λ (n : Node). n ∈ branch_ways (onward_of (node_of m) row) (clear_at target) w) (sym e)
      (branch_in (onward_of (node_of m) row) (clear_at target) w taken (always-taken m.flags l.external w) (nopp-untaken m.flags l.external w))
  goes (StoreRow s d) k h w = line-in (StoreRow s d) ((goes-by-its-row (StoreRow s d) m b l).in_line refl)
  goes (Read n s d) k h w =
      let begins : Machine = begun (read_entry s m.switches.d) m in
      let f : Fetch = fetch_of (mode_of s) m.switches.d (register 7 m) begins in
      line-in (Read n s d)
      (read_same n (f.operand (execution_words m b (Read n s d))) d f.after w ∙ fetch-same s m.switches.d (register 7 m) begins)

-- a step that makes the instruction
leads : (m : Machine) (b : Bus) (l : Lines) (i : Instr) → StepsOn m b l i → node_of (step_of m b l).machine ∈ successors (read_of b) (node_of m)
unfolding successors noted after
leads m b l i k =
    let e : (step_of m b l).machine ≡ (executed (noted m l) b l i).machine = ap (λ (o : Outcome). o.machine) (step-executes m b l i k.executes) in
    let known : decode_at (read_of b) (register 7 m) m.switches.d ≡ Some i = k.executes.instruction in
    let ways : decoded_ways (read_of b) (node_of m) (Some i) ≡ instruction_ways (read_of b) (node_of m) (row_of i m.switches.d) i =
    cond-false _ _ (ap₂ (λ (x y : Bool). x || y) k.running k.in_path) in
    rw (e, known, ways)
    (goes (noted m l) b l i (decodes-in-range (read_of b) (register 7 m) m.switches.d i known) k.running k.in_path)

stays : (m : Machine) (b : Bus) (ls : List Lines) (entries : List ℕ) → Reached (successors (read_of b)) entries (node_of m) → OnPath (steps_from m b ls) →
    AllReached (read_of b) entries (steps_from m b ls)
unfolding steps_from OnPath AllReached
stays m b [] entries r k = tt
stays m b (l ∷ ls) entries r k =
    let next : Reached (successors (read_of b)) entries (node_of (step_of m b l).machine) =
    record { entry = r.entry; listed = r.listed; path = onward r.path (leads m b l k.0.0 k.0.1) } in
    let same : (step_of m b l).bus ≡ b = k.1 in (
      next,
      subst (λ (c : Bus). AllReached (read_of c) entries (steps_from (step_of m b l).machine (step_of m b l).bus ls)) same
          (stays (step_of m b l).machine (step_of m b l).bus ls entries (subst (λ (c : Bus). Reached (successors (read_of c)) entries (node_of (step_of m b l).machine)) (sym same) next) k.2),
    )

pub stays-reached : StaysReached
stays-reached = record { leads = leads; stays = stays }

-- two steps of the branch to itself
pub stays-instance : StaysInstance
unfolding OnPath steps_from step_of noted plan_of executed executed_from execution_words admitted_action action_of seen_by begun branch is_taken condition_holds wrap_add wrap_sub branch_target read_of peek_of admission_of decode_at is_unspecified instruction_of interruptible_entry branch_entry branch_cycles
stays-instance =
    let on : (m : Machine) → StepsOn m branch_and_data unrequested (Branch 0x20) → (i : Instr) × StepsOn m branch_and_data unrequested i = λ m k. (Branch 0x20, k) in
    record {
      on_path = (
        on _ (record { executes = record { admitted = refl; plan = refl; instruction = refl }; running = refl; in_path = refl }),
        refl,
        ((on _ (record { executes = record { admitted = refl; plan = refl; instruction = refl }; running = refl; in_path = refl }), refl, tt)),
      );
    }
