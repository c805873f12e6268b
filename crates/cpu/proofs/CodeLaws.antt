-- The step as the code makes it: by its plan, and an instruction by the change that its row answers.
use Prim.Native.Nat.{ℕ}
use mathlib.Core.Path.{◌≡◌, refl, ap, ap₂, sym, subst, ◌∙◌}
use mathlib.Core.Bool.{Bool, true, false, not, ◌&&◌, ◌||◌}
use mathlib.Core.List.{List, [], map}
use native.Mathlib.Omega.{arith}
use lib.ListN.{get_or}
use Rattle.std.proofs.Common.{Option, None, Some}
use Rattle.word.specs.Word.{wrap_add}
use Rattle.memory.specs.declared.map.Range.{Range}
use Rattle.memory.specs.declared.map.Board.{Board}
use Rattle.memory.specs.Bus.{Bus, bus_on, read_of, stored}
use Rattle.memory.specs.Near.{in_front, near_of}
use Rattle.memory.proofs.NearLaws.{near-laws}
use Rattle.decode.specs.declared.Instr.{Instr}
use Rattle.decode.specs.declared.Instr.TheVariants.{Hlt, Control, Jump, Single, Gswd, Nop, Sin, Shift, Register, Branch, Store as StoreRow, Read}
use Rattle.decode.specs.declared.rows.Row.{Row}
use Rattle.decode.specs.Fields.{opcode_of}
use Rattle.decode.specs.Decode.{instruction_of, specified, decode_at}
use Rattle.decode.specs.Rows.{row_of}
use Rattle.decode.proofs.DecodeLaws.{decodes-in-steps}
use Rattle.cpu.specs.declared.Status.{Status}
use Rattle.cpu.specs.declared.Lines.{Lines}
use Rattle.cpu.specs.declared.Plan.{Plan}
use Rattle.cpu.specs.declared.Plan.TheVariants.{Halting, Executing}
use Rattle.cpu.specs.declared.change.Change.{Change}
use Rattle.cpu.specs.Machine.{Machine, with_register, seen_by}
use Rattle.cpu.specs.Answer.{done, meets_unspecified}
use Rattle.cpu.specs.Reads.{execution_reads}
use Rattle.cpu.specs.Execute.{begun, execute_of, instruction_cycles}
use Rattle.cpu.specs.Step.{noted, plan_of, Action, refused_step, execution_words, executed_from, executed, decoded, decoded_action, planned, admitted_action, Outcome, made, admitted_step, near_by, near_after}
use Rattle.cpu.specs.Inner.Parts.{machine_in, noted_in, is_unspecified_form}
use Rattle.cpu.specs.Inner.Change.{changed, begun_at, effect_at, cycles_at, Leaves}
use Rattle.cpu.proofs.PlanLaws.{plan-halted}

-- k is the status with INTRM noted
module _ (before k : Status) (l : Lines) (n : k ≡ noted_in before l) where
  -- a level that is high leaves nothing pending
  pub noted-quiet : l.intrm ≡ true → k.pending ≡ false
  noted-quiet h = ap (λ (x : Status). x.pending) n ∙ ap (λ (t : Bool). not t && (before.pending || before.level)) h

  -- what is done, and the range at hand after it
  action-planned : (r : List ℕ) (b : Bus) (p : Plan) → plan_of (machine_in [] k) l ≡ p → admitted_action (machine_in r before) b l ≡ planned p (machine_in r before) (machine_in r k) b l
  unfolding admitted_action noted seen_by plan_of
  action-planned r b p e =
      ap (λ (x : Status). planned (plan_of (machine_in r x) l) (machine_in r before) (machine_in r x) b l) (sym n)
      ∙ ap (λ (q : Plan). planned q (machine_in r before) (machine_in r k) b l) e

  pub step-planned : (r : List ℕ) (d b : Bus) (p : Plan) → plan_of (machine_in [] k) l ≡ p → made d (admitted_action (machine_in r before) b l) ≡ made d (planned p (machine_in r before) (machine_in r k) b l)
  step-planned r d b p e = ap (made d) (action-planned r b p e)

  pub near-planned : (r : List ℕ) (b : Board) (near : Range) (p : Plan) → plan_of (machine_in [] k) l ≡ p → near_after b near (machine_in r before) l ≡ near_by p b near (machine_in r before)
  unfolding near_after noted seen_by plan_of
  near-planned r b near p e =
      ap (λ (x : Status). near_by (plan_of (machine_in r x) l) b near (machine_in r before)) (sym n)
      ∙ ap (λ (q : Plan). near_by q b near (machine_in r before)) e

  pub looked-planned : (r : List ℕ) (b : Bus) (p : Plan) → plan_of (machine_in [] k) l ≡ p → meets_unspecified (admitted_step (machine_in r before) b l).answer ≡ meets_unspecified (planned p (machine_in r before) (machine_in r k) b l).answer
  unfolding admitted_step
  looked-planned r b p e = ap (λ (a : Action). meets_unspecified a.answer) (action-planned r b p e)

-- the opcode is fetched with the range at hand before, and all else is read with the one after
pub fetched-decodes :
    (b : Board) (given near : Range) (words : List ℕ) (at first : ℕ) (double : Bool) {i : Instr} {x : Option Instr} →
    near ≡ near_of b given at →
    first ≡ read_of (bus_on (in_front given b) words) at →
    i ≡ instruction_of (opcode_of first) →
    x ≡ specified (read_of (bus_on (in_front near b) words)) at i double →
    x ≡ decode_at (read_of (bus_on (in_front near b) words)) at double
fetched-decodes b given near words at first double n f j e =
    let read : ℕ → ℕ = read_of (bus_on (in_front near b) words) in
    let same : first ≡ read at = f ∙ near-laws.fetches b given words at ∙ ap (λ (r : Range). read_of (bus_on (in_front r b) words) at) (sym n) in
    e
    ∙ ap (λ (i : Instr). specified read at i double) (j ∙ ap (λ (w : ℕ). instruction_of (opcode_of w)) same)
    ∙ decodes-in-steps.steps read at double

-- a machine that executes is not halted
pub executing-runs : (k : Status) (l : Lines) → plan_of (machine_in [] k) l ≡ Executing → k.halted ≡ false
executing-runs k l e = go k.halted refl
  where
    go : (t : Bool) → k.halted ≡ t → t ≡ false
    go false h = refl
    go true h =
        let x : Halting ≡ Executing = sym (plan-halted k l h) ∙ e in
        let z : ◌≡◌ {A = ℕ} 0 1 = cc in
        absurd (omega arith)

-- an instruction's cycles depend on the flags alone
cycles-same : (i : Instr) (row : Row) (external : ℕ) (m n : Machine) → m.flags ≡ n.flags → instruction_cycles i row external m ≡ instruction_cycles i row external n
cycles-same Hlt row external m n e = refl
cycles-same (Control d) row external m n e = refl
cycles-same Jump row external m n e = refl
cycles-same (Single s d) row external m n e = refl
cycles-same (Gswd d) row external m n e = refl
cycles-same (Nop b) row external m n e = refl
cycles-same (Sin b) row external m n e = refl
cycles-same (Shift s d) row external m n e = refl
cycles-same (Register w s d) row external m n e = refl
cycles-same (Branch b) row external m n e = rw e
cycles-same (StoreRow s d) row external m n e = refl
cycles-same (Read w s d) row external m n e = refl

module _ (r : List ℕ) (k : Status) (runs : k.halted ≡ false) where
  begun-is : (row : Row) → begun row (machine_in r k) ≡ begun_at row (get_or r 7 0) r k
  unfolding begun
  begun-is row =
      ap (λ (h : Bool). record { registers = with_register 7 (wrap_add (get_or r 7 0) row.words) r; flags = (machine_in r k).flags; switches = record { i = k.i; d = false }; running = record { halted = h; ready = row.interruptible }; intrm = (machine_in r k).intrm }) runs

  -- item 5, in the parts that the code has
  abbrev action_at : Bus → Lines → Instr → Action
  action_at b l i =
      record {
        machine = (effect_at i (get_or r 7 0) r k (read_of b) l.external).machine;
        answer = done 5 (cycles_at i (get_or r 7 0) r k l.external);
        store = (effect_at i (get_or r 7 0) r k (read_of b) l.external).store;
      }

  -- .. from the machine begun
  abbrev action_from : Bus → Lines → Instr → ℕ → Machine → Action
  action_from b l i cycles m =
      let e = execute_of i k.d (map (read_of b) (execution_reads i k.d (read_of b) (get_or r 7 0) m)) (get_or r 7 0) l.external m in
      record { machine = e.machine; answer = done 5 cycles; store = e.store }

  executed-is : (b : Bus) (l : Lines) (i : Instr) → executed (machine_in r k) b l i ≡ action_at b l i
  unfolding executed executed_from execution_words
  executed-is b l i =
      let row : Row = row_of i k.d in
      ap₂ (action_from b l i) (cycles-same i row l.external (machine_in r k) (begun_at row (get_or r 7 0) r k) refl) (begun-is row)

  -- the change that the instruction's row answers, to registers with R7 one on, and its store made: b is the lent bus, c the one that is read
  pub instruction-is :
      (given : Machine) (b c after : Bus) (l : Lines) (i : Instr) (x : Change) (seen : List ℕ) →
      decoded (machine_in r k) c ≡ Some i →
      seen ≡ with_register 7 (wrap_add (get_or r 7 0) 1) r →
      Leaves x seen (effect_at i (get_or r 7 0) seen k (read_of c) l.external).machine (cycles_at i (get_or r 7 0) seen k l.external) →
      after ≡ stored b (effect_at i (get_or r 7 0) seen k (read_of c) l.external).store →
      record { machine = changed x r; answer = done 5 x.cycles; bus = after }
      ≡ made b (decoded_action (decoded (machine_in r k) c) given (machine_in r k) c l)
  instruction-is given b c after l i x seen e s leaves memory =
      let outcome : Machine → ℕ → Bus → Outcome = λ m n d. record { machine = m; answer = done 5 n; bus = d } in
      let one_on : List ℕ = with_register 7 (wrap_add (get_or r 7 0) 1) r in
      let kept : Leaves x one_on (effect_at i (get_or r 7 0) one_on k (read_of c) l.external).machine (cycles_at i (get_or r 7 0) one_on k l.external) =
      subst (λ (q : List ℕ). Leaves x q (effect_at i (get_or r 7 0) q k (read_of c) l.external).machine (cycles_at i (get_or r 7 0) q k l.external)) s leaves in
      let put : after ≡ stored b (effect_at i (get_or r 7 0) one_on k (read_of c) l.external).store =
      subst (λ (q : List ℕ). after ≡ stored b (effect_at i (get_or r 7 0) q k (read_of c) l.external).store) s memory in
      ap (λ (m : Machine). outcome m x.cycles after) kept.machine
      ∙ ap₂ (outcome _) kept.costs put
      ∙ ap (made b) (sym (executed-is c l i))
      ∙ ap (λ (d : Option Instr). made b (decoded_action d given (machine_in r k) c l)) (sym e)

-- an instruction is refused exactly if its form is unspecified
pub looks-ahead : (r : List ℕ) (k : Status) (given : Machine) (b : Bus) (l : Lines) → is_unspecified_form (decoded (machine_in r k) b) ≡ meets_unspecified (planned Executing given (machine_in r k) b l).answer
unfolding refused_step executed executed_from
looks-ahead r k given b l = go (decoded (machine_in r k) b)
  where
    go : (x : Option Instr) → is_unspecified_form x ≡ meets_unspecified (decoded_action x given (machine_in r k) b l).answer
    go None = refl
    go (Some i) = refl
