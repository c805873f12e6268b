-- Laws of every step, by the ways that it can go.
use Prim.Native.Nat.{ℕ, ◌≤◌}
use mathlib.Core.Path.{◌≡◌, refl, ap, sym, subst, ◌∙◌}
use mathlib.Core.Bool.{Bool, true, false, not, cond, ◌&&◌, true≢false}
use mathlib.Core.List.{List, [], ◌∷◌}
use native.Mathlib.Omega.{arith}
use lib.Dec.{lit≤}
use lib.ListN.{length}
use Rattle.std.proofs.Common.{Option, None, Some, Ok, Err}
use Rattle.refusal.specs.declared.Refusal.{Refusal}
use Rattle.refusal.specs.declared.Refusal.TheVariants.{Halted, Unspecified}
use Rattle.refusal.specs.Report.{Report, refused, answered, UnlessRefused}
use Rattle.refusal.proofs.ReportLaws.{no_answer}
use Rattle.word.proofs.Choice.{cond-true, cond-false, cond_both}
use Rattle.memory.specs.declared.map.Board.{Board}
use Rattle.memory.specs.Memory.{peek_of, poke_of}
use Rattle.memory.specs.Bus.{Bus, bus_of, bus_on, read_of, store_of, Store, keep, put, stored, admission_of}
use Rattle.memory.specs.Laws.{takes_store, OnBoard}
use Rattle.memory.proofs.Laws.{poke-laws}
use Rattle.memory.proofs.BusLaws.{bus-laws, stored-admission, unless-both, unless-in, unless-out}
use Rattle.memory.proofs.MapLaws.{map-laws}
use Rattle.decode.specs.declared.Instr.{Instr}
use Rattle.decode.specs.declared.Instr.TheVariants.{Hlt, Control, Jump, Single, Gswd, Nop, Sin, Shift, Register, Branch, Store as StoreRow, Read}
use Rattle.decode.specs.declared.rows.Row.{Row}
use Rattle.decode.specs.Rows.{branch_cycles, row_of}
use Rattle.decode.proofs.RowLaws.{row-bounds}
use Rattle.cpu.specs.declared.Lines.{Lines}
use Rattle.cpu.specs.declared.Plan.{Plan}
use Rattle.cpu.specs.declared.Plan.TheVariants.{Halting, Granting, Interrupting, Executing}
use Rattle.cpu.specs.Machine.{Machine}
use Rattle.cpu.specs.Answer.{StepDone, cycles_of, meets_unspecified}
use Rattle.cpu.specs.Branch.{is_taken}
use Rattle.cpu.specs.Execute.{instruction_cycles}
use Rattle.cpu.specs.Step.{noted, plan_of, Action, refused_step, granted, interrupted, executed_from, executed, decoded, decoded_action, planned, admitted_action, action_of, Outcome, made, step_of, admitted_step}
use Rattle.cpu.specs.Steps.{steps_from}
use Rattle.cpu.specs.Laws.{RefusedKeepsAll, KeepsAdmission, Plain, LeavesWords, KeepsLength, ChangesOneWord, Costs, EveryCost, Executes}

-- what holds of each way that an admitted step can go holds of it
pub by-admitted : (P : Action → Type 0) (m : Machine) (b : Bus) (l : Lines) →
    ((r : Refusal) → P (refused_step m r)) →
    P (granted (noted m l)) →
    P (interrupted (noted m l)) →
    ((i : Instr) → P (executed (noted m l) b l i)) →
    P (admitted_action m b l)
unfolding admitted_action
by-admitted P m b l refusal grant interrupt execute = plans (plan_of (noted m l) l)
  where
    decodes : (x : Option Instr) → P (decoded_action x m (noted m l) b l)
    decodes None = refusal Unspecified
    decodes (Some i) = execute i

    plans : (p : Plan) → P (planned p m (noted m l) b l)
    plans Halting = refusal Halted
    plans Granting = grant
    plans Interrupting = interrupt
    plans Executing = decodes (decoded (noted m l) b)

-- and of the step that may not be let in
pub by-action : (P : Action → Type 0) (m : Machine) (b : Bus) (l : Lines) →
    ((r : Refusal) → P (refused_step m r)) →
    P (granted (noted m l)) →
    P (interrupted (noted m l)) →
    ((i : Instr) → P (executed (noted m l) b l i)) →
    P (action_of m b l)
unfolding action_of
by-action P m b l refusal grant interrupt execute =
    unless-both P (admission_of b) refusal (by-admitted P m b l refusal grant interrupt execute)

-- a step that is let in, one that is not, one that goes by a plan, and one that makes an instruction
pub step-admitted : (m : Machine) (b : Bus) (l : Lines) → admission_of b ≡ Ok tt → step_of m b l ≡ admitted_step m b l
unfolding step_of action_of admitted_step
step-admitted m b l h = ap (made b) (unless-in (refused_step m) (admitted_action m b l) h)

pub step-barred : (m : Machine) (b : Bus) (l : Lines) {r : Refusal} → admission_of b ≡ Err r → step_of m b l ≡ made b (refused_step m r)
unfolding step_of action_of
step-barred m b l h = ap (made b) (unless-out (refused_step m) (admitted_action m b l) h)

pub step-by-plan : (m : Machine) (b : Bus) (l : Lines) (p : Plan) → admission_of b ≡ Ok tt → plan_of (noted m l) l ≡ p → step_of m b l ≡ made b (planned p m (noted m l) b l)
unfolding admitted_step admitted_action
step-by-plan m b l p h e = step-admitted m b l h ∙ ap (λ (q : Plan). made b (planned q m (noted m l) b l)) e

pub step-executes : (m : Machine) (b : Bus) (l : Lines) (i : Instr) → Executes m b l i → step_of m b l ≡ made b (executed (noted m l) b l i)
unfolding noted
step-executes m b l i h =
    step-by-plan m b l Executing h.admitted h.plan ∙ ap (λ (x : Option Instr). made b (decoded_action x m (noted m l) b l)) h.instruction

pub step-halted : (m : Machine) (b : Bus) (l : Lines) → admission_of b ≡ Ok tt → m.running.halted ≡ true → step_of m b l ≡ made b (refused_step m Halted)
unfolding plan_of noted
step-halted m b l h e = step-by-plan m b l Halting h (cond-true _ _ e)

-- what a step leaves of the memory
pub refused-keeps-all : RefusedKeepsAll
unfolding step_of refused_step granted interrupted executed_from executed
refused-keeps-all m b l n =
    by-action (λ (a : Action). a.answer ≡ refused n → (a.machine ≡ m) × (stored b a.store ≡ b)) m b l
    (λ r e. (refl, refl))
    (λ e. no_answer (sym e))
    (λ e. no_answer (sym e))
    (λ i e. no_answer (sym e))

pub keeps_admission : KeepsAdmission
unfolding step_of
keeps_admission m b l = stored-admission b (action_of m b l).store

-- a store to lent words
stored-plain : (before : List ℕ) (s : Store) → Plain (stored (bus_of before) s)
stored-plain before keep = record { words = before; lent = refl }
stored-plain before (put a w) = record { words = poke_of before a w; lent = bus-laws.stores before a w }

stored-on-board : (b : Board) (before : List ℕ) (s : Store) → OnBoard b (stored (bus_on b before) s)
stored-on-board b before keep = record { words = before; lent = refl }
stored-on-board b before (put a w) = map-laws.lent_after b before a w

pub leaves-words : LeavesWords
unfolding step_of
leaves-words =
    record {
      plain = λ m before l. stored-plain before (action_of m (bus_of before) l).store;
      on_board = λ b m before l. stored-on-board b before (action_of m (bus_on b before) l).store;
    }

length-plain : (before after : List ℕ) (s : Store) → stored (bus_of before) s ≡ bus_of after → length after ≡ length before
length-plain before after keep e = ap length (sym (bus-laws.one_to_one before after e))
length-plain before after (put a w) e =
    ap length (sym (bus-laws.one_to_one _ after (sym (bus-laws.stores before a w) ∙ e))) ∙ poke-laws.keeps_length before a w

length-on-board : (b : Board) (before after : List ℕ) (s : Store) → stored (bus_on b before) s ≡ bus_on b after → length after ≡ length before
length-on-board b before after keep e = ap length (sym (bus-laws.one_to_one_on b before after e))
length-on-board b before after (put a w) e = map-laws.keeps_length b before after a w e

pub keeps_length : KeepsLength
unfolding step_of
keeps_length =
    record {
      plain = λ m before after l e. length-plain before after (action_of m (bus_of before) l).store e;
      on_board = λ b m before after l e. length-on-board b before after (action_of m (bus_on b before) l).store e;
    }

-- a store that is not taken at an address, or goes to another, leaves the read there; and the lent word
abbrev Spares : Bus → Store → ℕ → Type 0
Spares b s a = (w : ℕ) → s ≡ put a w → takes_store b a ≡ true → ⊥

-- where the address is the one stored to, the store is not taken
apart : (b : Bus) (at w a : ℕ) → Spares b (put at w) a → takes_store b at ≡ true → at ≡ a → ⊥
apart b at w a h t e = h w (ap (λ (x : ℕ). put x w) e) (ap (takes_store b) (sym e) ∙ t)

stored-spares : (b : Bus) (s : Store) (a : ℕ) → Spares b s a → read_of (stored b s) a ≡ read_of b a
stored-spares b keep a h = refl
stored-spares b (put at w) a h = go (takes_store b at) refl
  where
    go : (t : Bool) → takes_store b at ≡ t → read_of (store_of b at w) a ≡ read_of b a
    go true t = bus-laws.other b at w a (apart b at w a h t)
    go false t = ap (λ (s : Bus). read_of s a) (bus-laws.untaken b at w t)

lent-spares : (b : Board) (before after : List ℕ) (s : Store) (a : ℕ) → stored (bus_on b before) s ≡ bus_on b after → Spares (bus_on b before) s a → peek_of after a ≡ peek_of before a
lent-spares b before after keep a e h = ap (λ (m : List ℕ). peek_of m a) (sym (bus-laws.one_to_one_on b before after e))
lent-spares b before after (put at w) a e h = go (takes_store (bus_on b before) at) refl
  where
    go : (t : Bool) → takes_store (bus_on b before) at ≡ t → peek_of after a ≡ peek_of before a
    go true t = map-laws.keeps_other b before after at w a e (apart (bus_on b before) at w a h t)
    go false t = ap (λ (m : List ℕ). peek_of m a) (sym (bus-laws.one_to_one_on b before after (sym (bus-laws.untaken (bus_on b before) at w t) ∙ e)))

pub changes-one-word : ChangesOneWord
unfolding step_of
changes-one-word =
    record {
      reads = λ m b l a h. stored-spares b (action_of m b l).store a h;
      lent = λ b m before after l a e h. lent-spares b before after (action_of m (bus_on b before) l).store a e h;
    }

-- an instruction costs its row's cycles, and a branch 9 or 7
pub by-cycles : (P : ℕ → Type 0) (i : Instr) (row : Row) (external : ℕ) (m : Machine) → P row.cycles → ((taken : Bool) → P (branch_cycles taken)) → P (instruction_cycles i row external m)
by-cycles P Hlt row external m p q = p
by-cycles P (Control d) row external m p q = p
by-cycles P Jump row external m p q = p
by-cycles P (Single s d) row external m p q = p
by-cycles P (Gswd d) row external m p q = p
by-cycles P (Nop n) row external m p q = p
by-cycles P (Sin n) row external m p q = p
by-cycles P (Shift s d) row external m p q = p
by-cycles P (Register n s d) row external m p q = p
by-cycles P (Branch b) row external m p q = q (is_taken m.flags external b)
by-cycles P (StoreRow s d) row external m p q = p
by-cycles P (Read n s d) row external m p q = p

abbrev Bounded : ℕ → Type 0
Bounded n = (4 ≤ n) × (n ≤ 12)

cycles-bounded : (i : Instr) (double : Bool) (external : ℕ) (m : Machine) → Bounded (instruction_cycles i (row_of i double) external m)
unfolding branch_cycles
cycles-bounded i double external m =
    by-cycles Bounded i (row_of i double) external m (row-bounds.least i double, row-bounds.most i double)
    (λ taken. cond_both Bounded taken (lit≤ tt, lit≤ tt) (lit≤ tt, lit≤ tt))

instruction-costs : (n : ℕ) → Bounded n → Costs 5 n
instruction-costs n p =
    record {
      grant = λ e. absurd (omega arith);
      interrupt = λ e. absurd (omega arith);
      instruction = λ e. p;
      kinds = (lit≤ tt, lit≤ tt);
    }

-- the costs of every answer
step-costs : (m : Machine) (b : Bus) (l : Lines) → UnlessRefused (λ (x : StepDone). Costs x.kind x.cycles) (step_of m b l).answer
unfolding step_of refused_step granted interrupted executed_from executed
step-costs m b l =
    by-action (λ (a : Action). UnlessRefused (λ (x : StepDone). Costs x.kind x.cycles) a.answer) m b l
    (λ r. tt)
    (record { grant = λ e. refl; interrupt = λ e. absurd (omega arith); instruction = λ e. absurd (omega arith); kinds = (lit≤ tt, lit≤ tt) })
    (record { grant = λ e. absurd (omega arith); interrupt = λ e. refl; instruction = λ e. absurd (omega arith); kinds = (lit≤ tt, lit≤ tt) })
    (λ i. instruction-costs _ (cycles-bounded i (noted m l).switches.d l.external (noted m l)))

pub every-cost : EveryCost
every-cost m b l x e = subst (UnlessRefused (λ (y : StepDone). Costs y.kind y.cycles)) e (step-costs m b l)

-- the cycles that a step answers are at most 12, and 1 or more where it is not refused
abbrev Charged : Report StepDone → Type 0
Charged a = UnlessRefused (λ (x : StepDone). (1 ≤ x.cycles) × (x.cycles ≤ 12)) a

pub admitted-charged : (m : Machine) (b : Bus) (l : Lines) → Charged (admitted_step m b l).answer
unfolding admitted_step refused_step granted interrupted executed_from executed
admitted-charged m b l =
    by-admitted (λ (a : Action). Charged a.answer) m b l (λ r. tt) (lit≤ tt, lit≤ tt) (lit≤ tt, lit≤ tt)
    (λ i. let c = cycles-bounded i (noted m l).switches.d l.external (noted m l) in (omega (arith, c.0), c.1))

pub step-charged : (m : Machine) (b : Bus) (l : Lines) → Charged (step_of m b l).answer
unfolding step_of action_of admitted_step refused_step
step-charged m b l = unless-both (λ (a : Action). Charged a.answer) (admission_of b) (λ r. tt) (admitted-charged m b l)

charged-most : (a : Report StepDone) → Charged a → cycles_of a ≤ 12
charged-most (refused n) p = lit≤ tt
charged-most (answered x) p = p.1

pub admitted-most : (m : Machine) (b : Bus) (l : Lines) → cycles_of (admitted_step m b l).answer ≤ 12
admitted-most m b l = charged-most (admitted_step m b l).answer (admitted-charged m b l)

pub cycles-most : (m : Machine) (b : Bus) (l : Lines) → cycles_of (step_of m b l).answer ≤ 12
cycles-most m b l = charged-most (step_of m b l).answer (step-charged m b l)

-- a step that costs nothing was refused, and changes nothing
pub uncharged-keeps-all : (m : Machine) (b : Bus) (l : Lines) → cycles_of (step_of m b l).answer ≡ 0 → ((step_of m b l).machine ≡ m) × ((step_of m b l).bus ≡ b)
uncharged-keeps-all m b l z = go (step_of m b l).answer refl (step-charged m b l) z
  where
    go : (a : Report StepDone) → (step_of m b l).answer ≡ a → Charged a → cycles_of a ≡ 0 → ((step_of m b l).machine ≡ m) × ((step_of m b l).bus ≡ b)
    go (refused n) e c y = refused-keeps-all m b l n e
    go (answered x) e c y = absurd (omega (arith, c.0, y))

-- a step that is not refused by 3 costs a cycle or more, where neither the door nor a halt refuses it
abbrev pub Costly : Report StepDone → Type 0
Costly a = meets_unspecified a ≡ false → 1 ≤ cycles_of a

decoded-costly : (x : Option Instr) (given m : Machine) (b : Bus) (l : Lines) → Costly (decoded_action x given m b l).answer
unfolding refused_step executed_from executed
decoded-costly None given m b l e = absurd (true≢false e)
decoded-costly (Some i) given m b l e = let c = cycles-bounded i m.switches.d l.external m in omega (arith, c.0)

pub step-charges : (m : Machine) (b : Bus) (l : Lines) → admission_of b ≡ Ok tt → m.running.halted ≡ false → Costly (step_of m b l).answer
unfolding plan_of noted granted interrupted
step-charges m b l h run =
    let k : Machine = noted m l in
    let grant : Bool = k.running.ready && not l.busrq in
    let interrupt : Bool = k.running.ready && (k.switches.i && k.intrm.mark) in
    let P : Plan → Type 0 = λ p. Costly (planned p m k b l).answer in
    subst (λ (o : Outcome). Costly o.answer) (sym (step-by-plan m b l (cond grant Granting (cond interrupt Interrupting Executing)) h (cond-false _ _ run)))
    (cond_both P grant (λ e. lit≤ tt) (cond_both P interrupt (λ e. lit≤ tt) (decoded-costly (decoded k b) m k b l)))

-- a list of steps has a step for each of the lines
pub steps-length : (m : Machine) (b : Bus) (ls : List Lines) → length (steps_from m b ls) ≡ length ls
unfolding steps_from
steps-length m b [] = refl
steps-length m b (l ∷ ls) = ap (λ n. Prim.Native.Nat.suc n) (steps-length (step_of m b l).machine (step_of m b l).bus ls)
