-- The run by its turns and by the ways that it can go, and its own rule with no count.
use Prim.Native.Nat.{ℕ, zero, suc, ◌+◌, ◌-◌, ◌≤◌, ◌<◌}
use mathlib.Core.Path.{◌≡◌, refl, ap, sym, subst, ◌∙◌}
use mathlib.Core.Bool.{Bool, true, false, not, cond, ◌&&◌, false≢true, true≢false}
use native.Mathlib.Omega.{arith}
use lib.Dec.{ltb}
use borrow.Author.Tests.{ltb-true, ltb-false, le-ltb}
use Rattle.std.proofs.Common.{Result, Ok, Err}
use Rattle.refusal.specs.declared.Refusal.{Refusal}
use Rattle.refusal.specs.declared.Refusal.TheVariants.{BudgetTooHigh, Halted as HaltedMachine}
use Rattle.refusal.specs.Report.{Report, refused, answered, is_refused, UnlessRefused}
use Rattle.word.proofs.Choice.{cond-true, cond-false, cond_both}
use Rattle.memory.specs.Bus.{Bus, admission_of, unless_barred}
use Rattle.memory.proofs.BusLaws.{unless-out}
use Rattle.cpu.specs.declared.Lines.{Lines}
use Rattle.cpu.specs.Machine.{Machine}
use Rattle.cpu.specs.Answer.{StepDone, cycles_of, meets_unspecified}
use Rattle.cpu.specs.Step.{Outcome, step_of, admitted_step}
use Rattle.cpu.proofs.ActionLaws.{step-admitted, step-charges, keeps_admission}
use Rattle.run.specs.declared.Cause.TheVariants.{Halted, Unspecified, Budget}
use Rattle.run.specs.Inner.Admission.{run_admission}
use Rattle.run.specs.Run.{RunOutcome, refused_run, cause_of, finish, steps_on, run_from, run_on, run_of}
use Rattle.run.specs.Laws.{RunEquation}

-- the cause by what holds at the end
module _ (m : Machine) (b : Bus) (l : Lines) where
  pub ends-halted : m.running.halted ≡ true → cause_of m b l ≡ Halted
  unfolding cause_of
  ends-halted h = cond-true _ _ h

  pub ends-unspecified : m.running.halted ≡ false → meets_unspecified (admitted_step m b l).answer ≡ true → cause_of m b l ≡ Unspecified
  unfolding cause_of
  ends-unspecified h u = cond-false _ _ h ∙ cond-true _ _ u

  pub ends-budget : m.running.halted ≡ false → meets_unspecified (admitted_step m b l).answer ≡ false → cause_of m b l ≡ Budget
  unfolding cause_of
  ends-budget h u = cond-false _ _ h ∙ cond-false _ _ u

-- three tests that all hold
all_hold : (a b c : Bool) → (a && (not b && not c)) ≡ true → (a ≡ true) × (b ≡ false) × (c ≡ false)
all_hold true true c e = absurd (false≢true e)
all_hold true false true e = absurd (false≢true e)
all_hold true false false e = (refl, refl, refl)
all_hold false b c e = absurd (false≢true e)

-- a step that is not refused costs a cycle
pub answered-charged : (a : Report StepDone) → UnlessRefused (λ (x : StepDone). (1 ≤ x.cycles) × (x.cycles ≤ 12)) a → is_refused a ≡ false → 1 ≤ cycles_of a
answered-charged (refused n) p e = absurd (false≢true (sym e))
answered-charged (answered x) p e = p.0

-- a run that goes on, and its next step
pub record Goes (m : Machine) (b : Bus) (l : Lines) (budget cycles : ℕ) : Type 0 where
  pub on : steps_on m b l budget cycles ≡ true
  pub admitted : admission_of b ≡ Ok tt
  pub below : cycles < budget
  pub charged : 1 ≤ cycles_of (step_of m b l).answer

goes : (m : Machine) (b : Bus) (l : Lines) (budget cycles : ℕ) → admission_of b ≡ Ok tt → steps_on m b l budget cycles ≡ true → Goes m b l budget cycles
unfolding steps_on
goes m b l budget cycles s e =
    let k = all_hold (ltb cycles budget) m.running.halted (meets_unspecified (admitted_step m b l).answer) e in
    record {
      on = e;
      admitted = s;
      below = ltb-true cycles budget k.0;
      charged = step-charges m b l s k.1 (ap (λ (o : Outcome). meets_unspecified o.answer) (step-admitted m b l s) ∙ k.2);
    }

-- why a run goes on no further
pub data Rests (m : Machine) (b : Bus) (l : Lines) (budget cycles : ℕ) : Type 0 where
  budget_spent : budget ≤ cycles → Rests m b l budget cycles
  machine_halted : m.running.halted ≡ true → Rests m b l budget cycles
  form_unspecified : m.running.halted ≡ false → meets_unspecified (admitted_step m b l).answer ≡ true → Rests m b l budget cycles

pub rests : (m : Machine) (b : Bus) (l : Lines) (budget cycles : ℕ) → steps_on m b l budget cycles ≡ false → Rests m b l budget cycles
unfolding steps_on
rests m b l budget cycles e = go (ltb cycles budget) m.running.halted (meets_unspecified (admitted_step m b l).answer) refl refl refl e
  where
    go : (t h u : Bool) → ltb cycles budget ≡ t → m.running.halted ≡ h → meets_unspecified (admitted_step m b l).answer ≡ u → (t && (not h && not u)) ≡ false → Rests m b l budget cycles
    go false h u p q r g = budget_spent (ltb-false cycles budget p)
    go true true u p q r g = machine_halted q
    go true false true p q r g = form_unspecified q r
    go true false false p q r g = absurd (true≢false g)

none_left : (m : Machine) (b : Bus) (l : Lines) (budget cycles : ℕ) → budget ≤ cycles → steps_on m b l budget cycles ≡ false
unfolding steps_on
none_left m b l budget cycles h = rw (le-ltb cycles budget h)

-- what holds of each end, and before a step where it holds after it, holds of the run
module _
    (l : Lines) (budget : ℕ) (R : Machine → Bus → ℕ → ℕ → RunOutcome → Type 0)
    (ends : (m : Machine) (b : Bus) (steps cycles : ℕ) → admission_of b ≡ Ok tt → steps_on m b l budget cycles ≡ false → R m b steps cycles (finish m b l steps cycles))
    (before : (m : Machine) (b : Bus) (steps cycles : ℕ) (o : RunOutcome) → Goes m b l budget cycles → R (step_of m b l).machine (step_of m b l).bus (steps + 1) (cycles + cycles_of (step_of m b l).answer) o → R m b steps cycles o) where
  by_count : (n : ℕ) (m : Machine) (b : Bus) (steps cycles : ℕ) → admission_of b ≡ Ok tt → budget ≤ cycles + n → R m b steps cycles (run_from n m b l budget steps cycles)
  unfolding run_from
  by_count zero m b steps cycles s h = ends m b steps cycles s (none_left m b l budget cycles (omega arith))
  by_count (suc n) m b steps cycles s h =
      turn (steps_on m b l budget cycles) refl (λ p. by_count n (step_of m b l).machine (step_of m b l).bus (steps + 1) (cycles + cycles_of (step_of m b l).answer) (keeps_admission m b l ∙ s) (omega (arith, p)))
    where
      next : Outcome → RunOutcome
      next o = run_from n o.machine o.bus l budget (steps + 1) (cycles + cycles_of o.answer)

      turn : (g : Bool) → steps_on m b l budget cycles ≡ g → (1 ≤ cycles_of (step_of m b l).answer → R (step_of m b l).machine (step_of m b l).bus (steps + 1) (cycles + cycles_of (step_of m b l).answer) (next (step_of m b l))) → R m b steps cycles (cond g (next (admitted_step m b l)) (finish m b l steps cycles))
      turn true e r =
          let k = goes m b l budget cycles s e in
          subst (λ (o : Outcome). R m b steps cycles (next o)) (step-admitted m b l s) (before m b steps cycles _ k (r k.charged))
      turn false e r = ends m b steps cycles s e

  pub by-turns : (m : Machine) (b : Bus) (steps cycles : ℕ) → admission_of b ≡ Ok tt → R m b steps cycles (run_on m b l budget steps cycles)
  unfolding run_on
  by-turns m b steps cycles s = by_count (budget - cycles) m b steps cycles s (omega arith)

-- any count that suffices
module _ (l : Lines) (budget : ℕ) where
  run_on-is : (m : Machine) (b : Bus) (steps cycles : ℕ) → admission_of b ≡ Ok tt → (n : ℕ) → budget ≤ cycles + n → run_on m b l budget steps cycles ≡ run_from n m b l budget steps cycles
  unfolding run_from
  run_on-is =
      by-turns l budget (λ m b steps cycles o. (n : ℕ) → budget ≤ cycles + n → o ≡ run_from n m b l budget steps cycles)
      ends
      before
    where
      ends : (m : Machine) (b : Bus) (steps cycles : ℕ) → admission_of b ≡ Ok tt → steps_on m b l budget cycles ≡ false → (n : ℕ) → budget ≤ cycles + n → finish m b l steps cycles ≡ run_from n m b l budget steps cycles
      ends m b steps cycles s e zero h = refl
      ends m b steps cycles s e (suc n) h = sym (cond-false _ _ e)

      before : (m : Machine) (b : Bus) (steps cycles : ℕ) (o : RunOutcome) → Goes m b l budget cycles → ((n : ℕ) → budget ≤ cycles + cycles_of (step_of m b l).answer + n → o ≡ run_from n (step_of m b l).machine (step_of m b l).bus l budget (steps + 1) (cycles + cycles_of (step_of m b l).answer)) → (n : ℕ) → budget ≤ cycles + n → o ≡ run_from n m b l budget steps cycles
      before m b steps cycles o k r zero h = absurd (omega (arith, k.below))
      before m b steps cycles o k r (suc n) h =
          r n (omega (arith, k.charged))
          ∙ ap (λ (x : Outcome). run_from n x.machine x.bus l budget (steps + 1) (cycles + cycles_of x.answer)) (step-admitted m b l k.admitted)
          ∙ sym (cond-true _ _ k.on)

pub run-equation : RunEquation
unfolding run_from
run-equation m b l budget steps cycles s =
    let n : Outcome = step_of m b l in
    let g : Bool = steps_on m b l budget cycles in
    run_on-is l budget m b steps cycles s (suc budget) (omega arith)
    ∙ ap (λ (x : Outcome). cond g (run_from budget x.machine x.bus l budget (steps + 1) (cycles + cycles_of x.answer)) (finish m b l steps cycles)) (sym (step-admitted m b l s))
    ∙ ap (λ (o : RunOutcome). cond g o (finish m b l steps cycles))
    (sym (run_on-is l budget n.machine n.bus (steps + 1) (cycles + cycles_of n.answer) (keeps_admission m b l ∙ s) budget (omega arith)))

-- the run by the way it goes: "1, 4, 2"
module _ (m : Machine) (b : Bus) (l : Lines) (budget : ℕ) where
  -- what holds of each refusal, and of the run once it is let in, holds of the run
  pub by-run : (P : RunOutcome → Type 0) → ((r : Refusal) → P (refused_run m b r)) → (admission_of b ≡ Ok tt → P (run_on m b l budget 0 0)) → P (run_of m b l budget)
  unfolding run_of
  by-run P refuses runs = go (admission_of b) refl
    where
      go : (a : Result (Unit {0}) Refusal) → admission_of b ≡ a → P (unless_barred a (refused_run m b) (cond (ltb 1000000 budget) (refused_run m b BudgetTooHigh) (cond m.running.halted (refused_run m b HaltedMachine) (run_on m b l budget 0 0))))
      go (Ok u) s = cond_both P (ltb 1000000 budget) (refuses BudgetTooHigh) (cond_both P m.running.halted (refuses HaltedMachine) (runs s))
      go (Err r) s = refuses r

  pub run-barred : {r : Refusal} → admission_of b ≡ Err r → run_of m b l budget ≡ refused_run m b r
  unfolding run_of
  run-barred s = unless-out _ _ s

  -- the tests before a run, all in one
  pub run-admits : run_of m b l budget ≡ unless_barred (run_admission m b budget) (refused_run m b) (run_on m b l budget 0 0)
  unfolding run_of run_admission
  run-admits = go (admission_of b) (ltb 1000000 budget) m.running.halted
    where
      go : (a : Result (Unit {0}) Refusal) (high halted : Bool) → unless_barred a (refused_run m b) (cond high (refused_run m b BudgetTooHigh) (cond halted (refused_run m b HaltedMachine) (run_on m b l budget 0 0))) ≡ unless_barred (unless_barred a Err (cond high (Err BudgetTooHigh) (cond halted (Err HaltedMachine) (Ok tt)))) (refused_run m b) (run_on m b l budget 0 0)
      go (Err r) high halted = refl
      go (Ok u) true halted = refl
      go (Ok u) false true = refl
      go (Ok u) false false = refl

-- a run that is let in
pub record Admits (m : Machine) (b : Bus) (budget : ℕ) : Type 0 where
  pub admitted : admission_of b ≡ Ok tt
  pub low : budget ≤ 1000000
  pub runs : m.running.halted ≡ false

pub admits : (m : Machine) (b : Bus) (budget : ℕ) → run_admission m b budget ≡ Ok tt → Admits m b budget
unfolding run_admission
admits m b budget e = go (admission_of b) (ltb 1000000 budget) m.running.halted refl refl refl e
  where
    go : (a : Result (Unit {0}) Refusal) (high halted : Bool) → admission_of b ≡ a → ltb 1000000 budget ≡ high → m.running.halted ≡ halted → unless_barred a Err (cond high (Err BudgetTooHigh) (cond halted (Err HaltedMachine) (Ok tt))) ≡ Ok (tt {0}) → Admits m b budget
    go (Err r) high halted p q s e = absurd (cc)
    go (Ok u) true halted p q s e = absurd (cc)
    go (Ok u) false true p q s e = absurd (cc)
    go (Ok u) false false p q s e = record { admitted = p; low = ltb-false 1000000 budget q; runs = s }
