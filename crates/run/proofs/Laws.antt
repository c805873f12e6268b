-- The laws of `specs/Laws`, by the turns of the run.
use Prim.Native.Nat.{ℕ, zero, suc, ◌+◌, ◌≤◌, ◌<◌}
use mathlib.Core.Path.{◌≡◌, refl, ap, ap₂, sym, subst, ◌∙◌}
use mathlib.Core.Bool.{Bool, true, false, true≢false, false≢true}
use native.Mathlib.Omega.{arith}
use Rattle.std.proofs.Common.{Ok}
use Rattle.refusal.specs.Report.{Report, refused, answered, is_refused, UnlessRefused}
use Rattle.refusal.proofs.ReportLaws.{reported-apart}
use Rattle.memory.specs.Bus.{Bus, admission_of}
use Rattle.cpu.specs.declared.Lines.{Lines}
use Rattle.cpu.specs.Machine.{Machine}
use Rattle.cpu.specs.Answer.{StepDone, cycles_of, meets_unspecified}
use Rattle.cpu.specs.Step.{Outcome, step_of, admitted_step}
use Rattle.cpu.specs.Steps.{steps_from, last_machine, last_bus, cycles_of_all, Unrefused}
use Rattle.cpu.proofs.ActionLaws.{step-admitted, step-charged, cycles-most}
use Rattle.run.specs.declared.Cause.{Cause}
use Rattle.run.specs.declared.Ended.{Ended}
use Rattle.run.specs.declared.Cause.TheVariants.{Budget}
use Rattle.run.specs.Run.{cause_number, RunDone, RunsApart, RunOutcome, refused_run, cause_of, finish, run_from, run_on}
use Rattle.run.specs.Laws.{repeated, Made, SumFixesSteps, MakesItsSteps, CyclesBelow, CauseSays, CauseIsRight, BudgetIsSpent, NoBudgetNoChange}
use Rattle.run.proofs.RunLaws.{answered-charged, ends-halted, ends-unspecified, ends-budget, Rests, budget_spent, machine_halted, form_unspecified, rests, by-turns, by-run}

-- the run from where it stands makes so many steps more
record Runs (l : Lines) (m : Machine) (b : Bus) (steps cycles : ℕ) (o : RunOutcome) : Type 0 where
  more : ℕ
  answer :
      o.answer
      ≡ answered (record {
        steps = steps + more;
        cycles = cycles + cycles_of_all (steps_from m b (repeated more l));
        cause = cause_number (cause_of o.machine o.bus l);
      })
  unrefused : Unrefused (steps_from m b (repeated more l))
  machine : o.machine ≡ last_machine m (steps_from m b (repeated more l))
  bus : o.bus ≡ last_bus b (steps_from m b (repeated more l))
  admitted : admission_of o.bus ≡ Ok tt

same-done : {steps steps' cycles cycles' : ℕ} (cause : ℕ) → steps ≡ steps' → cycles ≡ cycles' → ◌≡◌ {A = Report RunDone} (answered (record { steps = steps; cycles = cycles; cause = cause })) (answered (record { steps = steps'; cycles = cycles'; cause = cause }))
same-done cause p q = ap₂ (λ (s c : ℕ). answered (record { steps = s; cycles = c; cause = cause })) p q

no_more : (l : Lines) (m : Machine) (b : Bus) (steps cycles : ℕ) → admission_of b ≡ Ok tt → Runs l m b steps cycles (finish m b l steps cycles)
unfolding finish repeated steps_from cycles_of_all last_machine last_bus Unrefused
no_more l m b steps cycles s =
    record { more = 0; answer = same-done _ (omega arith) (omega arith); unrefused = tt; machine = refl; bus = refl; admitted = s }

-- a step that costs a cycle is not refused
charged-answers : (a : Report StepDone) → 1 ≤ cycles_of a → is_refused a ≡ false
charged-answers (refused n) h = absurd (omega arith)
charged-answers (answered x) h = refl

one_more : (l : Lines) (m : Machine) (b : Bus) (steps cycles : ℕ) (o : RunOutcome) → 1 ≤ cycles_of (step_of m b l).answer → Runs l (step_of m b l).machine (step_of m b l).bus (steps + 1) (cycles + cycles_of (step_of m b l).answer) o → Runs l m b steps cycles o
unfolding repeated steps_from cycles_of_all last_machine last_bus Unrefused
one_more l m b steps cycles o h r =
    record {
      more = suc r.more;
      answer = r.answer ∙ same-done _ (omega arith) (omega arith);
      unrefused = (charged-answers (step_of m b l).answer h, r.unrefused);
      machine = r.machine;
      bus = r.bus;
      admitted = r.admitted;
    }

runs : (m : Machine) (b : Bus) (l : Lines) (budget : ℕ) → admission_of b ≡ Ok tt → Runs l m b 0 0 (run_on m b l budget 0 0)
runs m b l budget s =
    by-turns l budget (Runs l)
    (λ m b steps cycles s e. no_more l m b steps cycles s)
    (λ m b steps cycles o k r. one_more l m b steps cycles o k.charged r)
    m b 0 0 s

step-answered : (m : Machine) (b : Bus) (l : Lines) → is_refused (step_of m b l).answer ≡ false → 1 ≤ cycles_of (step_of m b l).answer
step-answered m b l e = answered-charged (step_of m b l).answer (step-charged m b l) e

pub sum-fixes-steps : SumFixesSteps
unfolding repeated steps_from cycles_of_all Unrefused
sum-fixes-steps m b l zero zero p q e = refl
sum-fixes-steps m b l zero (suc k) p q e = absurd (omega (arith, step-answered m b l q.0, e))
sum-fixes-steps m b l (suc n) zero p q e = absurd (omega (arith, step-answered m b l p.0, e))
sum-fixes-steps m b l (suc n) (suc k) p q e =
    ap (λ (j : ℕ). suc j) (sum-fixes-steps (step_of m b l).machine (step_of m b l).bus l n k p.1 q.1 (omega (arith, e)))

pub makes-its-steps : MakesItsSteps
unfolding refused_run
makes-its-steps m b l budget =
    by-run m b l budget (λ (o : RunOutcome). UnlessRefused (Made m b l o) o.answer) (λ r. tt) (λ s. whole _ (runs m b l budget s))
  where
    whole : (o : RunOutcome) → Runs l m b 0 0 o → UnlessRefused (Made m b l o) o.answer
    whole o r =
        subst (UnlessRefused (Made m b l o)) (sym (r.answer ∙ same-done _ (omega arith) (omega arith)))
        (record { unrefused = r.unrefused; sum = refl; machine = r.machine; bus = r.bus })

pub cycles-below : CyclesBelow
unfolding refused_run finish
cycles-below m b l budget =
    let Below : RunOutcome → Type 0 = λ o. UnlessRefused (λ (x : RunDone). x.cycles < budget + 12) o.answer in
    by-run m b l budget Below (λ r. tt)
    (λ s.
    by-turns l budget (λ m b steps cycles o. cycles < budget + 12 → Below o)
    (λ m b steps cycles s e h. h)
    (λ m b steps cycles o k r h. r (omega (arith, k.below, cycles-most m b l)))
    m b 0 0 s (omega arith))

-- the cause says what holds at the end
cause-says : (l : Lines) (o : RunOutcome) (x : RunDone) → admission_of o.bus ≡ Ok tt → x.cause ≡ cause_number (cause_of o.machine o.bus l) → CauseSays l o x
cause-says l o x s e = go o.machine.running.halted (meets_unspecified (step_of o.machine o.bus l).answer) refl refl
  where
    met : meets_unspecified (admitted_step o.machine o.bus l).answer ≡ meets_unspecified (step_of o.machine o.bus l).answer
    met = ap (λ (y : Outcome). meets_unspecified y.answer) (sym (step-admitted o.machine o.bus l s))

    go : (h u : Bool) → o.machine.running.halted ≡ h → meets_unspecified (step_of o.machine o.bus l).answer ≡ u → CauseSays l o x
    go true u p q =
        let c = e ∙ ap cause_number (ends-halted o.machine o.bus l p) in
        record {
          halted = (λ x. p, λ x. c);
          unspecified = (λ x. absurd (omega (arith, c, x)), λ x. absurd (true≢false (sym p ∙ x.0)));
        }
    go false true p q =
        let c = e ∙ ap cause_number (ends-unspecified o.machine o.bus l p (met ∙ q)) in
        record {
          halted = (λ x. absurd (omega (arith, c, x)), λ x. absurd (false≢true (sym p ∙ x)));
          unspecified = (λ x. (p, q), λ x. c);
        }
    go false false p q =
        let c = e ∙ ap cause_number (ends-budget o.machine o.bus l p (met ∙ q)) in
        record {
          halted = (λ x. absurd (omega (arith, c, x)), λ x. absurd (false≢true (sym p ∙ x)));
          unspecified = (λ x. absurd (omega (arith, c, x)), λ x. absurd (false≢true (sym q ∙ x.1)));
        }

pub cause-is-right : CauseIsRight
unfolding refused_run
cause-is-right m b l budget =
    by-run m b l budget (λ (o : RunOutcome). UnlessRefused (CauseSays l o) o.answer) (λ r. tt) (λ s. whole _ (runs m b l budget s))
  where
    whole : (o : RunOutcome) → Runs l m b 0 0 o → UnlessRefused (CauseSays l o) o.answer
    whole o r = subst (UnlessRefused (CauseSays l o)) (sym r.answer) (cause-says l o _ r.admitted refl)

-- where the run rests and its cause is the budget, the budget is spent
rests-spent : (m : Machine) (b : Bus) (l : Lines) (budget cycles : ℕ) → Rests m b l budget cycles → cause_number (cause_of m b l) ≡ cause_number Budget → budget ≤ cycles
rests-spent m b l budget cycles (budget_spent h) e = h
rests-spent m b l budget cycles (machine_halted h) e = let c = ap cause_number (ends-halted m b l h) in absurd (omega (arith, c, e))
rests-spent m b l budget cycles (form_unspecified h u) e = let c = ap cause_number (ends-unspecified m b l h u) in absurd (omega (arith, c, e))

pub budget-is-spent : BudgetIsSpent
unfolding refused_run finish
budget-is-spent m b l budget =
    let Spent : RunOutcome → Type 0 = λ o. UnlessRefused (λ (x : RunDone). x.cause ≡ cause_number Budget → budget ≤ x.cycles) o.answer in
    by-run m b l budget Spent (λ r. tt)
    (λ s.
    by-turns l budget (λ m b steps cycles o. Spent o)
    (λ m b steps cycles s e. rests-spent m b l budget cycles (rests m b l budget cycles e))
    (λ m b steps cycles o k r. r)
    m b 0 0 s)

pub no-budget-no-change : NoBudgetNoChange
unfolding refused_run run_on run_from finish
no-budget-no-change m b l =
    by-run m b l 0 (λ (o : RunOutcome). (o.machine ≡ m) × (o.bus ≡ b)) (λ r. (refl, refl)) (λ s. (refl, refl))

-- no two causes share a number
same-cause : (a b : Cause) → cause_number a ≡ cause_number b → a ≡ b
same-cause a b e = grind arith

pub runs-apart : RunsApart
runs-apart =
    reported-apart _
    (λ a b e.
    let ended : ℕ → ℕ → Cause → Ended = λ s c k. record { steps = s; cycles = c; cause = k } in
    let spent = ap₂ ended (ap (λ (x : RunDone). x.steps) e) (ap (λ (x : RunDone). x.cycles) e) in
    ap₂ (λ (of : Cause → Ended) (k : Cause). of k) spent (same-cause a.cause b.cause (ap (λ (x : RunDone). x.cause) e)))
