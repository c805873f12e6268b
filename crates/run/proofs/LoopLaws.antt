-- The code's loop by its own rule, with no count: its end is the run's, and with a budget of 1 it is one step.
use Prim.Native.Nat.{ℕ, zero, suc, ◌+◌, ◌-◌, ◌≤◌, ◌<◌}
use mathlib.Core.Path.{◌≡◌, refl, ap, ap₂, sym, ◌∙◌}
use mathlib.Core.Bool.{Bool, true, false, cond, false≢true}
use mathlib.Core.List.{List}
use native.Mathlib.Omega.{arith}
use lib.Dec.{eqb, ltb}
use lib.ListN.{length}
use borrow.Author.Tests.{eqb-false, ltb-true, ltb-false, le-ltb, lt-ltb, eq-eqb, ne_eqb}
use Rattle.std.proofs.Common.{Result, Ok, Err}
use Rattle.refusal.specs.declared.Refusal.{Refusal}
use Rattle.refusal.specs.Report.{Report, refused, answered, is_refused}
use Rattle.word.proofs.Choice.{cond-true, cond-false, cond_both}
use Rattle.memory.specs.declared.map.Board.{Board}
use Rattle.memory.specs.Bus.{Bus, bus_on, admission_of}
use Rattle.memory.specs.Near.{in_front, Near}
use Rattle.cpu.specs.declared.Lines.{Lines}
use Rattle.cpu.specs.declared.Done.{Done}
use Rattle.cpu.specs.declared.NearStep.{NearStep}
use Rattle.cpu.specs.Machine.{Machine, machine_of}
use Rattle.cpu.specs.Answer.{StepDone, step_report, cycles_of, meets_unspecified}
use Rattle.cpu.specs.Step.{refused_step, admitted_action, Outcome, made, step_of, admitted_step, outcome_near, near_after}
use Rattle.cpu.proofs.ActionLaws.{step-admitted, step-halted, admitted-charged, admitted-most, uncharged-keeps-all}
use Rattle.cpu.proofs.LocalLaws.{still-near, near_step}
use Rattle.run.specs.Run.{RunOutcome, finish, steps_on, run_on}
use Rattle.run.specs.Inner.Loop.{LoopEnd, unstepped, stop, loop_from, loop_on, loop_of}
use Rattle.run.proofs.RunLaws.{answered-charged, Goes, Rests, budget_spent, machine_halted, form_unspecified, rests, by-turns}

abbrev next : Lines → Outcome → Outcome
next l o = admitted_step o.machine o.bus l

abbrev cost : Lines → Outcome → ℕ
cost l o = cycles_of (next l o).answer

module _ (l : Lines) (budget : ℕ) where
  -- any two counts that suffice
  loop-same : (n k steps cycles : ℕ) (o : Outcome) → budget ≤ cycles + n → budget ≤ cycles + k → loop_from n l budget steps cycles o ≡ loop_from k l budget steps cycles o
  unfolding loop_from
  loop-same zero zero steps cycles o p q = refl
  loop-same zero (suc k) steps cycles o p q = sym (cond-false _ _ (le-ltb cycles budget (omega arith)))
  loop-same (suc n) zero steps cycles o p q = cond-false _ _ (le-ltb cycles budget (omega arith))
  loop-same (suc n) (suc k) steps cycles o p q =
      ap (λ (e : LoopEnd). cond (ltb cycles budget) e (stop steps cycles o))
      (turn (eqb (cost l o) 0) refl (λ h. loop-same n k (steps + 1) (cycles + cost l o) (next l o) (omega (arith, h)) (omega (arith, h))))
    where
      turn : {x y : LoopEnd} (t : Bool) → eqb (cost l o) 0 ≡ t → (1 ≤ cost l o → x ≡ y) → cond t (stop steps cycles (next l o)) x ≡ cond t (stop steps cycles (next l o)) y
      turn true e h = refl
      turn false e h = h (omega (arith, eqb-false (cost l o) 0 e))

  loop-equation : (steps cycles : ℕ) (o : Outcome) → loop_on l budget steps cycles o ≡ cond (ltb cycles budget) (cond (eqb (cost l o) 0) (stop steps cycles (next l o)) (loop_on l budget (steps + 1) (cycles + cost l o) (next l o))) (stop steps cycles o)
  unfolding loop_on loop_from
  loop-equation steps cycles o =
      loop-same (budget - cycles) (suc (budget - cycles)) steps cycles o (omega arith) (omega arith)
      ∙ ap (λ (e : LoopEnd). cond (ltb cycles budget) (cond (eqb (cost l o) 0) (stop steps cycles (next l o)) e) (stop steps cycles o))
      (loop-same (budget - cycles) (budget - (cycles + cost l o)) (steps + 1) (cycles + cost l o) (next l o) (omega arith) (omega arith))

  -- the loop by the way a turn goes
  module _ (steps cycles : ℕ) (o : Outcome) where
    pub loop-spent : budget ≤ cycles → loop_on l budget steps cycles o ≡ stop steps cycles o
    loop-spent h = loop-equation steps cycles o ∙ cond-false _ _ (le-ltb cycles budget h)

    pub loop-refused : cycles < budget → cost l o ≡ 0 → loop_on l budget steps cycles o ≡ stop steps cycles (next l o)
    loop-refused h z = loop-equation steps cycles o ∙ cond-true _ _ (lt-ltb cycles budget h) ∙ cond-true _ _ (eq-eqb _ 0 z)

    pub loop-on : cycles < budget → (cost l o ≡ 0 → ⊥) → loop_on l budget steps cycles o ≡ loop_on l budget (steps + 1) (cycles + cost l o) (next l o)
    loop-on h z = loop-equation steps cycles o ∙ cond-true _ _ (lt-ltb cycles budget h) ∙ cond-false _ _ (ne_eqb _ 0 z)

-- an answer of 3 costs nothing, nor does the step of a halted machine
unspecified-free : (a : Report StepDone) → meets_unspecified a ≡ true → cycles_of a ≡ 0
unspecified-free (refused n) e = refl
unspecified-free (answered x) e = absurd (false≢true e)

halted-free : (m : Machine) (b : Bus) (l : Lines) → admission_of b ≡ Ok tt → m.running.halted ≡ true → cycles_of (step_of m b l).answer ≡ 0
unfolding refused_step
halted-free m b l s h = ap (λ (o : Outcome). cycles_of o.answer) (step-halted m b l s h)

-- the run's outcome where the loop ends
abbrev pub ending_of : Lines → LoopEnd → RunOutcome
ending_of l e = finish e.left.machine e.left.bus l e.steps e.cycles

module _ (l : Lines) (budget : ℕ) where
  -- the loop goes on from what a step left; what the step answered does not count
  abbrev from : Machine → Bus → Report StepDone → Outcome
  from m b a = record { machine = m; answer = a; bus = b }

  abbrev EndsAlike : Machine → Bus → ℕ → ℕ → RunOutcome → Type 0
  EndsAlike m b steps cycles o = (a : Report StepDone) → o ≡ ending_of l (loop_on l budget steps cycles (from m b a))

  -- a step that costs nothing leaves all as it was
  end-free : (m : Machine) (b : Bus) (steps cycles : ℕ) → admission_of b ≡ Ok tt → cycles_of (step_of m b l).answer ≡ 0 → EndsAlike m b steps cycles (finish m b l steps cycles)
  end-free m b steps cycles s z a = go (ltb cycles budget) refl
    where
      go : (t : Bool) → ltb cycles budget ≡ t → finish m b l steps cycles ≡ ending_of l (loop_on l budget steps cycles (from m b a))
      go false p = ap (ending_of l) (sym (loop-spent l budget steps cycles (from m b a) (ltb-false cycles budget p)))
      go true p =
          let k = uncharged-keeps-all m b l z in
          let e = step-admitted m b l s in
          ap₂ (λ (x : Machine) (y : Bus). finish x y l steps cycles) (sym k.0) (sym k.1)
          ∙ ap (λ (o : Outcome). ending_of l (stop steps cycles o)) e
          ∙ ap (ending_of l) (sym (loop-refused l budget steps cycles (from m b a) (ltb-true cycles budget p) (ap (λ (o : Outcome). cycles_of o.answer) (sym e) ∙ z)))

  end-alike : (m : Machine) (b : Bus) (steps cycles : ℕ) → admission_of b ≡ Ok tt → steps_on m b l budget cycles ≡ false → EndsAlike m b steps cycles (finish m b l steps cycles)
  end-alike m b steps cycles s e = go (rests m b l budget cycles e)
    where
      go : Rests m b l budget cycles → EndsAlike m b steps cycles (finish m b l steps cycles)
      go (budget_spent h) = λ a. ap (ending_of l) (sym (loop-spent l budget steps cycles (from m b a) h))
      go (machine_halted h) = end-free m b steps cycles s (halted-free m b l s h)
      go (form_unspecified h u) = end-free m b steps cycles s (ap (λ (o : Outcome). cycles_of o.answer) (step-admitted m b l s) ∙ unspecified-free (admitted_step m b l).answer u)

  step-alike : (m : Machine) (b : Bus) (steps cycles : ℕ) (o : RunOutcome) → Goes m b l budget cycles → EndsAlike (step_of m b l).machine (step_of m b l).bus (steps + 1) (cycles + cycles_of (step_of m b l).answer) o → EndsAlike m b steps cycles o
  step-alike m b steps cycles o k r a =
      let e = step-admitted m b l k.admitted in
      let q = ap (λ (x : Outcome). cycles_of x.answer) e in
      r (step_of m b l).answer
      ∙ ap (λ (x : Outcome). ending_of l (loop_on l budget (steps + 1) (cycles + cycles_of x.answer) x)) e
      ∙ ap (ending_of l) (sym (loop-on l budget steps cycles (from m b a) k.below (λ z. omega (arith, k.charged, q, z))))

  pub loop-is-run : (m : Machine) (b : Bus) → admission_of b ≡ Ok tt → run_on m b l budget 0 0 ≡ ending_of l (loop_of m b l budget)
  unfolding loop_of
  loop-is-run m b s = by-turns l budget EndsAlike end-alike step-alike m b 0 0 s (unstepped m b).answer

-- a budget of 1 makes one step
pub loop-is-step : (m : Machine) (b : Bus) (l : Lines) → admission_of b ≡ Ok tt → (loop_of m b l 1).left ≡ step_of m b l
unfolding loop_of loop_on loop_from
loop-is-step m b l s =
    cond_both (λ (e : LoopEnd). e.left ≡ admitted_step m b l) (eqb (cycles_of (admitted_step m b l).answer) 0) refl refl
    ∙ sym (step-admitted m b l s)

-- the code's loop: the rest of it is the whole, no step was free, the last one went past the budget by less than its own cycles, the range is at hand,
-- and the memory has this length
pub record Looping (l : Lines) (budget : ℕ) (b : Board) (start : Outcome) (len : ℕ) (x : NearStep) (m : List ℕ) (steps cycles : ℕ) : Type 0 where
  pub same : loop_on l budget steps cycles (outcome_near b x m) ≡ loop_on l budget 0 0 start
  pub few : steps ≤ cycles
  pub below : cycles < budget + 12
  pub at_hand : Near b x.near
  pub size : length m ≡ len

module _ {l : Lines} {budget : ℕ} {b : Board} {start : Outcome} {len : ℕ} {x : NearStep} {m : List ℕ} {steps cycles : ℕ} (k : Looping l budget b start len x m steps cycles) where
  pub ends-spent : budget ≤ cycles → stop steps cycles (outcome_near b x m) ≡ loop_on l budget 0 0 start
  ends-spent h = sym (loop-spent l budget steps cycles (outcome_near b x m) h) ∙ k.same

  -- a step was made, with the range at hand that it answers
  module _ (y : NearStep) {n : List ℕ} (e : outcome_near b y n ≡ made (bus_on b m) (admitted_action (machine_of x.state) (bus_on (in_front y.near b) m) l)) (near : y.near ≡ near_after b x.near (machine_of x.state) l) (room : cycles < budget) where
    left : outcome_near b y n ≡ next l (outcome_near b x m)
    left = e ∙ near_step b x.near y.near (machine_of x.state) l k.at_hand near m

    pub ends-refused : {why : Refusal} → y.answer ≡ Err why → stop steps cycles (outcome_near b y n) ≡ loop_on l budget 0 0 start
    ends-refused r =
        ap (stop steps cycles) left
        ∙ sym (loop-refused l budget steps cycles (outcome_near b x m) room (ap (λ (o : Outcome). cycles_of o.answer) (sym left) ∙ ap (λ (a : Result Done Refusal). cycles_of (step_report a)) r))
        ∙ k.same

    -- it was not refused, and did this
    module _ {d : Done} (r : y.answer ≡ Ok d) where
      costs : cost l (outcome_near b x m) ≡ d.cycles
      costs = ap (λ (o : Outcome). cycles_of o.answer) (sym left) ∙ ap (λ (a : Result Done Refusal). cycles_of (step_report a)) r

      pub costs-few : d.cycles ≤ 12
      costs-few = omega (arith, costs, admitted-most (machine_of x.state) (bus_on b m) l)

      pub costs-some : 1 ≤ d.cycles
      costs-some =
          omega (
            arith,
            costs,
            answered-charged (next l (outcome_near b x m)).answer (admitted-charged (machine_of x.state) (bus_on b m) l) (ap (λ (o : Outcome). is_refused o.answer) (sym left) ∙ ap (λ (a : Result Done Refusal). is_refused (step_report a)) r),
          )

      pub goes-round : length n ≡ length m → Looping l budget b start len y n (steps + 1) (cycles + d.cycles)
      goes-round h =
          record {
            same =
                ap₂ (λ (c : ℕ) (o : Outcome). loop_on l budget (steps + 1) (cycles + c) o) (sym costs) left
                ∙ sym (loop-on l budget steps cycles (outcome_near b x m) room (λ z. omega (arith, z, costs, costs-some)))
                ∙ k.same;
            few = omega (arith, k.few, costs-some);
            below = omega (arith, costs-few);
            at_hand = still-near b x.near y.near (machine_of x.state) l k.at_hand near;
            size = h ∙ k.size;
          }
