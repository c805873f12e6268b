-- One step of a machine that stands where the walk stands.
use Rattle.std.proofs.Common.{Option, Some, Ok}
use Prim.Native.Nat.{ℕ, ◌+◌}
use mathlib.Core.Path.{◌≡◌, refl, ap, ap₂, sym, ◌∙◌}
use mathlib.Core.Bool.{Bool, true, false, not, cond, ◌&&◌, true≢false}
use native.Mathlib.Omega.{arith}
use Rattle.word.specs.Word.{wrap_add}
use Rattle.word.proofs.Choice.{cond-false}
use Rattle.memory.specs.Bus.{Bus, read_of, admission_of}
use Rattle.decode.specs.declared.Instr.{Instr}
use Rattle.decode.specs.declared.Instr.TheVariants.{Hlt, Control, Jump, Single, Gswd, Nop, Sin, Shift, Register, Branch, Store, Read}
use Rattle.decode.specs.Fields.{is_nopp}
use Rattle.decode.specs.Decode.{decode_at}
use Rattle.decode.specs.Rows.{interruptible_entry, branch_cycles, branch_entry, row_of}
use Rattle.cpu.specs.declared.Lines.{Lines}
use Rattle.cpu.specs.declared.Plan.TheVariants.{Granting, Interrupting, Executing}
use Rattle.cpu.specs.Machine.{Machine, register}
use Rattle.cpu.specs.Answer.{done}
use Rattle.cpu.specs.Branch.{is_taken}
use Rattle.cpu.specs.Execute.{instruction_cycles}
use Rattle.cpu.specs.Step.{noted, plan_of, granted, executed_from, executed, decoded, Outcome, step_of}
use Rattle.cpu.specs.Steps.{StepMade}
use Rattle.cpu.specs.Laws.{Executes, ByItsRow}
use Rattle.cpu.proofs.ActionLaws.{step-by-plan, step-executes, keeps_admission}
use Rattle.cpu.proofs.RowMarks.{goes-by-its-row}
use Rattle.cpu.proofs.BranchLaws.{nopp-untaken}
use Rattle.meter.specs.declared.walk.Place.{Place}
use Rattle.guarantees.specs.Grants.{is_grant, is_untaken, decoded_untaken, step_untaken}

-- a machine that stands at a place of the walk, where a request can't yet be heard
pub record Here (m : Machine) (b : Bus) (p : Place) : Type 0 where
  pub admitted : admission_of b ≡ Ok (tt {0})
  pub pc : register 7 m ≡ p.address
  pub mark : m.switches.d ≡ p.double
  pub running : m.running.halted ≡ false
  pub unready : m.running.ready ≡ false

-- once ready, and with the request low, the bus is granted
pub step-granted : (m : Machine) (b : Bus) (l : Lines) → admission_of b ≡ Ok (tt {0}) → m.running.halted ≡ false → m.running.ready ≡ true → l.busrq ≡ false → is_grant (step_of m b l).answer ≡ true
unfolding plan_of noted granted
step-granted m b l p q r s =
    ap (λ (o : Outcome). is_grant o.answer)
    (step-by-plan m b l Granting p
    (cond-false _ _ q ∙ ap₂ (λ (x y : Bool). cond (x && not y) Granting (cond (x && ((noted m l).switches.i && (noted m l).intrm.mark)) Interrupting Executing)) r s))

-- "9 taken, 7 not", beside 9 for every branch but NOPP, which is not taken
branch-charged : (taken nopp : Bool) → (nopp ≡ true → taken ≡ false) → branch_cycles taken + cond (not nopp && not taken) 2 0 ≡ branch_cycles (not nopp)
unfolding branch_cycles
branch-charged true true h = absurd (true≢false (h refl))
branch-charged true false h = refl
branch-charged false true h = refl
branch-charged false false h = refl

-- an instruction and what it costs less make its row's cycles
charged : (i : Instr) (double : Bool) (m : Machine) (l : Lines) → instruction_cycles i (row_of i double) l.external (noted m l) + cond (is_untaken i m l) 2 0 ≡ (row_of i double).cycles
charged Hlt double m l = omega arith
charged (Control d) double m l = omega arith
charged Jump double m l = omega arith
charged (Single s d) double m l = omega arith
charged (Gswd d) double m l = omega arith
charged (Nop n) double m l = omega arith
charged (Sin n) double m l = omega arith
charged (Shift s d) double m l = omega arith
charged (Register row s d) double m l = omega arith
charged (Branch b) double m l =
    unfold noted branch_entry interruptible_entry in
    branch-charged (is_taken m.flags l.external b) (is_nopp b) (nopp-untaken m.flags l.external b)
charged (Store s d) double m l = omega arith
charged (Read row s d) double m l = omega arith

-- only a branch costs less, and it is interruptible
plain-untaken : (i : Instr) (double : Bool) (m : Machine) (l : Lines) → (row_of i double).interruptible ≡ false → is_untaken i m l ≡ false
plain-untaken Hlt double m l u = refl
plain-untaken (Control d) double m l u = refl
plain-untaken Jump double m l u = refl
plain-untaken (Single s d) double m l u = refl
plain-untaken (Gswd d) double m l u = refl
plain-untaken (Nop n) double m l u = refl
plain-untaken (Sin n) double m l u = refl
plain-untaken (Shift s d) double m l u = refl
plain-untaken (Register row s d) double m l u = refl
plain-untaken (Branch b) double m l u = unfold branch_entry interruptible_entry in absurd (true≢false u)
plain-untaken (Store s d) double m l u = refl
plain-untaken (Read row s d) double m l u = refl

-- the step that is made there
module _ (m : Machine) (b : Bus) (l : Lines) where
  abbrev pub step_made : StepMade
  step_made = record { machine = m; bus = b; lines = l; left = step_of m b l }

  module _ {p : Place} {i : Instr} (h : Here m b p) (e : decode_at (read_of b) p.address p.double ≡ Some i) where
    -- what the machine's own address and mark decode to
    decodes : decoded m b ≡ Some i
    decodes = ap₂ (λ (a : ℕ) (d : Bool). decode_at (read_of b) a d) h.pc h.mark ∙ e

    plans : plan_of (noted m l) l ≡ Executing
    unfolding plan_of noted
    plans =
        cond-false _ _ h.running
        ∙ ap (λ (x : Bool). cond (x && not l.busrq) Granting (cond (x && ((noted m l).switches.i && (noted m l).intrm.mark)) Interrupting Executing)) h.unready

    makes : Executes m b l i
    makes = record { admitted = h.admitted; plan = plans; instruction = decodes }

    -- what it answers, and whether it is an untaken branch: together its row's cycles
    abbrev pub step_cycles : ℕ
    step_cycles = instruction_cycles i (row_of i m.switches.d) l.external (noted m l)

    pub step-answer : (step_of m b l).answer ≡ done 5 step_cycles
    unfolding executed executed_from noted
    step-answer = ap (λ (o : Outcome). o.answer) (step-executes m b l i makes)

    pub step-untaken : step_untaken step_made ≡ is_untaken i m l
    unfolding step_untaken
    step-untaken = ap (λ (x : Option Instr). decoded_untaken x m l) decodes

    pub step-charged : step_cycles + cond (step_untaken step_made) 2 0 ≡ (row_of i p.double).cycles
    step-charged = rw (step-untaken, ← h.mark) (charged i m.switches.d m l)

    -- what it leaves beside its result is its row's
    pub step-by-row : ByItsRow (row_of i p.double) m (step_of m b l).machine
    unfolding noted
    step-by-row =
        let k = goes-by-its-row i (noted m l) b l in
        rw (step-executes m b l i makes, ← h.mark) (record { double = k.double; ready = k.ready; halted = k.halted; in_line = k.in_line })

    -- after a row that is neither interruptible nor halts, the machine stands where the walk goes on
    module _ (u : (row_of i p.double).interruptible ≡ false) (s : (row_of i p.double).halts ≡ false) where
      pub step-here : {q : Place} → q.address ≡ wrap_add p.address (row_of i p.double).words → q.double ≡ (row_of i p.double).double → Here (step_of m b l).machine (step_of m b l).bus q
      step-here a d =
          let k = step-by-row in
          record {
            admitted = keeps_admission m b l ∙ h.admitted;
            pc = k.in_line u ∙ ap (λ (n : ℕ). wrap_add n (row_of i p.double).words) h.pc ∙ sym a;
            mark = k.double ∙ sym d;
            running = k.halted h.running ∙ s;
            unready = k.ready ∙ u;
          }

      pub step-whole : step_untaken step_made ≡ false
      step-whole = step-untaken ∙ plain-untaken i p.double m l u

      pub whole-answer : (step_of m b l).answer ≡ done 5 (row_of i p.double).cycles
      whole-answer = let c = rw step-whole at step-charged in step-answer ∙ ap (done 5) (omega arith)
