-- On an all-RAM map a run does what it does on the lent words: each of its steps does, and its end asks for one more.
use Prim.Native.Nat.{ℕ, zero, suc, ◌+◌, ◌-◌}
use mathlib.Core.Path.{◌≡◌, refl, ap, sym, subst, ◌∙◌}
use mathlib.Core.Bool.{Bool, true, false, not, cond, ◌&&◌}
use mathlib.Core.List.{List}
use lib.Dec.{ltb}
use Rattle.std.proofs.Common.{Result, Ok, Err}
use Rattle.refusal.specs.Report.{answered}
use Rattle.refusal.specs.declared.Refusal.{Refusal}
use Rattle.memory.specs.declared.map.Board.{Board}
use Rattle.memory.specs.Bus.{Bus, bus_of, on_board, bus_on, admission_of}
use Rattle.memory.specs.Laws.{AllRam}
use Rattle.memory.proofs.BusLaws.{unless-in}
use Rattle.memory.proofs.AllRamLaws.{all-ram-laws}
use Rattle.cpu.specs.declared.Lines.{Lines}
use Rattle.cpu.specs.Machine.{Machine}
use Rattle.cpu.specs.Answer.{cycles_of, meets_unspecified}
use Rattle.cpu.specs.Step.{Outcome, admitted_step}
use Rattle.cpu.specs.Laws.{Plain}
use Rattle.cpu.proofs.ActionLaws.{step-admitted, keeps_admission, leaves-words}
use Rattle.cpu.proofs.AllRamLaws.{admitted-all-ram}
use Rattle.run.specs.declared.Cause.TheVariants.{Halted, Unspecified, Budget}
use Rattle.run.specs.Run.{cause_number, RunOutcome, refused_run, cause_of, finish, steps_on, run_from, run_on, run_of}
use Rattle.run.specs.AllRam.{run_outcome_on, AllRamRuns}
use Rattle.run.proofs.RunLaws.{run-barred}

module _ (b : Board) where
  -- either outcome is put on the board
  either : (t : Bool) {x y : RunOutcome} (p q : RunOutcome) → x ≡ run_outcome_on b p → y ≡ run_outcome_on b q → cond t x y ≡ run_outcome_on b (cond t p q)
  either true p q e f = e
  either false p q e f = f

  module _ (h : AllRam b) (l : Lines) (budget : ℕ) where
    finish-alike : (m : Machine) (words : List ℕ) (steps cycles : ℕ) → admission_of (bus_of words) ≡ Ok tt → finish m (bus_on b words) l steps cycles ≡ run_outcome_on b (finish m (bus_of words) l steps cycles)
    unfolding finish cause_of
    finish-alike m words steps cycles s =
        ap (λ (o : Outcome). record { machine = m; answer = answered (record { steps = steps; cycles = cycles; cause = cause_number (cond m.running.halted Halted (cond (meets_unspecified o.answer) Unspecified Budget)) }); bus = bus_on b words })
        (admitted-all-ram b h m words l s)

    from-alike : (n : ℕ) (m : Machine) (words : List ℕ) (steps cycles : ℕ) → admission_of (bus_of words) ≡ Ok tt → run_from n m (bus_on b words) l budget steps cycles ≡ run_outcome_on b (run_from n m (bus_of words) l budget steps cycles)
    unfolding run_from steps_on
    from-alike zero m words steps cycles s = finish-alike m words steps cycles s
    from-alike (suc n) m words steps cycles s =
        let next : Outcome → RunOutcome = λ o. run_from n o.machine o.bus l budget (steps + 1) (cycles + cycles_of o.answer) in
        let goes : Outcome → Bool = λ o. ltb cycles budget && (not m.running.halted && not (meets_unspecified o.answer)) in
        let left : Outcome = admitted_step m (bus_of words) l in
        let by = step-admitted m (bus_of words) l s in
        let after : Plain left.bus = subst (λ (o : Outcome). Plain o.bus) by (leaves-words.plain m words l) in
        let lent : admission_of left.bus ≡ Ok tt = subst (λ (o : Outcome). admission_of o.bus ≡ Ok tt) by (keeps_admission m (bus_of words) l ∙ s) in
        ap (λ (o : Outcome). cond (goes o) (next o) (finish m (bus_on b words) l steps cycles)) (admitted-all-ram b h m words l s)
        ∙ either (goes left) (next left) (finish m (bus_of words) l steps cycles)
        (subst (λ (d : Bus). admission_of d ≡ Ok tt → run_from n left.machine (on_board b d) l budget (steps + 1) (cycles + cycles_of left.answer) ≡ run_outcome_on b (run_from n left.machine d l budget (steps + 1) (cycles + cycles_of left.answer)))
        (sym after.lent)
        (from-alike n left.machine after.words (steps + 1) (cycles + cycles_of left.answer))
        lent)
        (finish-alike m words steps cycles s)

pub all-ram-runs : AllRamRuns
unfolding run_of refused_run run_on
all-ram-runs b h m words l budget = by-admission (admission_of (bus_of words)) refl
  where
    by-admission : (a : Result (Unit {0}) Refusal) → admission_of (bus_of words) ≡ a → run_of m (bus_on b words) l budget ≡ run_outcome_on b (run_of m (bus_of words) l budget)
    by-admission (Ok u) s =
        unless-in _ _ (all-ram-laws.admits b words h ∙ s)
        ∙ either b (ltb 1000000 budget) _ _ refl (either b m.running.halted _ _ refl (from-alike b h l budget (budget - 0) m words 0 0 s))
        ∙ ap (run_outcome_on b) (sym (unless-in _ _ s))
    by-admission (Err r) s =
        run-barred m (bus_on b words) l budget (all-ram-laws.admits b words h ∙ s)
        ∙ ap (run_outcome_on b) (sym (run-barred m (bus_of words) l budget s))
