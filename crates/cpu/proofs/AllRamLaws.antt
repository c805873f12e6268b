-- On an all-RAM map a step does what it does on the lent words.
use Prim.Native.Nat.{ℕ}
use mathlib.Core.Path.{◌≡◌, refl, ap, sym, subst, ◌∙◌}
use mathlib.Core.List.{List, [], ◌∷◌, map}
use Rattle.std.proofs.Common.{Result, Ok, Err}
use Rattle.refusal.specs.declared.Refusal.{Refusal}
use Rattle.memory.specs.declared.map.Board.{Board}
use Rattle.memory.specs.Bus.{Bus, bus_of, on_board, bus_on, Store, keep, put, stored, admission_of}
use Rattle.memory.specs.Laws.{AllRam}
use Rattle.memory.proofs.AllRamLaws.{all-ram-laws}
use Rattle.cpu.specs.declared.Lines.{Lines}
use Rattle.cpu.specs.Machine.{Machine}
use Rattle.cpu.specs.Step.{refused_step, admitted_action, Outcome, made, step_of, admitted_step}
use Rattle.cpu.specs.Steps.{StepMade, steps_from}
use Rattle.cpu.specs.AllRam.{outcome_on, step_on, AllRamSteps}
use Rattle.cpu.proofs.ActionLaws.{step-admitted, step-barred, leaves-words}
use Rattle.cpu.proofs.LocalLaws.{goes-by-reads}

module _ (b : Board) (h : AllRam b) where
  -- who is let in stores alike
  stored-alike : (words : List ℕ) → admission_of (bus_of words) ≡ Ok tt → (s : Store) → stored (bus_on b words) s ≡ on_board b (stored (bus_of words) s)
  stored-alike words e keep = refl
  stored-alike words e (put a w) = all-ram-laws.stores b words h e a w

  pub admitted-all-ram : (m : Machine) (words : List ℕ) (l : Lines) → admission_of (bus_of words) ≡ Ok tt → admitted_step m (bus_on b words) l ≡ outcome_on b (admitted_step m (bus_of words) l)
  unfolding admitted_step
  admitted-all-ram m words l e =
      ap (made (bus_on b words)) (goes-by-reads m (bus_on b words) (bus_of words) l (all-ram-laws.reads b words h e))
      ∙ ap (λ (s : Bus). record { machine = (admitted_action m (bus_of words) l).machine; answer = (admitted_action m (bus_of words) l).answer; bus = s })
      (stored-alike words e (admitted_action m (bus_of words) l).store)

  one : (m : Machine) (words : List ℕ) (l : Lines) → step_of m (bus_on b words) l ≡ outcome_on b (step_of m (bus_of words) l)
  unfolding refused_step
  one m words l = by-admission (admission_of (bus_of words)) refl
    where
      by-admission : (a : Result (Unit {0}) Refusal) → admission_of (bus_of words) ≡ a → step_of m (bus_on b words) l ≡ outcome_on b (step_of m (bus_of words) l)
      by-admission (Ok u) e =
          step-admitted m (bus_on b words) l (all-ram-laws.admits b words h ∙ e)
          ∙ admitted-all-ram m words l e
          ∙ ap (outcome_on b) (sym (step-admitted m (bus_of words) l e))
      by-admission (Err r) e =
          step-barred m (bus_on b words) l (all-ram-laws.admits b words h ∙ e)
          ∙ ap (outcome_on b) (sym (step-barred m (bus_of words) l e))

  -- a list of steps, from lent words that are known to be such
  list : (ls : List Lines) (m : Machine) (words : List ℕ) → steps_from m (bus_on b words) ls ≡ map (step_on b) (steps_from m (bus_of words) ls)
  unfolding steps_from
  list [] m words = refl
  list (l ∷ ls) m words =
      let left : Outcome = step_of m (bus_of words) l in
      let after = leaves-words.plain m words l in
      ap (λ (o : Outcome). record { machine = m; bus = bus_on b words; lines = l; left = o } ∷ steps_from o.machine o.bus ls) (one m words l)
      ∙ ap (λ (ts : List StepMade). record { machine = m; bus = bus_on b words; lines = l; left = outcome_on b left } ∷ ts)
      (subst (λ (s : Bus). steps_from left.machine (on_board b s) ls ≡ map (step_on b) (steps_from left.machine s ls)) (sym after.lent) (list ls left.machine after.words))

pub all-ram-steps : AllRamSteps
all-ram-steps = record { one = one; list = λ b h m words ls. list b h ls m words }
