-- A caller who keeps calling makes the list of steps.
use Prim.Native.Nat.{ℕ, ◌≤◌}
use mathlib.Core.Path.{◌≡◌, refl, ap, ◌∙◌}
use mathlib.Core.Bool.{true}
use mathlib.Core.List.{List, [], ◌∷◌, map as each}
use native.Mathlib.Omega.{arith}
use borrow.Author.Tests.{le-ltb}
use lib.ListN.{length}
use Rattle.memory.specs.Bus.{Bus}
use Rattle.cpu.specs.Step.{Outcome}
use Rattle.cpu.specs.Steps.{StepMade, steps_from}
use Rattle.cp1610.specs.Words.{state_length, unpacked, packed, lines_of}
use Rattle.cp1610.specs.MapWords.{is_map}
use Rattle.cp1610.specs.Called.{Called, call_by}
use Rattle.cp1610.specs.Call.{step_call}
use Rattle.cp1610.specs.Read.{items_in, memory_in, read_step}
use Rattle.cp1610.specs.Laws.{calls_from, CallsAreSteps}
use Rattle.cp1610.proofs.RuleLaws.{by-told}
use Rattle.cp1610.proofs.ReportLaws.{told-step}
use Rattle.cp1610.proofs.ReadLaws.{read-step}

-- the state stays long enough
stays-long : (words map : List ℕ) (b : Bus) (n : ℕ) →
    state_length ≤ length words →
    is_map map ≡ true →
    state_length ≤ length (items_in (call_by (step_call words map b n)) 0)
unfolding step_call packed unpacked
stays-long words map b n h whole =
    by-told _ _ (step_call words map b n) (λ r c. state_length ≤ length (items_in c 0))
    (rw (le-ltb (length words) state_length h, whole)) (told-step (unpacked words) b (lines_of n) refl)
    (λ k low kept. h)
    (λ x k. omega arith)

pub calls-are-steps : CallsAreSteps
unfolding calls_from steps_from
calls-are-steps words map b [] h whole = refl
calls-are-steps words map b (n ∷ ns) h whole =
    let c : Called = call_by (step_call words map b n) in
    let after : Outcome → List Outcome = λ o. each (λ (x : StepMade). x.left) (steps_from o.machine o.bus (each lines_of ns)) in
    ap (λ (t : List Outcome). read_step c ∷ t) (calls-are-steps (items_in c 0) map (memory_in c 1) ns (stays-long words map b n h whole) whole)
    ∙ ap (λ (o : Outcome). o ∷ after o) (read-step words map b n h whole)
