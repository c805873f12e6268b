-- The plan of a step, as the code comes by it: quiet lines first.
use mathlib.Core.Path.{◌≡◌, refl, ap, sym, ◌∙◌}
use mathlib.Core.Bool.{Bool, true, false, not, cond, ◌&&◌, ◌||◌, true≢false}
use mathlib.Core.List.{[]}
use Rattle.cpu.specs.declared.Status.{Status}
use Rattle.cpu.specs.declared.Lines.{Lines}
use Rattle.cpu.specs.declared.Plan.{Plan}
use Rattle.cpu.specs.declared.Plan.TheVariants.{Halting, Granting, Interrupting, Executing}
use Rattle.cpu.specs.Step.{plan_of}
use Rattle.cpu.specs.Inner.Parts.{machine_in}

-- items 1 and 3 to 5 by what they test
abbrev chosen : Bool → Bool → Bool → Bool → Bool → Plan
chosen halted ready busrq i pending =
    cond halted Halting (cond (ready && not busrq) Granting (cond (ready && (i && pending)) Interrupting Executing))

plan-is : (k : Status) (l : Lines) → plan_of (machine_in [] k) l ≡ chosen k.halted k.ready l.busrq k.i k.pending
unfolding plan_of
plan-is k l = refl

-- without a request nothing but the instruction is left
quiet : (ready busrq i pending intrm : Bool) → (intrm ≡ true → pending ≡ false) → ((intrm && busrq) || not ready) ≡ true → chosen false ready busrq i pending ≡ Executing
quiet false busrq i pending intrm h e = refl
quiet true true true pending true h e = ap (λ (p : Bool). chosen false true true true p) (h refl)
quiet true true false pending true h e = refl
quiet true false i pending true h e = absurd (true≢false (sym e))
quiet true busrq i pending false h e = absurd (true≢false (sym e))

-- with one the machine is ready
ready-is : (quiet ready : Bool) → (quiet || not ready) ≡ false → ready ≡ true
ready-is true ready e = absurd (true≢false e)
ready-is false true e = refl
ready-is false false e = absurd (true≢false e)

module _ (k : Status) (l : Lines) where
  pub plan-halted : k.halted ≡ true → plan_of (machine_in [] k) l ≡ Halting
  plan-halted h = plan-is k l ∙ ap (λ (t : Bool). chosen t k.ready l.busrq k.i k.pending) h

  running : k.halted ≡ false → plan_of (machine_in [] k) l ≡ chosen false k.ready l.busrq k.i k.pending
  running h = plan-is k l ∙ ap (λ (t : Bool). chosen t k.ready l.busrq k.i k.pending) h

  pub plan-quiet : k.halted ≡ false → (l.intrm ≡ true → k.pending ≡ false) → ((l.intrm && l.busrq) || not k.ready) ≡ true → plan_of (machine_in [] k) l ≡ Executing
  plan-quiet h p q = running h ∙ quiet k.ready l.busrq k.i k.pending l.intrm p q

  asked : k.halted ≡ false → ((l.intrm && l.busrq) || not k.ready) ≡ false → plan_of (machine_in [] k) l ≡ chosen false true l.busrq k.i k.pending
  asked h q = running h ∙ ap (λ (t : Bool). chosen false t l.busrq k.i k.pending) (ready-is (l.intrm && l.busrq) k.ready q)

  pub plan-grants : k.halted ≡ false → ((l.intrm && l.busrq) || not k.ready) ≡ false → not l.busrq ≡ true → plan_of (machine_in [] k) l ≡ Granting
  plan-grants h q g = asked h q ∙ ap (λ (t : Bool). cond t Granting (cond (k.i && k.pending) Interrupting Executing)) g

  pub plan-last : k.halted ≡ false → ((l.intrm && l.busrq) || not k.ready) ≡ false → not l.busrq ≡ false → (t : Bool) → (k.i && k.pending) ≡ t → plan_of (machine_in [] k) l ≡ cond t Interrupting Executing
  plan-last h q g t e =
      asked h q ∙ ap (λ (x : Bool). cond x Granting (cond (k.i && k.pending) Interrupting Executing)) g ∙ ap (λ (x : Bool). cond x Interrupting Executing) e
