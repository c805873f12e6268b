-- No two answers of a step are reported alike.
use Prim.Native.Nat.{ℕ}
use mathlib.Core.Path.{◌≡◌, ap, ap₂}
use native.Mathlib.Omega.{arith}
use Rattle.refusal.proofs.ReportLaws.{reported-apart}
use Rattle.cpu.specs.declared.Kind.{Kind}
use Rattle.cpu.specs.Answer.{StepDone, kind_number, StepsApart}

same-kind : (a b : Kind) → kind_number a ≡ kind_number b → a ≡ b
same-kind a b e = grind arith

pub steps_apart : StepsApart
steps_apart =
    reported-apart _
    (λ a b e. ap₂ (λ (k : Kind) (n : ℕ). record { kind = k; cycles = n }) (same-kind a.kind b.kind (ap (λ (x : StepDone). x.kind) e)) (ap (λ (x : StepDone). x.cycles) e))
