-- What a step reports: "The answer names 3, 4 or 5 and the cycles", or the refusal's number.
use Rattle.std.specs.Prelude.{ℕ, Bool, false, eqb, Result}
use Rattle.refusal.specs.declared.Refusal.{Refusal}
use Rattle.refusal.specs.declared.Refusal.TheVariants.{Unspecified}
use Rattle.refusal.specs.Refusals.{refusal_number, reported}
use Rattle.refusal.specs.Report.{Report, refused, answered, OneToOne}
use Rattle.cpu.specs.declared.Kind.{Kind}
use Rattle.cpu.specs.declared.Kind.TheVariants.{Granted, Interrupted, Executed}
use Rattle.cpu.specs.declared.Done.{Done}

-- the kinds are the order's numbers: 3 the bus is granted, 4 an interrupt is served, 5 one instruction
pub record StepDone : Type 0 where
  pub kind : ℕ
  pub cycles : ℕ

abbrev pub done : ℕ → ℕ → Report StepDone
done kind cycles = answered (record { kind = kind; cycles = cycles })

abbrev pub kind_number : Kind → ℕ
kind_number Granted = 3
kind_number Interrupted = 4
kind_number Executed = 5

abbrev pub step_report : Result Done Refusal → Report StepDone
step_report answer = reported (λ d. record { kind = kind_number d.kind; cycles = d.cycles }) answer

-- no two answers are reported alike
abbrev pub StepsApart : Type 0
StepsApart = OneToOne step_report

-- the cycles that a step answers; "a refused step adds none"
abbrev pub cycles_of : Report StepDone → ℕ
cycles_of (refused n) = 0
cycles_of (answered x) = x.cycles

-- a step "refused by 3"
abbrev pub meets_unspecified : Report StepDone → Bool
meets_unspecified (refused n) = eqb n (refusal_number Unspecified)
meets_unspecified (answered x) = false
