-- The tests before a run, in the code's shape: what they answer decides between the refusal and the loop (`RunLaws.run-admits`).
use Rattle.std.specs.Prelude.{ℕ, cond, ltb, Result, Ok, Err}
use Rattle.refusal.specs.declared.Refusal.{Refusal}
use Rattle.refusal.specs.declared.Refusal.TheVariants.{BudgetTooHigh, Halted}
use Rattle.memory.specs.Bus.{Bus, admission_of, unless_barred}
use Rattle.cpu.specs.Machine.{Machine}

-- "Run tests 1, 4, 2.", and 14 after 1
unfoldable pub run_admission : Machine → Bus → ℕ → Result (Unit {0}) Refusal
run_admission m b budget =
    unless_barred (admission_of b) Err
    (cond (ltb 1000000 budget) (Err BudgetTooHigh) (cond m.running.halted (Err Halted) (Ok tt)))
