-- By an input, or by a condition and its negation.
use Prim.Native.Nat.{ℕ, zero, suc, ◌<◌}
use mathlib.Core.Path.{◌≡◌, refl}
use mathlib.Core.Bool.{Bool, true, false, not, cond, beq}
use native.Mathlib.Omega.{arith}
use lib.Dec.{eqb}
use Rattle.cpu.specs.Branch.{condition_holds, is_taken}
use Rattle.std.proofs.lemmas.Bool.Decides.{nat_tests}
use Rattle.cpu.proofs.branch.is_taken.Goals as goal

-- a condition is compared with the bit's being clear
negated : (holds : Bool) (n : ℕ) → n < 2 → beq holds (eqb n 0) ≡ cond (eqb n 1) (not holds) holds
negated true zero h = refl
negated false zero h = refl
negated true (suc zero) h = refl
negated false (suc zero) h = refl
negated holds (suc (suc n)) h = absurd (omega arith)

pub returns-then-by_input : goal.returns-then-by_input
unfolding is_taken
returns-then-by_input c = rw c.if-by_input.true

pub returns-else-by_input : goal.returns-else-by_input
unfolding is_taken condition_holds
returns-else-by_input c = grind (arith, nat_tests)
