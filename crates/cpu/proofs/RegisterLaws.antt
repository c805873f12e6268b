-- Registers read by number, with R7 moved on.
use Prim.Native.Nat.{ℕ, ◌<◌}
use mathlib.Core.Path.{◌≡◌, refl, sym, subst, ◌∙◌}
use mathlib.Core.List.{List}
use lib.ListN.{get_or, length, set}
use Rattle.std.proofs.Common.{arith, cond, eqb}
use Rattle.std.proofs.lemmas.Bool.{cases_eq}
use Rattle.std.proofs.lemmas.Bool.Decides.{nat_tests}
use Rattle.std.proofs.lemmas.List.{get_or-set_same, get_or-set_other, length-set}
use Rattle.std.proofs.lemmas.Grind.{same_number_lists}
use Rattle.decode.proofs.OpcodeLaws.{by-eight}
use Rattle.cpu.specs.Machine.{with_register}

-- a register that is not R7 is read as before
pub other-register : (r : List ℕ) (next i : ℕ) → i < 8 → (i ≡ 7 → ⊥) → get_or r i 0 ≡ get_or (with_register 7 next r) i 0
other-register r next =
    by-eight (λ i. (i ≡ 7 → ⊥) → get_or r i 0 ≡ get_or (with_register 7 next r) i 0) (λ h. refl) (λ h. refl) (λ h. refl) (λ h. refl) (λ h. refl) (λ h. refl) (λ h. refl)
    (λ h. absurd (h refl))

-- R7 is the next address
pub counter : (r : List ℕ) (next i : ℕ) → i ≡ 7 → next ≡ get_or (with_register 7 next r) i 0
counter r next i e = subst (λ (n : ℕ). next ≡ get_or (with_register 7 next r) n 0) (sym e) refl

-- an array of eight with one word put is the eight registers with that one written
pub set-is : (r : List ℕ) (d v : ℕ) → length r ≡ 8 → d < 8 → set r d v ≡ with_register d v r
set-is r d v n h =
    same_number_lists (set r d v) (with_register d v r) (length-set r d v ∙ n)
    (λ k l. by-eight (λ k. get_or (set r d v) k 0 ≡ get_or (with_register d v r) k 0) (at 0) (at 1) (at 2) (at 3) (at 4) (at 5) (at 6) (at 7) k (omega (arith, length-set r d v)))
  where
    at : (k : ℕ) → get_or (set r d v) k 0 ≡ cond (eqb d k) v (get_or r k 0)
    at k = grind (arith, nat_tests, get_or-set_same, get_or-set_other, cases_eq k d)
