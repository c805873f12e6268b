-- I after a jump, by the two bits in turn.
use Prim.Native.Nat.{ℕ, ◌%◌}
use mathlib.Core.Path.{◌≡◌, refl}
use mathlib.Core.Bool.{Bool, true, false, cond}
use mathlib.Core.List.{[], ◌∷◌}
use native.Mathlib.Omega.{arith}
use lib.Dec.{eqb}
use lib.ListN.{get_or}
use Rattle.decode.specs.Fields.{interrupts_after}
use Rattle.decode.proofs.OpcodeLaws.{by-eight}
use Rattle.std.proofs.lemmas.Bool.{eq-eqb, ne_eqb}
use Rattle.cpu.proofs.control.interrupts_after.Goals as goal

bits-say : (second : ℕ) (i : Bool) → interrupts_after second i ≡ cond (eqb (second % 4) 0) i (eqb (second % 4) 1)
unfolding interrupts_after
bits-say second i =
    by-eight (λ n. get_or (i ∷ true ∷ []) n false ≡ cond (eqb n 0) i (eqb n 1)) refl refl refl refl refl refl refl refl (second % 4) (omega arith)

pub returns-then-bits-eq0 : goal.returns-then-bits-eq0
returns-then-bits-eq0 c = rw (bits-say, eq-eqb _ _ c.if-bits-eq0.true)

pub returns-else-bits-eq0 : goal.returns-else-bits-eq0
returns-else-bits-eq0 c = rw (bits-say, ne_eqb _ _ c.if-bits-eq0.false)
