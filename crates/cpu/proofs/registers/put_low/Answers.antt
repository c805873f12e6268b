-- `put_low`: of R0 to R3 one is picked, and R4 to R7 stay.
use mathlib.Core.Path.{refl, ap₂, sym}
use mathlib.Core.List.{◌∷◌}
use native.Mathlib.Omega.{arith}
use borrow.Author.Tests.{ne_eqb}
use Rattle.word.proofs.Choice.{cond-false}
use Rattle.cpu.proofs.registers.put_low.Goals as goal

pub returns : goal.returns
returns c =
    ap₂ ◌∷◌ c.pick.ensures
    (ap₂ ◌∷◌ c.pick-2.ensures
    (ap₂ ◌∷◌ c.pick-3.ensures
    (ap₂ ◌∷◌ c.pick-4.ensures
    (ap₂ ◌∷◌ (sym (cond-false _ _ (ne_eqb c.args.d 4 (λ e. omega (arith, e, c.requires)))))
    (ap₂ ◌∷◌ (sym (cond-false _ _ (ne_eqb c.args.d 5 (λ e. omega (arith, e, c.requires)))))
    (ap₂ ◌∷◌ (sym (cond-false _ _ (ne_eqb c.args.d 6 (λ e. omega (arith, e, c.requires)))))
    (ap₂ ◌∷◌ (sym (cond-false _ _ (ne_eqb c.args.d 7 (λ e. omega (arith, e, c.requires))))) refl)))))))
