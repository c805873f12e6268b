-- `put_high`: of R4 to R7 one is picked, and R0 to R3 stay.
use mathlib.Core.Path.{refl, ap₂, sym}
use mathlib.Core.List.{◌∷◌}
use native.Mathlib.Omega.{arith}
use borrow.Author.Tests.{ne_eqb}
use Rattle.word.proofs.Choice.{cond-false}
use Rattle.cpu.proofs.registers.put_high.Goals as goal

pub returns : goal.returns
returns c =
    ap₂ ◌∷◌ (sym (cond-false _ _ (ne_eqb c.args.d 0 (λ e. omega (arith, e, c.requires)))))
    (ap₂ ◌∷◌ (sym (cond-false _ _ (ne_eqb c.args.d 1 (λ e. omega (arith, e, c.requires)))))
    (ap₂ ◌∷◌ (sym (cond-false _ _ (ne_eqb c.args.d 2 (λ e. omega (arith, e, c.requires)))))
    (ap₂ ◌∷◌ (sym (cond-false _ _ (ne_eqb c.args.d 3 (λ e. omega (arith, e, c.requires)))))
    (ap₂ ◌∷◌ c.pick.ensures
    (ap₂ ◌∷◌ c.pick-2.ensures
    (ap₂ ◌∷◌ c.pick-3.ensures
    (ap₂ ◌∷◌ c.pick-4.ensures refl)))))))
