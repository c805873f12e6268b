-- `put_pointer`: of R4 to R6 one is picked, and the others stay.
use mathlib.Core.Path.{refl, ap₂}
use mathlib.Core.List.{◌∷◌}
use Rattle.cpu.proofs.registers.put_pointer.Goals as goal

pub returns : goal.returns
returns c =
    ap₂ ◌∷◌ refl
    (ap₂ ◌∷◌ refl
    (ap₂ ◌∷◌ refl
    (ap₂ ◌∷◌ refl
    (ap₂ ◌∷◌ c.pick.ensures
    (ap₂ ◌∷◌ c.pick-2.ensures
    (ap₂ ◌∷◌ c.pick-3.ensures refl))))))
