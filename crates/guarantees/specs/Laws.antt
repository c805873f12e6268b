-- That the words of demand 3 mean what they should.
use Rattle.std.specs.Prelude.{◌≡◌, true, false, List, [], ◌∷◌, ◌++◌}
use Rattle.cpu.specs.Steps.{StepMade}
use Rattle.guarantees.specs.Grants.{is_grant, grants, before_grant}

-- no step of these grants
unfoldable pub Ungranted : List StepMade → Type 0
Ungranted [] = Unit
Ungranted (x ∷ t) = (is_grant x.left.answer ≡ false) × Ungranted t

-- a list with a grant is the steps before its first grant, that grant, and the rest
pub record Parted (t : List StepMade) : Type 0 where
  pub grant : StepMade
  pub rest : List StepMade
  pub parts : t ≡ before_grant t ++ (grant ∷ rest)
  pub grant_is : is_grant grant.left.answer ≡ true
  pub first : Ungranted (before_grant t)

-- `grants` and `before_grant` mean what their names say
pub record GrantLaws : Type 0 where
  pub parted : (t : List StepMade) → grants t ≡ true → Parted t
  pub whole : (t : List StepMade) → grants t ≡ false → before_grant t ≡ t
  pub ungranted : (t : List StepMade) → grants t ≡ false → Ungranted t
