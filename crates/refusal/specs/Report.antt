-- What a call answers: the number of its refusal, or its answer. Every call's answer is told through this one type.
use Rattle.std.specs.Prelude.{ℕ, ◌≡◌, Bool, true, false}

-- "A refusal hands back its number, no other result"
pub data Report (A : Type 0) : Type 0 where
  refused : ℕ → Report A
  answered : A → Report A

abbrev pub is_refused : {A : Type 0} → Report A → Bool
is_refused (refused n) = true
is_refused (answered x) = false

-- "unless it refuses": what holds of the answer, where there is one
abbrev pub UnlessRefused : {A : Type 0} → (A → Type 0) → Report A → Type 0
UnlessRefused holds (refused n) = Unit
UnlessRefused holds (answered x) = holds x

-- a telling under which no two are alike: what is told determines what was answered
abbrev pub OneToOne : {A B : Type 0} → (A → B) → Type 0
OneToOne {A} tells = (a b : A) → tells a ≡ tells b → a ≡ b
