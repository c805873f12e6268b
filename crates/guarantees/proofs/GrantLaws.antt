-- Laws of a list of steps up to its first grant.
use Prim.Native.Nat.{ℕ, ◌+◌}
use mathlib.Core.Path.{◌≡◌, refl, ap, sym, subst, ◌∙◌}
use mathlib.Core.Bool.{Bool, true, false, cond, ◌||◌, true≢false}
use mathlib.Core.List.{List, [], ◌∷◌, ◌++◌}
use Rattle.refusal.specs.Report.{Report, is_refused}
use Rattle.word.proofs.Choice.{cond-true, cond-false}
use Rattle.cpu.specs.Answer.{StepDone, done, cycles_of}
use Rattle.cpu.specs.Steps.{StepMade, cycles_of_all, Unrefused}
use Rattle.guarantees.specs.Grants.{is_grant, grants, before_grant, step_untaken, last_untaken}
use Rattle.guarantees.specs.Laws.{Ungranted, Parted, GrantLaws}

-- a step that grants
module _ (x : StepMade) (t : List StepMade) (g : is_grant x.left.answer ≡ true) where
  pub grants-now : grants (x ∷ t) ≡ true
  unfolding grants
  grants-now = ap (λ b. b || grants t) g

  pub before-now : before_grant (x ∷ t) ≡ []
  unfolding before_grant
  before-now = cond-true _ _ g

-- a step that does not
module _ (x : StepMade) (t : List StepMade) (g : is_grant x.left.answer ≡ false) where
  pub grants-later : grants (x ∷ t) ≡ grants t
  unfolding grants
  grants-later = ap (λ b. b || grants t) g

  pub before-later : before_grant (x ∷ t) ≡ x ∷ before_grant t
  unfolding before_grant
  before-later = cond-false _ _ g

-- no steps, no grant
pub no-grant : {A : Type 0} → grants [] ≡ true → A
unfolding grants
no-grant g = absurd (true≢false (sym g))

parted-cons : (b : Bool) (x : StepMade) (t : List StepMade) → is_grant x.left.answer ≡ b → grants (x ∷ t) ≡ true → (grants t ≡ true → Parted t) → Parted (x ∷ t)
unfolding Ungranted
parted-cons true x t e g ih =
    let b = before-now x t e in
    record { grant = x; rest = t; parts = rw b; grant_is = e; first = subst Ungranted (sym b) tt }
parted-cons false x t e g ih =
    let k = ih (sym (grants-later x t e) ∙ g) in
    let b = before-later x t e in
    record {
      grant = k.grant;
      rest = k.rest;
      parts = ap (λ (s : List StepMade). x ∷ s) k.parts ∙ ap (λ (s : List StepMade). s ++ (k.grant ∷ k.rest)) (sym b);
      grant_is = k.grant_is;
      first = subst Ungranted (sym b) (e, k.first);
    }

parted : (t : List StepMade) → grants t ≡ true → Parted t
parted [] g = no-grant g
parted (x ∷ t) g = parted-cons (is_grant x.left.answer) x t refl g (λ h. parted t h)

whole-cons : (b : Bool) (x : StepMade) (t : List StepMade) → is_grant x.left.answer ≡ b → grants (x ∷ t) ≡ false → (grants t ≡ false → (before_grant t ≡ t) × Ungranted t) → (before_grant (x ∷ t) ≡ x ∷ t) × Ungranted (x ∷ t)
unfolding Ungranted
whole-cons true x t e g ih = absurd (true≢false (sym (grants-now x t e) ∙ g))
whole-cons false x t e g ih =
    let k = ih (sym (grants-later x t e) ∙ g) in
    (before-later x t e ∙ ap (λ (s : List StepMade). x ∷ s) k.0, (e, k.1))

-- a list with no grant is all before it, and no step of it grants
all-before : (t : List StepMade) → grants t ≡ false → (before_grant t ≡ t) × Ungranted t
unfolding before_grant Ungranted
all-before [] g = (refl, tt)
all-before (x ∷ t) g = whole-cons (is_grant x.left.answer) x t refl g (λ h. all-before t h)

pub grant-laws : GrantLaws
grant-laws =
    record { parted = parted; whole = λ t g. (all-before t g).0; ungranted = λ t g. (all-before t g).1 }

-- a step that makes an instruction: it is before the first grant, unrefused, and its cycles count
module _ (x : StepMade) (t : List StepMade) {n : ℕ} (e : x.left.answer ≡ done 5 n) where
  pub executed-later : is_grant x.left.answer ≡ false
  executed-later = ap is_grant e

  pub cycles-more : cycles_of_all (x ∷ t) ≡ n + cycles_of_all t
  unfolding cycles_of_all
  cycles-more = ap (λ (r : Report StepDone). cycles_of r + cycles_of_all t) e

  pub unrefused-more : Unrefused t → Unrefused (x ∷ t)
  unfolding Unrefused
  unrefused-more h = (ap is_refused e, h)

-- what the last instruction costs less than the walk charges
abbrev pub less : List StepMade → ℕ
less t = cond (last_untaken t) 2 0

pub less-last : (x : StepMade) → less (x ∷ []) ≡ cond (step_untaken x) 2 0
unfolding last_untaken
less-last x = refl

-- a step that does not count as the last
pub less-more : (x : StepMade) (t : List StepMade) → step_untaken x ≡ false → less (x ∷ t) ≡ less t
unfolding last_untaken
less-more x [] e = ap (λ (b : Bool). cond b 2 0) e
less-more x (y ∷ t) e = refl
