-- `without`: the letter stands first, or the value stays.
use Rattle.std.proofs.Common.{◌≡◌, ℕ, Bool, true, false, cond, ◌&&◌, eqb, Option, Some, None, Bor, List, [], ◌∷◌, ◌+◌, length, take, drop, sym, refl, ap, ◌∙◌}
use Rattle.std.specs.Cmp.Lexicographic.{pointwise}
use Rattle.std.specs.Option.{unwrap_or, MatchOption}
use Rattle.harness.specs.Forms.{without_first}
use Rattle.harness.proofs.form.without.Goals as goal

same_either : (t : Bool) (l : List ℕ) → cond t l l ≡ l
same_either true l = refl
same_either false l = refl

one_test : (b t : Bool) (l m : List ℕ) → (b && true) ≡ t → cond b l m ≡ cond t l m
one_test true true l m e = refl
one_test true false l m e = cc
one_test false true l m e = cc
one_test false false l m e = refl

stripped : (value : List ℕ) (letter : ℕ) (t : Bool) → pointwise eqb (take 1 value) (letter ∷ []) ≡ t → without_first value letter ≡ cond t (drop 1 value) value
unfolding without_first
stripped [] letter t e = same_either (eqb 0 letter) [] ∙ sym (same_either t [])
stripped (b ∷ bs) letter t e = one_test (eqb b letter) t bs (b ∷ bs) e

picked :
    (r : Option (Bor (List ℕ))) (v : Bor (List ℕ)) (letter : ℕ) →
    MatchOption r (pointwise eqb (take 1 v.now) (letter ∷ []) ≡ false)
    (λ x. (pointwise eqb (take 1 v.now) (letter ∷ []) ≡ true) × (x.now ≡ drop 1 v.now) × (length x.now + 1 ≡ length v.now)) →
    (unwrap_or r v).now ≡ without_first v.now letter
picked None v letter h = sym (stripped v.now letter false h)
picked (Some x) v letter h = h.1 ∙ sym (stripped v.now letter true h.0)

pub returns : goal.returns
returns c =
    let a = c.args in
    ap (λ (v : Bor (List ℕ)). v.now) c.unwrap_or.ensures ∙ picked c.strip_prefix.result a.value a.letter c.strip_prefix.ensures.cases
