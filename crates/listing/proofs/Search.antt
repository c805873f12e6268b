-- The search that `specs/Assemble` defines: what it finds, where all that can be found is alike.
use Prim.Native.Nat.{ℕ, zero, suc, ◌<◌}
use mathlib.Core.Path.{◌≡◌, refl, sym, ap, ◌∙◌}
use mathlib.Core.List.{List}
use native.Mathlib.Nat.{not-suc-le-zero}
use native.Mathlib.Decide.{dec_lt}
use native.Mathlib.Omega.{arith}
use Rattle.refusal.specs.declared.Refusal.TheVariants.{NotAListingLine}
use Rattle.refusal.specs.Refusals.{refusal_number}
use Rattle.refusal.specs.Report.{Report, refused, answered}
use Rattle.refusal.proofs.ReportLaws.{no_answer}
use Rattle.listing.specs.Assemble.{no_line, or_else, any_below}

-- a report that answers v, if anything
abbrev pub Only : List ℕ → Report (List ℕ) → Type 0
Only v (refused n) = n ≡ refusal_number NotAListingLine
Only v (answered ws) = ws ≡ v

or-only : (v : List ℕ) (r s : Report (List ℕ)) → Only v r → Only v s → Only v (or_else r s)
or-only v (refused n) s p q = q
or-only v (answered ws) s p q = p

pub any-only : (v : List ℕ) (n : ℕ) (f : ℕ → Report (List ℕ)) → ((k : ℕ) → k < n → Only v (f k)) → Only v (any_below n f)
unfolding any_below
any-only v zero f h = refl
any-only v (suc n) f h = or-only v (f n) (any_below n f) (h n (omega arith)) (any-only v n f (λ k l. h k (omega arith)))

pub any_some : (v : List ℕ) (n : ℕ) (f : ℕ → Report (List ℕ)) → ((k : ℕ) → k < n → Only v (f k)) → (k : ℕ) → k < n → f k ≡ answered v
    → any_below n f ≡ answered v
unfolding any_below
any_some v zero f h k l e = absurd (not-suc-le-zero l)
any_some v (suc n) f h k l e = go (f n) refl (h n (omega arith)) (λ m. any_some v n f (λ j i. h j (omega arith)) k m e)
  where
    below : (r : ℕ) → f n ≡ refused r → Dec (k < n) → k < n
    below r p (yes m) = m
    below r p (no m) = let z : n ≡ k = omega arith in no_answer (sym p ∙ ap f z ∙ e)

    go : (r : Report (List ℕ)) → f n ≡ r → Only v r → (k < n → any_below n f ≡ answered v) → or_else r (any_below n f) ≡ answered v
    go (refused r) p o ih = ih (below r p (dec_lt k n))
    go (answered ws) p o ih = ap answered o

pub any_none : (n : ℕ) (f : ℕ → Report (List ℕ)) → ((k : ℕ) → k < n → f k ≡ no_line) → any_below n f ≡ no_line
unfolding any_below
any_none zero f h = refl
any_none (suc n) f h = rw (h n (omega arith)) (any_none n f (λ k l. h k (omega arith)))

-- where something is found
pub record Place (v : List ℕ) (n : ℕ) (f : ℕ → Report (List ℕ)) : Type 0 where
  pub number : ℕ
  pub low : number < n
  pub answers : f number ≡ answered v

pub any_place : (v : List ℕ) (n : ℕ) (f : ℕ → Report (List ℕ)) → any_below n f ≡ answered v → Place v n f
unfolding any_below
any_place v zero f e = no_answer e
any_place v (suc n) f e = go (f n) refl e (λ d. any_place v n f d)
  where
    go : (r : Report (List ℕ)) → f n ≡ r → or_else r (any_below n f) ≡ answered v → (any_below n f ≡ answered v → Place v n f) → Place v (suc n) f
    go (refused r) p d ih = let q = ih d in let l = q.low in record { number = q.number; low = omega arith; answers = q.answers }
    go (answered ws) p d ih = record { number = n; low = omega arith; answers = p ∙ d }
