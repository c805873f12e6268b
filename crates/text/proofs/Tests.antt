-- Tests that are computed at every number below a bound, and what they show at each; and texts that are compared.
use Prim.Native.Nat.{ℕ, zero, suc, ◌<◌}
use mathlib.Core.Path.{◌≡◌, refl, subst}
use mathlib.Core.Bool.{Bool, true, false, ◌&&◌}
use mathlib.Core.List.{List, [], ◌∷◌}
use native.Mathlib.Nat.{not-suc-le-zero}
use native.Mathlib.Decide.{dec_lt}
use native.Mathlib.Omega.{arith}
use lib.Dec.{T, eqb}
use borrow.Author.Tests.{eq-eqb, eqb-true}
use Rattle.text.specs.Text.{same_text}

pub both_left : (a b : Bool) → T (a && b) → T a
both_left true b t = tt
both_left false b t = absurd t

pub both_right : (a b : Bool) → T (a && b) → T b
both_right true b t = t
both_right false b t = absurd t

-- a test at each number below n
abbrev pub below : (ℕ → Bool) → ℕ → Bool
below f zero = true
below f (suc n) = f n && below f n

pub below_at : (f : ℕ → Bool) (n : ℕ) → T (below f n) → (k : ℕ) → k < n → T (f k)
below_at f zero t k h = absurd (not-suc-le-zero h)
below_at f (suc n) t k h = go (dec_lt k n) (λ l. below_at f n (both_right (f n) (below f n) t) k l)
  where
    go : Dec (k < n) → (k < n → T (f k)) → T (f k)
    go (yes l) ih = ih l
    go (no m) ih = let e : n ≡ k = omega arith in subst (λ (x : ℕ). T (f x)) e (both_left (f n) (below f n) t)

-- a flag has one value
pub clash : {A : Type 0} {b : Bool} → b ≡ true → b ≡ false → A
clash e f = let z : ◌≡◌ {A = ℕ} 0 1 = cc in absurd (omega arith)

pub and_left : (a b : Bool) → (a && b) ≡ true → a ≡ true
and_left true b e = refl
and_left false b e = e

pub and_right : (a b : Bool) → (a && b) ≡ true → b ≡ true
and_right true b e = e
and_right false b e = clash e refl

same_self : (l : List ℕ) → same_text l l ≡ true
same_self [] = refl
same_self (x ∷ l) = rw (eq-eqb x x refl) (same_self l)

pub same_true : (l m : List ℕ) → l ≡ m → same_text l m ≡ true
same_true l m e = subst (λ (k : List ℕ). same_text l k ≡ true) e (same_self l)

pub same-eq : (l m : List ℕ) → same_text l m ≡ true → l ≡ m
same-eq [] [] e = refl
same-eq [] (y ∷ m) e = clash e refl
same-eq (x ∷ l) [] e = clash e refl
same-eq (x ∷ l) (y ∷ m) e =
    let q = eqb-true x y (and_left (eqb x y) (same_text l m) e) in
    let t = same-eq l m (and_right (eqb x y) (same_text l m) e) in
    cc
