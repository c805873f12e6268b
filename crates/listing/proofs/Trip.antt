-- The words of an entry's line give the entry again, and are the entry's words, cut; and the entry is the same whatever follows them.
use Prim.Native.Nat.{ℕ, ◌%◌, ◌<◌, ◌≤◌}
use mathlib.Core.Path.{◌≡◌, refl}
use mathlib.Core.Bool.{Bool, true, false, cond, ◌&&◌, ◌||◌}
use mathlib.Core.List.{List, [], ◌∷◌}
use native.Mathlib.Omega.{arith}
use lib.Dec.{eqb, T, lit<, lit≤}
use lib.ListN.{length, get_or}
use borrow.Author.Tests.{eqb-true}
use Rattle.decode.specs.Fields.{joined}
use Rattle.decode.specs.Decode.{instruction_of}
use Rattle.decode.specs.Rows.{row_of}
use Rattle.listing.specs.Line.{line_operand}
use Rattle.listing.specs.Cut.{cut_words}
use Rattle.listing.specs.Inner.Encode.{first_words}
use Rattle.listing.specs.Inner.Rows.{template_of}
use Rattle.listing.specs.Inner.Entry.{row_entry_for}
use Rattle.listing.proofs.Table.{shows_operand}
use Rattle.listing.proofs.EntryWith.{entry_with, cut_with, Trip}
use Rattle.listing.proofs.JumpTrip.{jump-again, trip-jump, trip-none}
use Rattle.listing.proofs.Opcodes.{counts-at, plain-line, shape}
use Rattle.listing.proofs.PlainTrip.{by_count, plain-cut, trip-plain}

pub trip : (w a b : ℕ) (double : Bool) → w < 1024 → a < 65536 → Trip w a b double
trip w a b double h k = go (eqb w 4) refl (eqb (a % 4) 3) refl
  where
    go : (i : Bool) → eqb w 4 ≡ i → (j : Bool) → eqb (a % 4) 3 ≡ j → Trip w a b double
    go true e true f = rw (eqb-true w 4 e) (trip-none a b double f)
    go true e false f = rw (eqb-true w 4 e) (trip-jump a b double f)
    go false e j f = trip-plain w a b double h e k

-- An instruction of n words lists alike whatever follows them: p and q stand after its opcode, and agree with the words, cut, as far as
-- these go.
pub record Agree (n p q : ℕ) (ws : List ℕ) : Type 0 where
  pub second : 1 < n → p ≡ get_or ws 1 0
  pub third : 2 < n → q ≡ get_or ws 2 0

same_operand : (w a b p q n : ℕ) (c : Bool) → T (cond (eqb n 1) true (c && (eqb n 2 || eqb n 3)))
    → Agree n p q (first_words (plain-cut n w a b) n) → line_operand n p q ≡ line_operand n a b
unfolding line_operand joined
same_operand w a b p q n c t =
    by_count (λ (n : ℕ). Agree n p q (first_words (plain-cut n w a b) n) → line_operand n p q ≡ line_operand n a b)
    (λ s. refl)
    (λ s. s.second (lit< tt))
    (λ s. let i : p ≡ a % 256 = s.second (lit< tt) in let j : q ≡ b % 256 = s.third (lit< tt) in omega arith)
    n c t

count-length : (ws : List ℕ) (n : ℕ) (c : Bool) → T (cond (eqb n 1) true (c && (eqb n 2 || eqb n 3))) → (1 ≤ n) × (length (first_words ws n) ≡ n)
count-length ws n c t =
    by_count (λ (n : ℕ). (1 ≤ n) × (length (first_words ws n) ≡ n)) (lit≤ tt, refl) (lit≤ tt, refl) (lit≤ tt, refl) n c t

agree-4 : (a b : ℕ) (double : Bool) (p q : ℕ) → eqb (a % 4) 3 ≡ false → Agree (entry_with 4 a b double).words p q (cut_with 4 a b double)
    → entry_with 4 p q double ≡ entry_with 4 a b double
unfolding entry_with cut_with cut_words
agree-4 a b double p q f s =
    let t : Agree 3 p q (4 ∷ a % 1024 ∷ b % 1024 ∷ []) = rw f at s in
    let i : p ≡ a % 1024 = t.second (lit< tt) in
    let j : q ≡ b % 1024 = t.third (lit< tt) in
    rw (i, j) (jump-again a b double f)

agree-jump : (w a b : ℕ) (double : Bool) (p q : ℕ) → w ≡ 4 → eqb (a % 4) 3 ≡ false → Agree (entry_with w a b double).words p q (cut_with w a b double)
    → entry_with w p q double ≡ entry_with w a b double
agree-jump w a b double p q e f = rw e (λ s. agree-4 a b double p q f s)

agree-plain : (w a b : ℕ) (double : Bool) → w < 1024 → eqb w 4 ≡ false → (p q : ℕ) → Agree (entry_with w a b double).words p q (cut_with w a b double)
    → entry_with w p q double ≡ entry_with w a b double
unfolding entry_with cut_with cut_words row_entry_for
agree-plain w a b double h e p q s =
    let n = (row_of (instruction_of w) double).words in
    let t : Agree n p q (first_words (plain-cut n w a b) n) = rw e at s in
    rw e
    (rw (plain-line w h e (line_operand n p q) p q, plain-line w h e (line_operand n a b) a b, same_operand w a b p q n (shows_operand (template_of (shape w).row)) (counts-at w h e double) t))

module _ (w a b : ℕ) (double : Bool) (h : w < 1024) where
  pub cut-length : (1 ≤ (entry_with w a b double).words) × (length (cut_with w a b double) ≡ (entry_with w a b double).words)
  unfolding cut_with entry_with row_entry_for
  cut-length = go (eqb w 4) refl (eqb (a % 4) 3) refl
    where
      go : (i : Bool) → eqb w 4 ≡ i → (j : Bool) → eqb (a % 4) 3 ≡ j → (1 ≤ (entry_with w a b double).words) × (length (cut_with w a b double) ≡ (entry_with w a b double).words)
      go true e true f = rw (e, f) (lit≤ tt, refl)
      go true e false f = rw (e, f) (lit≤ tt, refl)
      go false e j f = rw e (count-length (cut_words (row_of (instruction_of w) double).words w a b) (row_of (instruction_of w) double).words (shows_operand (template_of (shape w).row)) (counts-at w h e double))

  pub agree-entry : (p q : ℕ) → (eqb w 4 ≡ true → eqb (a % 4) 3 ≡ true → ⊥) → Agree (entry_with w a b double).words p q (cut_with w a b double)
      → entry_with w p q double ≡ entry_with w a b double
  agree-entry p q apart s = go (eqb w 4) refl (eqb (a % 4) 3) refl
    where
      go : (i : Bool) → eqb w 4 ≡ i → (j : Bool) → eqb (a % 4) 3 ≡ j → entry_with w p q double ≡ entry_with w a b double
      go true e true f = absurd (apart e f)
      go true e false f = agree-jump w a b double p q (eqb-true w 4 e) f s
      go false e j f = agree-plain w a b double h e p q s
