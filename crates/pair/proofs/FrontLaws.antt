-- Laws of what stands at the front of a text, and of lines: printed, and read again.
use Prim.Native.Nat.{ℕ, ◌<◌, ◌≤◌}
use mathlib.Core.Path.{◌≡◌, refl, sym, ap, ◌∙◌}
use mathlib.Core.Bool.{Bool, true, false, cond, ◌&&◌}
use mathlib.Core.List.{List, [], ◌∷◌, ◌++◌}
use mathlib.Core.Logic.{◌⊎◌, inl, inr}
use native.Mathlib.Omega.{arith}
use lib.Dec.{eqb}
use lib.ListN.{length, get_or, take, drop, length-append}
use borrow.Author.Tests.{eq-eqb, ne_eqb, eqb-true, lt-leb, le-leb}
use Rattle.std.proofs.Common.{None, Some, Ok, Err}
use Rattle.std.specs.Cmp.Lexicographic.{pointwise}
use Rattle.std.proofs.lemmas.Bool.Decides.{nat_tests}
use Rattle.refusal.specs.declared.Refusal.{Refusal}
use Rattle.refusal.specs.declared.Refusal.TheVariants.{MalformedMapping}
use Rattle.text.specs.Text.{hex_of, digit_value, line_feed}
use Rattle.text.proofs.Digits.{digit-laws}
use Rattle.text.proofs.Tests.{clash, and_left, and_right}
use Rattle.pair.specs.declared.line.Mapping.{Mapping}
use Rattle.pair.specs.Format.{mapping_line, line_bytes}
use Rattle.pair.specs.Read.{mapping_at, begins_with, is_line, front_of}

-- a text that is too short does not begin with another
pub begins-short : (text front : List ℕ) → length text < length front → begins_with text front ≡ false
begins-short text [] h = absurd (omega arith)
begins-short [] (b ∷ front) h = refl
begins-short (a ∷ text) (b ∷ front) h = go (eqb a b) (begins-short text front (omega arith))
  where
    go : (t : Bool) → begins_with text front ≡ false → (t && begins_with text front) ≡ false
    go true e = e
    go false e = refl

-- what a text begins with stands in it
pub begins-is : (text front : List ℕ) → begins_with text front ≡ true → text ≡ front ++ drop (length front) text
begins-is text [] e = refl
begins-is [] (b ∷ front) e = clash e refl
begins-is (a ∷ text) (b ∷ front) e =
    let q = eqb-true a b (and_left (eqb a b) (begins_with text front) e) in
    let t = begins-is text front (and_right (eqb a b) (begins_with text front) e) in
    cc

pub begins-with : (front rest : List ℕ) → begins_with (front ++ rest) front ≡ true
begins-with [] rest = refl
begins-with (b ∷ front) rest = rw (eq-eqb b b refl) (begins-with front rest)

-- what the library's two tests of a front say: each compares the bytes one by one, as the definition does, one of them the other way round
eqb-swap : (a b : ℕ) → eqb b a ≡ eqb a b
eqb-swap a b = grind (arith, nat_tests)

pub starts-begins : (text front : List ℕ) → pointwise eqb front (take (length front) text) ≡ begins_with text front
starts-begins text [] = refl
starts-begins [] (b ∷ front) = refl
starts-begins (a ∷ text) (b ∷ front) = rw (eqb-swap a b, starts-begins text front)

pub strips-begins : (text front : List ℕ) → pointwise eqb (take (length front) text) front ≡ begins_with text front
strips-begins text [] = refl
strips-begins [] (b ∷ front) = refl
strips-begins (a ∷ text) (b ∷ front) = rw (strips-begins text front)

-- four digits make a number below 65,536
pub digit-low-at : (l : List ℕ) (i : ℕ) {v : ℕ} → v ≡ digit_value (get_or l i 0) → v < 16
digit-low-at l i e = rw e (digit-laws.low (get_or l i 0))

-- a line has as many bytes whatever its numbers
pub line-length : (m : Mapping) → length (mapping_line m) ≡ line_bytes
unfolding mapping_line hex_of
line-length m = refl

-- What stands at the front, by the code's tests.
first-is : (b : ℕ) (text : List ℕ) → 0 < length text → begins_with text (b ∷ []) ≡ eqb (get_or text 0 0) b
first-is b [] h = absurd (omega arith)
first-is b (a ∷ text) h = go (eqb a b)
  where
    go : (t : Bool) → (t && true) ≡ t
    go true = refl
    go false = refl

module _ (text : List ℕ) (some : 0 < length text) where
  pub front-blank : get_or text 0 0 ≡ line_feed → Ok None ≡ front_of text
  unfolding front_of
  front-blank e = rw (first-is line_feed text some, eq-eqb _ _ e)

  module _ (other : get_or text 0 0 ≡ line_feed → ⊥) where
    as_line : front_of text ≡ cond (is_line text (mapping_at text)) (Ok (Some (mapping_at text))) (Err MalformedMapping)
    unfolding front_of
    as_line = rw (first-is line_feed text some, ne_eqb _ _ other)

    pub front-short : length text < line_bytes → Err MalformedMapping ≡ front_of text
    front-short h =
        sym (as_line ∙ rw (begins-short text (mapping_line (mapping_at text)) (omega (arith, line-length (mapping_at text)))))

    pub front_above : (mapping_at text).last < (mapping_at text).first → Err MalformedMapping ≡ front_of text
    front_above h = sym (as_line ∙ rw (lt-leb _ _ h) (go (begins_with text (mapping_line (mapping_at text)))))
      where
        go : (t : Bool) → cond (t && false) (Ok (Some (mapping_at text))) (Err MalformedMapping) ≡ Err MalformedMapping
        go true = refl
        go false = refl

    module _ (h : (mapping_at text).first ≤ (mapping_at text).last) where
      pub front-line : begins_with text (mapping_line (mapping_at text)) ≡ true → Ok (Some (mapping_at text)) ≡ front_of text
      front-line e = sym (as_line ∙ rw (e, le-leb _ _ h))

      pub front-differs : begins_with text (mapping_line (mapping_at text)) ≡ false → Err MalformedMapping ≡ front_of text
      front-differs e = sym (as_line ∙ rw e)

-- the one refusal of a front
pub front-refused : (text : List ℕ) (r : Refusal) → Err r ≡ front_of text → r ≡ MalformedMapping
unfolding front_of
front-refused text r = go (begins_with text (line_feed ∷ [])) (is_line text (mapping_at text))
  where
    go : (u v : Bool) → Err r ≡ cond u (Ok None) (cond v (Ok (Some (mapping_at text))) (Err MalformedMapping)) → r ≡ MalformedMapping
    go true v e = let z : ◌≡◌ {A = ℕ} 0 1 = cc in absurd (omega arith)
    go false true e = let z : ◌≡◌ {A = ℕ} 0 1 = cc in absurd (omega arith)
    go false false e = cc

-- where no empty line stands at the front, a mapping's line does, or the front is malformed
pub front-other : (text : List ℕ) → 0 < length text → (get_or text 0 0 ≡ line_feed → ⊥) → (Ok (Some (mapping_at text)) ≡ front_of text) ⊎ (Err MalformedMapping ≡ front_of text)
front-other text some other = rw (as_line text some other) (go (is_line text (mapping_at text)))
  where
    go : (t : Bool) → (Ok (Some (mapping_at text)) ≡ cond t (Ok (Some (mapping_at text))) (Err MalformedMapping)) ⊎ (Err MalformedMapping ≡ cond t (Ok (Some (mapping_at text))) (Err MalformedMapping))
    go true = inl refl
    go false = inr refl

-- a text that begins with another is no shorter
pub begins-length : (text front : List ℕ) → begins_with text front ≡ true → length front ≤ length text
begins-length text front e = omega (arith, ap length (begins-is text front e), length-append front (drop (length front) text))
