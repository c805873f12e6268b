-- Laws of all lines: what a front shows, and the lines by their own rule.
use Prim.Native.Nat.{ℕ, zero, suc, ◌<◌, ◌≤◌}
use mathlib.Core.Path.{◌≡◌, refl, sym, ap, subst, ◌∙◌}
use mathlib.Core.Bool.{Bool, true, false, cond}
use mathlib.Core.List.{List, [], ◌∷◌, ◌++◌}
use native.Mathlib.Omega.{arith}
use lib.Dec.{eqb, leb}
use lib.ListN.{length, drop, length-append, length-drop}
use borrow.Author.Tests.{eq-eqb, ne_eqb, eqb-false, leb-true}
use Rattle.std.proofs.Common.{Option, None, Some, Result, Ok, Err}
use Rattle.refusal.specs.declared.Refusal.{Refusal}
use Rattle.refusal.specs.declared.Refusal.TheVariants.{MalformedMapping}
use Rattle.word.proofs.Choice.{cond-true, cond-false}
use Rattle.text.proofs.Tests.{and_left, and_right}
use Rattle.pair.specs.declared.line.Mapping.{Mapping}
use Rattle.text.specs.Text.{line_feed}
use Rattle.pair.specs.Format.{mapping_line, line_bytes}
use Rattle.pair.specs.Read.{mapping_at, begins_with, is_line, front_of, listed, with_mapping, following, mappings_from, mappings_below}
use Rattle.pair.specs.Laws.{MappingsEquation}
use Rattle.pair.proofs.FrontLaws.{begins-is, line-length}

-- two cases of a front are never alike
no_front : {A : Type 0} → ◌≡◌ {A = ℕ} 0 1 → A
no_front z = absurd (omega arith)

-- What a mapping's line at the front shows.
pub record LineShown (text : List ℕ) (m : Mapping) : Type 0 where
  pub is : text ≡ mapping_line m ++ drop line_bytes text
  pub read : mapping_at text ≡ m
  pub ordered : m.first ≤ m.last
  pub complete : line_bytes ≤ length text

shown : (text : List ℕ) → is_line text (mapping_at text) ≡ true → LineShown text (mapping_at text)
shown text b =
    let m = mapping_at text in
    let s = begins_with text (mapping_line m) in
    let o = leb m.first m.last in
    let t = rw (line-length m) at (begins-is text (mapping_line m) (and_left s o b)) in
    record {
      is = t;
      read = refl;
      ordered = leb-true m.first m.last (and_right s o b);
      complete = omega (arith, ap length t, length-append (mapping_line m) (drop line_bytes text), line-length m);
    }

pub line-shown : (text : List ℕ) (m : Mapping) → front_of text ≡ Ok (Some m) → LineShown text m
unfolding front_of
line-shown text m = go (begins_with text (line_feed ∷ [])) (is_line text (mapping_at text)) refl
  where
    go : (u v : Bool) → is_line text (mapping_at text) ≡ v → cond u (Ok None) (cond v (Ok (Some (mapping_at text))) (Err MalformedMapping)) ≡ Ok (Some m) → LineShown text m
    go true v b e = no_front (cc)
    go false false b e = no_front (cc)
    go false true b e = let r : mapping_at text ≡ m = cc in subst (LineShown text) r (shown text b)

-- .. and an empty line
pub blank-shown : (text : List ℕ) → front_of text ≡ Ok None → text ≡ line_feed ∷ drop 1 text
unfolding front_of
blank-shown text = go (begins_with text (line_feed ∷ [])) (is_line text (mapping_at text)) refl
  where
    go : (u v : Bool) → begins_with text (line_feed ∷ []) ≡ u → cond u (Ok None) (cond v (Ok (Some (mapping_at text))) (Err MalformedMapping)) ≡ Ok None → text ≡ line_feed ∷ drop 1 text
    go true v b e = begins-is text (line_feed ∷ []) b
    go false true b e = no_front (cc)
    go false false b e = no_front (cc)

-- Any count of lines that suffices gives the same lines.
lines_none : (n : ℕ) (text : List ℕ) → length text ≡ 0 → mappings_from n text ≡ listed []
lines_none zero text h = refl
lines_none (suc n) text h = cond-true _ _ (eq-eqb _ _ h)

lines_more : (n k : ℕ) (text : List ℕ) → length text ≤ n → length text ≤ k → mappings_from n text ≡ mappings_from k text
lines_more zero k text h l = sym (lines_none k text (omega arith))
lines_more (suc n) zero text h l = lines_none (suc n) text (omega arith)
lines_more (suc n) (suc k) text h l =
    go (eqb (length text) 0) refl (front_of text) (lines_more n k (drop 1 text)) (lines_more n k (drop line_bytes text))
  where
    go : (t : Bool) → eqb (length text) 0 ≡ t → (f : Result (Option Mapping) Refusal)
        → (length (drop 1 text) ≤ n → length (drop 1 text) ≤ k → mappings_from n (drop 1 text) ≡ mappings_from k (drop 1 text))
        → (length (drop line_bytes text) ≤ n → length (drop line_bytes text) ≤ k → mappings_from n (drop line_bytes text) ≡ mappings_from k (drop line_bytes text))
        → cond t (listed []) (following (mappings_from n) text f) ≡ cond t (listed []) (following (mappings_from k) text f)
    go true e f a b = refl
    go false e (Ok None) a b =
        let ne = eqb-false (length text) 0 e in
        let d = length-drop 1 text in
        a (omega arith) (omega arith)
    go false e (Ok (Some m)) a b =
        let ne = eqb-false (length text) 0 e in
        let d = length-drop line_bytes text in
        ap (with_mapping m) (b (omega arith) (omega arith))
    go false e (Err r) a b = refl

pub mappings-equation : MappingsEquation
unfolding mappings_below
mappings-equation text =
    lines_more (length text) (suc (length text)) text (omega arith) (omega arith)
    ∙ go (eqb (length text) 0) refl (front_of text)
  where
    shorter : (n : ℕ) → mappings_from (length text) (drop n text) ≡ mappings_from (length (drop n text)) (drop n text)
    shorter n = let d = length-drop n text in lines_more (length text) (length (drop n text)) (drop n text) (omega arith) (omega arith)

    go : (t : Bool) → eqb (length text) 0 ≡ t → (f : Result (Option Mapping) Refusal)
        → cond t (listed []) (following (mappings_from (length text)) text f) ≡ cond t (listed []) (following mappings_below text f)
    go true e f = refl
    go false e (Ok None) = shorter 1
    go false e (Ok (Some m)) = ap (with_mapping m) (shorter line_bytes)
    go false e (Err r) = refl

-- no lines at the end, and else what the front says
pub lines_end : (text : List ℕ) → length text ≡ 0 → mappings_below text ≡ listed []
lines_end text h = mappings-equation text ∙ cond-true _ _ (eq-eqb _ _ h)

pub lines-on : (text : List ℕ) {f : Result (Option Mapping) Refusal} → 0 < length text → f ≡ front_of text → mappings_below text ≡ following mappings_below text f
lines-on text h e = mappings-equation text ∙ cond-false _ _ (ne_eqb (length text) 0 (λ z. omega arith)) ∙ ap (following mappings_below text) (sym e)
