-- The loops' invariants, and what each turn of a loop does to them.
use Prim.Native.Nat.{ℕ, suc, max, ◌+◌, ◌<◌, ◌≤◌}
use mathlib.Core.Path.{◌≡◌, refl, sym, ap, ◌∙◌}
use mathlib.Core.List.{List}
use native.Mathlib.Omega.{arith}
use lib.ListN.{length, drop, length-drop}
use Rattle.std.proofs.Common.{Option, None, Some, Result, Ok, Err}
use Rattle.refusal.specs.declared.Refusal.{Refusal}
use Rattle.pair.specs.declared.line.Mapping.{Mapping}
use Rattle.pair.specs.Format.{line_bytes}
use Rattle.pair.specs.Read.{front_of, Mappings, listed, malformed, with_mapping, mappings_below}
use Rattle.pair.specs.Inner.Pass.{file_end, target_end, gathered}
use Rattle.pair.proofs.FrontLaws.{front-refused}
use Rattle.pair.proofs.LinesLaws.{LineShown, line-shown, lines_end, lines-on}

-- The first pass: the mappings before the lines that are left are counted, and reach so far.
pub record Checking (lines left : List ℕ) (count words end : ℕ) : Type 0 where
  pub few : count + length left ≤ length lines
  pub same : gathered count words end (mappings_below left) ≡ gathered 0 0 0 (mappings_below lines)

pub checking : (lines : List ℕ) → Checking lines lines 0 0 0
checking lines = record { few = omega arith; same = refl }

-- one mapping more
gathered-on : (count words end : ℕ) (m : Mapping) (ls : Mappings)
    → gathered (count + 1) (max words (file_end m)) (max end (target_end m)) ls ≡ gathered count words end (with_mapping m ls)
gathered-on count words end m (listed ms) = let e : count + 1 + length ms ≡ count + suc (length ms) = omega arith in rw e
gathered-on count words end m malformed = refl

-- what the front of the lines that are left shows
module _ (left : List ℕ) {f : Result (Option Mapping) Refusal} (e : f ≡ front_of left) where
  pub line_at : {m : Mapping} → f ≡ Ok (Some m) → LineShown left m
  line_at {m} g = line-shown left m (sym e ∙ g)

module _ {lines left : List ℕ} {count words end : ℕ} {f : Result (Option Mapping) Refusal} (k : Checking lines left count words end) (h : 0 < length left)
    (e : f ≡ front_of left) where
  pub checking-blank : f ≡ Ok None → Checking lines (drop 1 left) count words end
  checking-blank g =
      record {
        few = omega (arith, k.few, length-drop 1 left);
        same = ap (gathered count words end) (sym (lines-on left h (sym g ∙ e))) ∙ k.same;
      }

  pub checking-line : {m : Mapping} {w t : ℕ} → f ≡ Ok (Some m) → w ≡ max words (file_end m) → t ≡ max end (target_end m)
      → Checking lines (drop line_bytes left) (count + 1) w t
  checking-line {m} g p q =
      record {
        few = omega (arith, k.few, (line_at left e g).complete, length-drop line_bytes left);
        same =
            rw (p, q) (
            gathered-on count words end m (mappings_below (drop line_bytes left))
            ∙ ap (gathered count words end) (sym (lines-on left h (sym g ∙ e)))
            ∙ k.same);
      }

pub checking-malformed : {lines left : List ℕ} {count words end : ℕ} {r : Refusal} → Checking lines left count words end → 0 < length left
    → Err r ≡ front_of left → Err r ≡ gathered 0 0 0 (mappings_below lines)
checking-malformed {lines} {left} {count} {words} {end} {r} k h e =
    rw (front-refused left r e) (ap (gathered count words end) (sym (lines-on left h e)) ∙ k.same)

pub checking-end : {lines left : List ℕ} {count words end : ℕ} → Checking lines left count words end → length left ≡ 0
    → Ok (record { count = count; words = words; end = end }) ≡ gathered 0 0 0 (mappings_below lines)
checking-end {lines} {left} {count} {words} {end} k h =
    let z : count + 0 ≡ count = omega arith in
    rw z at (ap (gathered count words end) (sym (lines_end left h)) ∙ k.same)
