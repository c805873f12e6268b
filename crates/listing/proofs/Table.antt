-- What one test of each row shows of the table of `specs/Inner/Rows`: its opcodes are low, and its templates can be read back.
use Prim.Native.Nat.{ℕ, suc, ◌<◌, ◌≤◌}
use Prim.Native.Char.{code}
use mathlib.Core.Path.{◌≡◌}
use mathlib.Core.Bool.{Bool, true, false, cond, ◌&&◌, ◌||◌}
use mathlib.Core.List.{List, [], ◌∷◌, map}
use lib.Dec.{T, eqb, leb, ltb, leb→le}
use lib.ListN.{length, get_or, get_or-map}
use borrow.Author.Tests.{eq-eqb}
use Rattle.text.specs.Text.{codes, same_text}
use Rattle.text.proofs.Tests.{below, below_at, both_left, both_right, same-eq}
use Rattle.listing.specs.Inner.Rows.{LineRow, row, first_letter, rows, template_of, base_of, OfRegisters}
use Rattle.listing.proofs.Tests.{truth, imp, imp-at}

-- the columns of the table
pub templates-at : (r : ℕ) → get_or (map (λ (l : LineRow). l.template) rows) r [] ≡ template_of r
unfolding template_of
templates-at r = get_or-map (λ (l : LineRow). l.template) rows r (row "" 0)

pub bases-at : (r : ℕ) → get_or (map (λ (l : LineRow). l.base) rows) r 0 ≡ base_of r
unfolding base_of
bases-at r = get_or-map (λ (l : LineRow). l.base) rows r (row "" 0)

abbrev low : ℕ → Bool
low r = ltb (base_of r) 1024

low-test : T (below low 86)
unfolding base_of rows
low-test = tt

pub base-low : (r : ℕ) → r < 86 → base_of r < 1024
base-low r h = leb→le (suc (base_of r)) 1024 (below_at low 86 low-test r h)

-- a letter of the operand's digits: a small letter other than s, d and g
abbrev pub is_hex : ℕ → Bool
is_hex h = cond (ltb h first_letter) false (cond (eqb h (code "s")) false (cond (eqb h (code "d")) false (cond (eqb h (code "g")) false true)))

abbrev pub hexes : List ℕ → List ℕ
hexes [] = []
hexes (h ∷ t) = cond (is_hex h) (h ∷ hexes t) (hexes t)

abbrev occurs : ℕ → List ℕ → Bool
occurs h [] = false
occurs h (x ∷ t) = eqb x h || occurs h t

abbrev pub shows_operand : List ℕ → Bool
shows_operand = occurs (code "w")

-- a template is 3 to 14 symbols long and shows all four digits of the operand, in their order, or none
abbrev pub hex_letters : List ℕ → List ℕ
hex_letters t = cond (shows_operand t) (codes "wxyz") []

abbrev sized : ℕ → Bool
sized r = leb 3 (length (template_of r)) && leb (length (template_of r)) 14

abbrev in_order : ℕ → Bool
in_order r = same_text (hexes (template_of r)) (hex_letters (template_of r))

sized-test : T (below sized 86)
unfolding template_of rows
sized-test = tt

in_order-test : T (below in_order 86)
unfolding template_of rows
in_order-test = tt

module _ (r : ℕ) (h : r < 86) where
  pub template-least : 3 ≤ length (template_of r)
  template-least = leb→le 3 (length (template_of r)) (both_left (leb 3 (length (template_of r))) (leb (length (template_of r)) 14) (below_at sized 86 sized-test r h))

  pub template-most : length (template_of r) ≤ 14
  template-most = leb→le (length (template_of r)) 14 (both_right (leb 3 (length (template_of r))) (leb (length (template_of r)) 14) (below_at sized 86 sized-test r h))

  pub template-hexes : hexes (template_of r) ≡ hex_letters (template_of r)
  template-hexes = same-eq (hexes (template_of r)) (hex_letters (template_of r)) (truth (in_order r) (below_at in_order 86 in_order-test r h))

-- a template that has s at place 6 is that of two registers, its name the first four symbols
abbrev pub registers_in : List ℕ → List ℕ
registers_in t = get_or t 0 0 ∷ get_or t 1 0 ∷ get_or t 2 0 ∷ get_or t 3 0 ∷ codes " Rs,Rd"

abbrev name_in : List ℕ → Bool
name_in t = below (λ i. ltb (get_or t i 0) first_letter) 4

abbrev registers : ℕ → Bool
registers r = imp (eqb (get_or (template_of r) 6 0) (code "s")) (same_text (template_of r) (registers_in (template_of r)) && name_in (template_of r))

registers-test : T (below registers 86)
unfolding template_of rows
registers-test = tt

module _ (r : ℕ) (h : r < 86) (e : OfRegisters r) where
  registers-at : T (same_text (template_of r) (registers_in (template_of r)) && name_in (template_of r))
  registers-at =
      imp-at (eqb (get_or (template_of r) 6 0) (code "s")) (same_text (template_of r) (registers_in (template_of r)) && name_in (template_of r))
      (below_at registers 86 registers-test r h) (eq-eqb (get_or (template_of r) 6 0) (code "s") e)

  pub registers-template : template_of r ≡ registers_in (template_of r)
  registers-template =
      same-eq (template_of r) (registers_in (template_of r))
      (truth (same_text (template_of r) (registers_in (template_of r))) (both_left (same_text (template_of r) (registers_in (template_of r))) (name_in (template_of r)) registers-at))

  pub registers-name : (i : ℕ) → i < 4 → ltb (get_or (template_of r) i 0) first_letter ≡ true
  registers-name i k =
      truth (ltb (get_or (template_of r) i 0) first_letter)
      (below_at (λ i. ltb (get_or (template_of r) i 0) first_letter) 4 (both_right (same_text (template_of r) (registers_in (template_of r))) (name_in (template_of r)) registers-at) i k)
