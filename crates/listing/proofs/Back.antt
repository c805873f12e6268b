-- A line is read back from its text.
use Prim.Native.Nat.{ℕ, ◌+◌, ◌*◌, ◌/◌, ◌%◌, ◌<◌}
use Prim.Native.Char.{code}
use mathlib.Core.Path.{◌≡◌, refl, sym, ap, ◌∙◌}
use mathlib.Core.Bool.{Bool, true, false, cond, ◌&&◌}
use mathlib.Core.List.{List, [], ◌∷◌, map}
use native.Mathlib.Omega.{arith}
use lib.Dec.{T, eqb, ltb, eqb→eq, lit<}
use borrow.Author.Tests.{eqb-true, ne_eqb}
use Rattle.word.proofs.Choice.{cond_both}
use Rattle.text.specs.Text.{codes, digit_value}
use Rattle.text.proofs.Tests.{both_left, both_right}
use Rattle.text.proofs.Digits.{digit-laws}
use Rattle.listing.specs.Inner.Rows.{first_letter, template_of}
use Rattle.listing.specs.Inner.Line.{line_with, field_of, glyph_of, text_of}
use Rattle.listing.specs.Inner.Encode.{with_symbol, read_in, line_read}
use Rattle.listing.specs.declared.line.Line.{Line}
use Rattle.listing.proofs.Table.{hexes, shows_operand, template-hexes}

-- the row stays, and the operand is a word
taken-row : (l : Line) (h c : ℕ) → (with_symbol l h c).row ≡ l.row
unfolding with_symbol
taken-row l h c =
    let P : Line → Type 0 = λ x. x.row ≡ l.row in
    cond_both P (ltb h first_letter) refl
    (cond_both P (eqb h (code "s")) refl (cond_both P (eqb h (code "d")) refl (cond_both P (eqb h (code "g")) refl refl)))

taken-16 : (l : Line) (h c : ℕ) → l.operand < 65536 → (with_symbol l h c).operand < 65536
unfolding with_symbol
taken-16 l h c k =
    let P : Line → Type 0 = λ x. x.operand < 65536 in
    cond_both P (ltb h first_letter) k
    (cond_both P (eqb h (code "s")) k (cond_both P (eqb h (code "d")) k (cond_both P (eqb h (code "g")) k (omega (arith, digit-laws.low c)))))

in_row : (t text : List ℕ) (l : Line) → (read_in t text l).row ≡ l.row
in_row [] text l = refl
in_row (h ∷ t) [] l = refl
in_row (h ∷ t) (c ∷ text) l = in_row t text (with_symbol l h c) ∙ taken-row l h c

in-16 : (t text : List ℕ) (l : Line) → l.operand < 65536 → (read_in t text l).operand < 65536
in-16 [] text l k = k
in-16 (h ∷ t) [] l k = k
in-16 (h ∷ t) (c ∷ text) l k = in-16 t text (with_symbol l h c) (taken-16 l h c k)

pub read-row : (r : ℕ) (text : List ℕ) → (line_read r text).row ≡ r
unfolding line_read
read-row r text = in_row (template_of r) text (line_with r 0 0 0)

pub read-16 : (r : ℕ) (text : List ℕ) → (line_read r text).operand < 65536
unfolding line_read
read-16 r text = in-16 (template_of r) text (line_with r 0 0 0) (lit< tt)

-- s and d are read alike whatever the operand is
module _ (r s d x y : ℕ) where
  step-s : (h : ℕ) (f g : Line) → f.s ≡ g.s → (with_symbol f h (glyph_of (line_with r s d x) h)).s ≡ (with_symbol g h (glyph_of (line_with r s d y) h)).s
  unfolding with_symbol glyph_of field_of
  step-s h f g p = go (ltb h first_letter) refl (eqb h (code "s")) refl (eqb h (code "d")) refl (eqb h (code "g")) refl
    where
      go : (a : Bool) → ltb h first_letter ≡ a → (b : Bool) → eqb h (code "s") ≡ b → (c : Bool) → eqb h (code "d") ≡ c → (e : Bool) → eqb h (code "g") ≡ e
          → (with_symbol f h (glyph_of (line_with r s d x) h)).s ≡ (with_symbol g h (glyph_of (line_with r s d y) h)).s
      go true i b j c k e l = rw i p
      go false i true j c k e l = let n : h ≡ code "s" = eqb-true h (code "s") j in rw (i, j, ne_eqb h (code "g") (λ z. omega arith))
      go false i false j true k e l = rw (i, j, k) p
      go false i false j false k true l = rw (i, j, k, l)
      go false i false j false k false l = rw (i, j, k, l) p

  step-d : (h : ℕ) (f g : Line) → f.d ≡ g.d → (with_symbol f h (glyph_of (line_with r s d x) h)).d ≡ (with_symbol g h (glyph_of (line_with r s d y) h)).d
  unfolding with_symbol glyph_of field_of
  step-d h f g p = go (ltb h first_letter) refl (eqb h (code "s")) refl (eqb h (code "d")) refl (eqb h (code "g")) refl
    where
      go : (a : Bool) → ltb h first_letter ≡ a → (b : Bool) → eqb h (code "s") ≡ b → (c : Bool) → eqb h (code "d") ≡ c → (e : Bool) → eqb h (code "g") ≡ e
          → (with_symbol f h (glyph_of (line_with r s d x) h)).d ≡ (with_symbol g h (glyph_of (line_with r s d y) h)).d
      go true i b j c k e l = rw i p
      go false i true j c k e l = rw (i, j) p
      go false i false j true k e l = let n : h ≡ code "d" = eqb-true h (code "d") k in rw (i, j, k, ne_eqb h (code "g") (λ z. omega arith))
      go false i false j false k true l = rw (i, j, k, l) p
      go false i false j false k false l = rw (i, j, k, l) p

  reads-s : (t : List ℕ) (f g : Line) → f.s ≡ g.s → (read_in t (map (glyph_of (line_with r s d x)) t) f).s ≡ (read_in t (map (glyph_of (line_with r s d y)) t) g).s
  reads-s [] f g p = p
  reads-s (h ∷ t) f g p = reads-s t _ _ (step-s h f g p)

  reads-d : (t : List ℕ) (f g : Line) → f.d ≡ g.d → (read_in t (map (glyph_of (line_with r s d x)) t) f).d ≡ (read_in t (map (glyph_of (line_with r s d y)) t) g).d
  reads-d [] f g p = p
  reads-d (h ∷ t) f g p = reads-d t _ _ (step-d h f g p)

-- the operand is read from its digits alone
abbrev digits_in : Line → List ℕ → ℕ → ℕ
digits_in l [] x = x
digits_in l (h ∷ t) x = digits_in l t (x % 4096 * 16 + digit_value (glyph_of l h))

hex-step : (l : Line) (h : ℕ) (t : List ℕ) (f : Line) → digits_in l (hexes t) (with_symbol f h (glyph_of l h)).operand ≡ digits_in l (hexes (h ∷ t)) f.operand
unfolding with_symbol
hex-step l h t f = go (ltb h first_letter) refl (eqb h (code "s")) refl (eqb h (code "d")) refl (eqb h (code "g")) refl
  where
    go : (a : Bool) → ltb h first_letter ≡ a → (b : Bool) → eqb h (code "s") ≡ b → (c : Bool) → eqb h (code "d") ≡ c → (e : Bool) → eqb h (code "g") ≡ e
        → digits_in l (hexes t) (with_symbol f h (glyph_of l h)).operand ≡ digits_in l (hexes (h ∷ t)) f.operand
    go true i b j c k e m = rw i
    go false i true j c k e m = rw (i, j)
    go false i false j true k e m = rw (i, j, k)
    go false i false j false k true m = rw (i, j, k, m)
    go false i false j false k false m = rw (i, j, k, m)

reads-x : (l : Line) (t : List ℕ) (f : Line) → (read_in t (map (glyph_of l) t) f).operand ≡ digits_in l (hexes t) f.operand
reads-x l [] f = refl
reads-x l (h ∷ t) f = reads-x l t (with_symbol f h (glyph_of l h)) ∙ hex-step l h t f

digits : (x : ℕ) → x < 65536
    → (((0 % 4096 * 16 + x / 4096 % 16) % 4096 * 16 + x / 256 % 16) % 4096 * 16 + x / 16 % 16) % 4096 * 16 + x % 16 ≡ x
digits x h =
    let e₁ : 0 % 4096 * 16 + x / 4096 % 16 ≡ x / 4096 = omega arith in
    let e₂ : x / 4096 % 4096 * 16 + x / 256 % 16 ≡ x / 256 = omega arith in
    let e₃ : x / 256 % 4096 * 16 + x / 16 % 16 ≡ x / 16 = omega arith in
    let e₄ : x / 16 % 4096 * 16 + x % 16 ≡ x = omega arith in
    rw (e₁, e₂, e₃, e₄)

four : (l : Line) → l.operand < 65536 → digits_in l (codes "wxyz") 0 ≡ l.operand
unfolding glyph_of field_of
four l h =
    rw (
      digit-laws.back (l.operand / 4096 % 16) (omega arith),
      digit-laws.back (l.operand / 256 % 16) (omega arith),
      digit-laws.back (l.operand / 16 % 16) (omega arith),
      digit-laws.back (l.operand % 16) (omega arith),
    )
    (digits l.operand h)

shown : (l : Line) (b : Bool) → l.operand < 65536 → (b ≡ false → l.operand ≡ 0) → digits_in l (cond b (codes "wxyz") []) 0 ≡ l.operand
shown l true h z = four l h
shown l false h z = sym (z refl)

-- a row shows s and d: they are read back where the operand is 0
abbrev pub backs : ℕ → ℕ → ℕ → Bool
backs r s d = eqb (line_read r (text_of (line_with r s d 0))).s s && eqb (line_read r (text_of (line_with r s d 0))).d d

module _ (r s d x : ℕ) (h : r < 86) (back : T (backs r s d)) (word : x < 65536) (none : shows_operand (template_of r) ≡ false → x ≡ 0) where
  back_s : (line_read r (text_of (line_with r s d x))).s ≡ s
  unfolding line_read text_of
  back_s =
      reads-s r s d x 0 (template_of r) (line_with r 0 0 0) (line_with r 0 0 0) refl
      ∙ eqb→eq (line_read r (text_of (line_with r s d 0))).s s (both_left (eqb (line_read r (text_of (line_with r s d 0))).s s) (eqb (line_read r (text_of (line_with r s d 0))).d d) back)

  back-d : (line_read r (text_of (line_with r s d x))).d ≡ d
  unfolding line_read text_of
  back-d =
      reads-d r s d x 0 (template_of r) (line_with r 0 0 0) (line_with r 0 0 0) refl
      ∙ eqb→eq (line_read r (text_of (line_with r s d 0))).d d (both_right (eqb (line_read r (text_of (line_with r s d 0))).s s) (eqb (line_read r (text_of (line_with r s d 0))).d d) back)

  back-x : (line_read r (text_of (line_with r s d x))).operand ≡ x
  unfolding line_read text_of
  back-x =
      reads-x (line_with r s d x) (template_of r) (line_with r 0 0 0)
      ∙ ap (λ (t : List ℕ). digits_in (line_with r s d x) t 0) (template-hexes r h)
      ∙ shown (line_with r s d x) (shows_operand (template_of r)) word none

  pub read_back : line_read r (text_of (line_with r s d x)) ≡ line_with r s d x
  read_back =
      let er = read-row r (text_of (line_with r s d x)) in
      λ i. record { row = er i; s = back_s i; d = back-d i; operand = back-x i }
