-- A line is guessed to be of its row.
use Prim.Native.Nat.{ℕ, suc, ◌<◌}
use Prim.Native.Char.{code}
use mathlib.Core.Path.{◌≡◌, refl, sym, ap, ◌∙◌}
use mathlib.Core.Bool.{Bool, true, false, cond, ◌&&◌, ◌||◌}
use mathlib.Core.List.{List}
use native.Mathlib.Omega.{arith}
use lib.Dec.{T, eqb, ltb, eqb→eq, leb→le}
use lib.ListN.{length, get_or}
use borrow.Author.Tests.{eqb-true, ltb-true, ltb-false, le-ltb}
use Rattle.word.proofs.Choice.{cond_both}
use Rattle.text.proofs.Tests.{below, below_at, both_left, both_right}
use Rattle.listing.specs.declared.line.Line.{Line}
use Rattle.listing.specs.declared.guess.Start.{Start}
use Rattle.listing.specs.Inner.Rows.{first_letter, rows, template_of}
use Rattle.listing.specs.Inner.Line.{sign_of, glyph_of, text_of}
use Rattle.listing.specs.Inner.Guess.{Guesses, Names, only, letter, bytes, byte_of, told, names, start_of, guess_of}
use Rattle.listing.proofs.Table.{template-least}
use Rattle.listing.proofs.Lines.{text-length, text_at}

-- every row that may be told is one of the table
abbrev low : Names → Bool
low (only r) = ltb r 86
low (letter i c here others) = low here && low others
low (bytes n here others) = low here && low others

told-low : (m : Names) (x : Start) → T (low m) → told m x < 86
told-low (only r) x t = leb→le (suc r) 86 t
told-low (letter i c here others) x t =
    cond_both (λ n. n < 86) (eqb (byte_of x i) (code c))
    (told-low here x (both_left (low here) (low others) t)) (told-low others x (both_right (low here) (low others) t))
told-low (bytes n here others) x t =
    cond_both (λ n. n < 86) (eqb x.length n)
    (told-low here x (both_left (low here) (low others) t)) (told-low others x (both_right (low here) (low others) t))

pub guess-in : (text : List ℕ) → guess_of text < 86
unfolding guess_of
guess-in text = cond_both (λ n. n < 86) (ltb (length text) 3) (omega arith) (told-low names (start_of text) tt)

-- a symbol with the sign c for the letter g
abbrev signed : ℕ → ℕ → ℕ
signed c h = cond (eqb h (code "g")) c h

-- the symbol has no other letter
abbrev plain : ℕ → Bool
plain h = ltb h first_letter || eqb h (code "g")

-- what tells the row of a template with the sign c
abbrev start_with : ℕ → List ℕ → Start
start_with c t =
    record {
      length = length t;
      first = signed c (get_or t 0 0);
      second = signed c (get_or t 1 0);
      third = signed c (get_or t 2 0);
      fourth = cond (ltb (length t) 8) (code " ") (signed c (get_or t 3 0));
    }

-- no digit counts
abbrev plain_start : List ℕ → Bool
plain_start t =
    (plain (get_or t 0 0) && plain (get_or t 1 0)) && (plain (get_or t 2 0) && (ltb (length t) 8 || plain (get_or t 3 0)))

-- with either sign the row is told
abbrev leads : ℕ → ℕ → Bool
leads c r = eqb (told names (start_with c (template_of r))) r

leads-test : T (below (λ r. (leads (code "+") r && leads (code "-") r) && plain_start (template_of r)) 86)
unfolding template_of rows
leads-test = tt

plain-glyph : (l : Line) (h : ℕ) → T (plain h) → glyph_of l h ≡ signed (sign_of l.s) h
unfolding glyph_of
plain-glyph l h p = go (ltb h first_letter) refl (eqb h (code "g")) refl p
  where
    go : (a : Bool) → ltb h first_letter ≡ a → (b : Bool) → eqb h (code "g") ≡ b → T (a || b) → glyph_of l h ≡ signed (sign_of l.s) h
    go true e true f q = absurd (omega (arith, ltb-true h first_letter e, eqb-true h (code "g") f))
    go true e false f q = rw (e, f)
    go false e true f q = rw (e, f)
    go false e false f q = absurd q

module _ (l : Line) (h : l.row < 86) where
  abbrev t : List ℕ
  t = template_of l.row

  abbrev c : ℕ
  c = sign_of l.s

  tests : T ((leads (code "+") l.row && leads (code "-") l.row) && plain_start t)
  tests = below_at (λ r. (leads (code "+") r && leads (code "-") r) && plain_start (template_of r)) 86 leads-test l.row h

  symbols : T (plain_start t)
  symbols = both_right (leads (code "+") l.row && leads (code "-") l.row) (plain_start t) tests

  first_two : T (plain (get_or t 0 0) && plain (get_or t 1 0))
  first_two = both_left (plain (get_or t 0 0) && plain (get_or t 1 0)) (plain (get_or t 2 0) && (ltb (length t) 8 || plain (get_or t 3 0))) symbols

  last-two : T (plain (get_or t 2 0) && (ltb (length t) 8 || plain (get_or t 3 0)))
  last-two = both_right (plain (get_or t 0 0) && plain (get_or t 1 0)) (plain (get_or t 2 0) && (ltb (length t) 8 || plain (get_or t 3 0))) symbols

  byte : (i : ℕ) → i < length t → T (plain (get_or t i 0)) → get_or (text_of l) i 0 ≡ signed c (get_or t i 0)
  byte i k p = text_at l i k ∙ plain-glyph l (get_or t i 0) p

  fourth : (b : Bool) → ltb (length t) 8 ≡ b → T (b || plain (get_or t 3 0)) → cond b (code " ") (get_or (text_of l) 3 0) ≡ cond b (code " ") (signed c (get_or t 3 0))
  fourth true e p = refl
  fourth false e p = let long = ltb-false (length t) 8 e in byte 3 (omega arith) p

  starts : start_of (text_of l) ≡ start_with c t
  starts =
      let least = template-least l.row h in
      let e₀ = byte 0 (omega arith) (both_left (plain (get_or t 0 0)) (plain (get_or t 1 0)) first_two) in
      let e₁ = byte 1 (omega arith) (both_right (plain (get_or t 0 0)) (plain (get_or t 1 0)) first_two) in
      let e₂ = byte 2 (omega arith) (both_left (plain (get_or t 2 0)) (ltb (length t) 8 || plain (get_or t 3 0)) last-two) in
      let e₃ = fourth (ltb (length t) 8) refl (both_right (plain (get_or t 2 0)) (ltb (length t) 8 || plain (get_or t 3 0)) last-two) in
      rw (text-length l, e₀, e₁, e₂, e₃)

  sign-leads : told names (start_with c t) ≡ l.row
  unfolding sign_of
  sign-leads = go (eqb l.s 0)
    where
      both : T (leads (code "+") l.row && leads (code "-") l.row)
      both = both_left (leads (code "+") l.row && leads (code "-") l.row) (plain_start t) tests

      go : (b : Bool) → told names (start_with (cond b (code "+") (code "-")) t) ≡ l.row
      go true = eqb→eq (told names (start_with (code "+") t)) l.row (both_left (leads (code "+") l.row) (leads (code "-") l.row) both)
      go false = eqb→eq (told names (start_with (code "-") t)) l.row (both_right (leads (code "+") l.row) (leads (code "-") l.row) both)

  pub guess-leads : guess_of (text_of l) ≡ l.row
  unfolding guess_of
  guess-leads =
      let least = template-least l.row h in
      let long = text-length l in
      rw (le-ltb (length (text_of l)) 3 (omega arith)) (ap (told names) starts ∙ sign-leads)

pub guesses : (text : List ℕ) → Guesses text (guess_of text)
guesses text l h e = ap guess_of e ∙ guess-leads l h

-- what is guessed, under another name
pub guess-low : (text : List ℕ) (g : ℕ) → g ≡ guess_of text → g < 86
guess-low text g e = rw e (guess-in text)

pub guess-right : (text : List ℕ) (g : ℕ) → g ≡ guess_of text → Guesses text g
guess-right text g e l h f = e ∙ guesses text l h f

-- a line's own row
pub own_row : (l : Line) → l.row < 86 → Guesses (text_of l) l.row
own_row l h m k e = sym (guess-leads l h) ∙ guesses (text_of l) m k e
