-- Every instruction but the jumps: the words of its line give its entry again, and are its words, cut.
use Prim.Native.Nat.{ℕ, ◌+◌, ◌*◌, ◌/◌, ◌%◌, ◌<◌}
use mathlib.Core.Path.{◌≡◌, refl}
use mathlib.Core.Bool.{Bool, true, false, cond, ◌&&◌, ◌||◌}
use mathlib.Core.List.{List, [], ◌∷◌}
use native.Mathlib.Omega.{arith}
use lib.Dec.{T, eqb, lit<}
use borrow.Author.Tests.{eqb-true, lt-leb}
use Rattle.word.proofs.Choice.{cond_both}
use Rattle.decode.specs.Fields.{joined}
use Rattle.decode.specs.Decode.{instruction_of}
use Rattle.decode.specs.Rows.{row_of}
use Rattle.text.proofs.Tests.{both_left, both_right, clash}
use Rattle.listing.specs.Line.{line_operand}
use Rattle.listing.specs.Cut.{cut_words}
use Rattle.listing.specs.Inner.Rows.{template_of}
use Rattle.listing.specs.Inner.Line.{text_of}
use Rattle.listing.specs.Inner.Entry.{row_line_of, row_entry_for}
use Rattle.listing.specs.Inner.Encode.{line_read, plain_words, encoded, first_words}
use Rattle.listing.proofs.Tests.{truth}
use Rattle.listing.proofs.Table.{shows_operand}
use Rattle.listing.proofs.Back.{read_back}
use Rattle.listing.proofs.EntryWith.{entry_with, cut_with, row_entry, Trip}
use Rattle.listing.proofs.Opcodes.{count_at, counts-at, fields, opcode, plain-line, row-79, shape, with_operand}

-- what holds of one, two and three words holds of a count that shows
pub by_count : (P : ℕ → Type 0) → P 1 → P 2 → P 3 → (n : ℕ) (c : Bool) → T (cond (eqb n 1) true (c && (eqb n 2 || eqb n 3))) → P n
by_count P one two three n c t = go (eqb n 1) refl (eqb n 2) refl (eqb n 3) refl t
  where
    go : (i : Bool) → eqb n 1 ≡ i → (j : Bool) → eqb n 2 ≡ j → (k : Bool) → eqb n 3 ≡ k → T (cond i true (c && (j || k))) → P n
    go true e j f k g t = rw (eqb-true n 1 e) one
    go false e true f k g t = rw (eqb-true n 2 f) two
    go false e false f true g t = rw (eqb-true n 3 g) three
    go false e false f false g t = absurd (both_right c false t)

-- the words after an opcode of n words with operand x
abbrev second : ℕ → ℕ → ℕ
second n x = cond (eqb n 3) (x % 256) x

abbrev third : ℕ → ℕ → ℕ
third n x = cond (eqb n 3) (x / 256) 0

halves : (a b : ℕ) → ((a % 256 + b % 256 * 256) % 256 ≡ a % 256) × ((a % 256 + b % 256 * 256) / 256 ≡ b % 256)
halves a b = (omega arith, omega arith)

-- the words cut, where the opcode is not the jump's
abbrev pub plain-cut : ℕ → ℕ → ℕ → ℕ → List ℕ
plain-cut n w a b = cond (eqb n 3) (w ∷ a % 256 ∷ b % 256 ∷ []) (w ∷ a ∷ b ∷ [])

module _ (w a b n : ℕ) (c : Bool) (t : T (cond (eqb n 1) true (c && (eqb n 2 || eqb n 3)))) where
  operand-again : line_operand n (second n (line_operand n a b)) (third n (line_operand n a b)) ≡ line_operand n a b
  unfolding line_operand joined
  operand-again =
      by_count (λ (n : ℕ). line_operand n (second n (line_operand n a b)) (third n (line_operand n a b)) ≡ line_operand n a b)
      refl refl (omega arith) n c t

  first-again : first_words (w ∷ second n (line_operand n a b) ∷ third n (line_operand n a b) ∷ []) n ≡ first_words (plain-cut n w a b) n
  unfolding line_operand joined
  first-again =
      by_count (λ (n : ℕ). first_words (w ∷ second n (line_operand n a b) ∷ third n (line_operand n a b) ∷ []) n ≡ first_words (plain-cut n w a b) n)
      refl refl (rw ((halves a b).0, (halves a b).1)) n c t

  cut_again : first_words (plain-cut n w (second n (line_operand n a b)) (third n (line_operand n a b))) n ≡ first_words (plain-cut n w a b) n
  unfolding line_operand joined
  cut_again =
      let i : a % 256 % 256 ≡ a % 256 = omega arith in
      let j : b % 256 % 256 ≡ b % 256 = omega arith in
      by_count (λ (n : ℕ). first_words (plain-cut n w (second n (line_operand n a b)) (third n (line_operand n a b))) n ≡ first_words (plain-cut n w a b) n)
      refl refl (rw ((halves a b).0, (halves a b).1, i, j)) n c t

operand-16 : (n a b : ℕ) → a < 65536 → line_operand n a b < 65536
unfolding line_operand joined
operand-16 n a b h = cond_both (λ x. x < 65536) (eqb n 1) (lit< tt) (cond_both (λ x. x < 65536) (eqb n 2) h (omega arith))

operand-0 : (n a b : ℕ) (c : Bool) → T (cond (eqb n 1) true (c && (eqb n 2 || eqb n 3))) → c ≡ false → line_operand n a b ≡ 0
unfolding line_operand
operand-0 n a b c t f = go (eqb n 1) refl t
  where
    go : (i : Bool) → eqb n 1 ≡ i → T (cond i true (c && (eqb n 2 || eqb n 3))) → line_operand n a b ≡ 0
    go true e t = rw e
    go false e t = clash (truth c (both_left c (eqb n 2 || eqb n 3) t)) f

module _ (w a b : ℕ) (double : Bool) (h : w < 1024) (e : eqb w 4 ≡ false) (k : a < 65536) where
  abbrev n : ℕ
  n = (row_of (instruction_of w) double).words

  abbrev x : ℕ
  x = line_operand n a b

  abbrev shows : Bool
  shows = shows_operand (template_of (shape w).row)

  plain-words : encoded (row_line_of (instruction_of w) x a b) double ≡ w ∷ second n x ∷ third n x ∷ []
  unfolding encoded plain_words with_operand
  plain-words =
      rw (
        plain-line w h e x a b,
        lt-leb 79 (shape w).row (row-79 w h e),
        opcode w h e,
        count_at w h e double,
      )
      (go (eqb n 3))
    where
      go : (c : Bool) → cond c (w ∷ x % 256 ∷ x / 256 ∷ []) (w ∷ x ∷ 0 ∷ []) ≡ w ∷ cond c (x % 256) x ∷ cond c (x / 256) 0 ∷ []
      go true = refl
      go false = refl

  plain-again : row_entry w (second n x) (third n x) double ≡ row_entry w a b double
  unfolding row_entry_for
  plain-again =
      rw (
        plain-line w h e (line_operand n (second n x) (third n x)) (second n x) (third n x),
        plain-line w h e x a b,
        operand-again w a b n shows (counts-at w h e double),
      )

  plain_back : line_read (row_line_of (instruction_of w) x a b).row (text_of (row_line_of (instruction_of w) x a b)) ≡ row_line_of (instruction_of w) x a b
  unfolding with_operand
  plain_back =
      rw (plain-line w h e x a b)
      (read_back (shape w).row (shape w).s (shape w).d x (let r = row-79 w h e in omega arith) (fields w h e) (operand-16 n a b k)
      (λ f. operand-0 n a b shows (counts-at w h e double) f))

  pub trip-plain : Trip w a b double
  unfolding entry_with cut_with cut_words row_entry_for
  trip-plain =
      record {
        p = second n x;
        q = third n x;
        words = rw e plain-words;
        entry = rw e plain-again;
        first = rw e (first-again w a b n shows (counts-at w h e double));
        again = rw e (cut_again w a b n shows (counts-at w h e double));
        back = rw e plain_back;
      }
