-- The jumps: the words of a jump's line give its entry again, and are its words, cut.
use Prim.Native.Nat.{ℕ, ◌+◌, ◌-◌, ◌*◌, ◌/◌, ◌%◌, ◌<◌, ◌≤◌}
use mathlib.Core.Path.{◌≡◌, refl}
use mathlib.Core.Bool.{Bool, true, false, ◌&&◌}
use mathlib.Core.List.{[], ◌∷◌}
use native.Mathlib.Omega.{arith}
use lib.Dec.{T, eqb, leb, eqb→eq}
use borrow.Author.Tests.{eqb-true, eqb-false, lt-ltb, le-ltb, le-leb}
use Rattle.word.proofs.Choice.{cond_either}
use Rattle.decode.specs.Fields.{jump_target}
use Rattle.text.specs.Text.{digit_of, digit_value}
use Rattle.text.proofs.Tests.{below, below_at, both_left, both_right, clash}
use Rattle.listing.specs.Cut.{cut_words}
use Rattle.listing.specs.Inner.Rows.{rows, template_of, base_of}
use Rattle.listing.specs.Inner.Line.{line_with, sign_of, field_of, glyph_of, text_of}
use Rattle.listing.specs.Inner.Entry.{jump_line}
use Rattle.listing.specs.Inner.Encode.{with_symbol, line_read, jump_word, jump_words, encoded}
use Rattle.listing.specs.declared.line.Line.{Line}
use Rattle.listing.proofs.Tests.{truth, imp, imp-at}
use Rattle.listing.proofs.Table.{shows_operand}
use Rattle.listing.proofs.Entries.{jump-line}
use Rattle.listing.proofs.Back.{backs, read_back}
use Rattle.listing.proofs.EntryWith.{entry_with, cut_with, Trip}

-- the rows from 79 on are the jump's, and read back
abbrev jump_row : ℕ → Bool
jump_row r = imp (leb 79 r) (eqb (base_of r) 4)

pub jump-base : (r : ℕ) → 79 ≤ r → r < 86 → base_of r ≡ 4
unfolding base_of rows
jump-base r k h = eqb→eq (base_of r) 4 (imp-at (leb 79 r) (eqb (base_of r) 4) (below_at jump_row 86 tt r h) (le-leb 79 r k))

-- J JE JD; then JSR JSRE JSRD with R4, R5, R6, numbered by k
abbrev goes_back : ℕ → Bool
goes_back e = backs (79 + e) 0 0 && shows_operand (template_of (79 + e))

abbrev calls_back : ℕ → Bool
calls_back k = backs (82 + k / 4) 0 (k % 4 + 4) && shows_operand (template_of (82 + k / 4))

goes-test : T (below goes_back 3)
unfolding line_read with_symbol digit_value text_of glyph_of field_of digit_of sign_of template_of rows
goes-test = tt

calls-test : T (below calls_back 12)
unfolding line_read with_symbol digit_value text_of glyph_of field_of digit_of sign_of template_of rows
calls-test = tt

goes : (e x : ℕ) → e < 3 → x < 65536 → line_read (79 + e) (text_of (line_with (79 + e) 0 0 x)) ≡ line_with (79 + e) 0 0 x
goes e x h k =
    let t = below_at goes_back 3 goes-test e h in
    read_back (79 + e) 0 0 x (omega arith) (both_left (backs (79 + e) 0 0) (shows_operand (template_of (79 + e))) t) k
    (λ f. clash (truth (shows_operand (template_of (79 + e))) (both_right (backs (79 + e) 0 0) (shows_operand (template_of (79 + e))) t)) f)

calls : (e r x : ℕ) → e < 3 → r < 4 → x < 65536 → line_read (82 + e) (text_of (line_with (82 + e) 0 (r + 4) x)) ≡ line_with (82 + e) 0 (r + 4) x
calls e r x h l k =
    let i : (e * 4 + r) / 4 ≡ e = omega arith in
    let j : (e * 4 + r) % 4 ≡ r = omega arith in
    let t : T (backs (82 + e) 0 (r + 4) && shows_operand (template_of (82 + e))) = rw (i, j) at (below_at calls_back 12 calls-test (e * 4 + r) (omega arith)) in
    read_back (82 + e) 0 (r + 4) x (omega arith) (both_left (backs (82 + e) 0 (r + 4)) (shows_operand (template_of (82 + e))) t) k
    (λ f. clash (truth (shows_operand (template_of (82 + e))) (both_right (backs (82 + e) 0 (r + 4)) (shows_operand (template_of (82 + e))) t)) f)

none : line_read 85 (text_of (line_with 85 0 0 0)) ≡ line_with 85 0 0 0
unfolding line_read with_symbol text_of glyph_of template_of rows
none = refl

module _ (a b : ℕ) (double : Bool) where
  -- bits 3: any second word that ends in them
  pub trip-none : eqb (a % 4) 3 ≡ true → Trip 4 a b double
  unfolding entry_with cut_with cut_words encoded jump_words jump_word base_of rows
  trip-none f =
      record {
        p = 3;
        q = 0;
        words = rw f;
        entry = rw f;
        first = rw f;
        again = rw f;
        back = rw f none;
      }

  abbrev address : ℕ
  address = jump_target a b

  high : address / 1024 ≡ a / 4 % 64
  unfolding jump_target
  high = omega arith

  low : address % 1024 ≡ b % 1024
  unfolding jump_target
  low = omega arith

  word-16 : address < 65536
  unfolding jump_target
  word-16 = omega arith

  module _ (f : eqb (a % 4) 3 ≡ false) where
    e_3 : a % 4 < 3
    e_3 = let n = eqb-false (a % 4) 3 f in omega arith

    away-words : eqb (a / 256 % 4) 3 ≡ true → encoded (line_with (79 + a % 4) 0 0 address) double ≡ 4 ∷ a % 1024 ∷ b % 1024 ∷ []
    unfolding encoded jump_words jump_word
    away-words g =
        let l = e_3 in
        let r : a / 256 % 4 ≡ 3 = eqb-true (a / 256 % 4) 3 g in
        let m : 768 + (79 + a % 4 - 79) + a / 4 % 64 * 4 ≡ a % 1024 = omega arith in
        rw (
          le-leb 79 (79 + a % 4) (omega arith),
          jump-base (79 + a % 4) (omega arith) (omega arith),
          lt-ltb (79 + a % 4) 82 (omega arith),
          high,
          low,
          m,
        )

    call-words : eqb (a / 256 % 4) 3 ≡ false → encoded (line_with (82 + a % 4) 0 (a / 256 % 4 + 4) address) double ≡ 4 ∷ a % 1024 ∷ b % 1024 ∷ []
    unfolding encoded jump_words jump_word
    call-words g =
        let l = e_3 in
        let m : (a / 256 % 4 + 4) % 4 * 256 + (82 + a % 4 - 82) + a / 4 % 64 * 4 ≡ a % 1024 = omega arith in
        rw (
          le-leb 79 (82 + a % 4) (omega arith),
          jump-base (82 + a % 4) (omega arith) (omega arith),
          le-ltb (82 + a % 4) 82 (omega arith),
          high,
          low,
          m,
        )

    pub jump_words_low : encoded (jump_line a b) double ≡ 4 ∷ a % 1024 ∷ b % 1024 ∷ []
    jump_words_low =
        rw (jump-line a b)
        (cond_either (λ (l : Line). encoded l double ≡ 4 ∷ a % 1024 ∷ b % 1024 ∷ []) (eqb (a / 256 % 4) 3) away-words call-words)

    jump_back : line_read (jump_line a b).row (text_of (jump_line a b)) ≡ jump_line a b
    jump_back =
        rw (jump-line a b)
        (cond_either (λ (l : Line). line_read l.row (text_of l) ≡ l) (eqb (a / 256 % 4) 3)
        (λ g. goes (a % 4) address e_3 word-16)
        (λ g. calls (a % 4) (a / 256 % 4) address e_3 (omega arith) word-16))

    cut-jump : jump_line (a % 1024) (b % 1024) ≡ jump_line a b
    unfolding jump_target
    cut-jump =
        let d : a / 256 ≡ a / 1024 * 4 + a % 1024 / 256 = omega arith in
        let i : a % 1024 / 256 % 4 ≡ a / 256 % 4 = rw d (omega arith) in
        let j : a % 1024 % 4 ≡ a % 4 = omega arith in
        let g : a / 4 ≡ a / 1024 * 256 + a % 1024 / 4 = omega arith in
        let k : a % 1024 / 4 % 64 ≡ a / 4 % 64 = rw g (omega arith) in
        let l : b % 1024 % 1024 ≡ b % 1024 = omega arith in
        rw (jump-line (a % 1024) (b % 1024), jump-line a b, i, j, k, l)

    pub jump-again : entry_with 4 (a % 1024) (b % 1024) double ≡ entry_with 4 a b double
    unfolding entry_with
    jump-again = let j : a % 1024 % 4 ≡ a % 4 = omega arith in rw (j, f, cut-jump)

    pub trip-jump : Trip 4 a b double
    unfolding entry_with cut_with cut_words
    trip-jump =
        let j : a % 1024 % 4 ≡ a % 4 = omega arith in
        let k : a % 1024 % 1024 ≡ a % 1024 = omega arith in
        let l : b % 1024 % 1024 ≡ b % 1024 = omega arith in
        record {
          p = a % 1024;
          q = b % 1024;
          words = rw f jump_words_low;
          entry = jump-again;
          first = rw f;
          again = rw (j, f, k, l);
          back = rw f jump_back;
        }
