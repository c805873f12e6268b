-- An entry and its words, cut, from the opcode and the two words after it; and what it is for a line to come back.
use Prim.Native.Nat.{ℕ, zero, suc, ◌%◌, ◌≤◌}
use mathlib.Core.Path.{◌≡◌, refl, ap, ◌∙◌}
use mathlib.Core.Bool.{Bool, true, false, cond}
use mathlib.Core.List.{List, [], ◌∷◌}
use native.Mathlib.Omega.{arith}
use lib.Dec.{eqb}
use lib.ListN.{take}
use borrow.Author.Tests.{eqb-true}
use Rattle.word.specs.Word.{wrap_add}
use Rattle.word.proofs.Choice.{cond_both}
use Rattle.decode.specs.Fields.{opcode_of}
use Rattle.decode.specs.Decode.{control_instruction, low_instruction, instruction_of, is_unspecified, decode_at}
use Rattle.decode.specs.Rows.{interruptible_entry, jump_entry, row_of}
use Rattle.listing.specs.declared.entry.RowEntry.{RowEntry}
use Rattle.listing.specs.Disassemble.{entry_at}
use Rattle.listing.specs.Cut.{cut_words, cut_at}
use Rattle.listing.specs.Inner.Line.{line_with, text_of}
use Rattle.listing.specs.Inner.Entry.{jump_line, row_entry_for, row_entry_at}
use Rattle.listing.specs.Inner.Encode.{line_read, encoded, first_words}
use Rattle.listing.proofs.Entries.{entry-words, entry-count}

-- the entry of an opcode and the two words after it
abbrev pub row_entry : ℕ → ℕ → ℕ → Bool → RowEntry
row_entry w a b double = row_entry_for (instruction_of w) (row_of (instruction_of w) double) a b

unfoldable pub entry_with : ℕ → ℕ → ℕ → Bool → RowEntry
entry_with w a b double =
    cond (eqb w 4)
    (cond (eqb (a % 4) 3) (record { line = line_with 85 0 0 0; words = 1; double = false })
    (record { line = jump_line a b; words = 3; double = false }))
    (row_entry w a b double)

-- its words, cut
unfoldable pub cut_with : ℕ → ℕ → ℕ → Bool → List ℕ
cut_with w a b double = first_words (cut_words (entry_with w a b double).words w a b) (entry_with w a b double).words

jump-entry : (a b : ℕ) (double : Bool) → row_entry 4 a b double ≡ record { line = jump_line a b; words = 3; double = false }
unfolding instruction_of low_instruction control_instruction interruptible_entry jump_entry row_entry_for
jump-entry a b double = refl

-- one, two or three words are taken
first_taken : (n w a b : ℕ) → 1 ≤ n → n ≤ 3 → take n (cut_words n w a b) ≡ first_words (cut_words n w a b) n
unfolding cut_words
first_taken n w a b h k =
    let P : List ℕ → Type 0 = λ ws. take n ws ≡ first_words ws n in
    cond_both P (eqb w 4) (go n h k _ _ _) (cond_both P (eqb n 3) (go n h k _ _ _) (go n h k _ _ _))
  where
    go : (n : ℕ) → 1 ≤ n → n ≤ 3 → (x y z : ℕ) → take n (x ∷ y ∷ z ∷ []) ≡ first_words (x ∷ y ∷ z ∷ []) n
    go zero h k x y z = absurd (omega arith)
    go (suc zero) h k x y z = refl
    go (suc (suc zero)) h k x y z = refl
    go (suc (suc (suc zero))) h k x y z = refl
    go (suc (suc (suc (suc n)))) h k x y z = absurd (omega arith)

module _ (read : ℕ → ℕ) (at : ℕ) (double : Bool) where
  abbrev w : ℕ
  w = opcode_of (read at)

  abbrev a : ℕ
  a = read (wrap_add at 1)

  abbrev b : ℕ
  b = read (wrap_add at 2)

  pub entry-with : row_entry_at read at double ≡ entry_with w a b double
  unfolding row_entry_at decode_at is_unspecified entry_with
  entry-with = go (eqb w 4) refl (eqb (a % 4) 3) refl
    where
      go : (p : Bool) → eqb w 4 ≡ p → (q : Bool) → eqb (a % 4) 3 ≡ q → row_entry_at read at double ≡ entry_with w a b double
      go true e true f = rw (e, f)
      go true e false f = rw (e, f) (ap (λ (n : ℕ). row_entry n a b double) (eqb-true w 4 e) ∙ jump-entry a b double)
      go false e q f = rw e

  pub cut-with : cut_at read at double ≡ cut_with w a b double
  unfolding cut_at cut_with
  cut-with =
      let k = entry-count read at double in
      first_taken (entry_at read at double).words w a b k.0 k.1
      ∙ ap (λ (n : ℕ). first_words (cut_words n w a b) n) (entry-words read at double ∙ ap (λ (e : RowEntry). e.words) entry-with)

-- what the words of a line have to be: with p and q after the opcode they list as the line, and are its words, cut
pub record Trip (w a b : ℕ) (double : Bool) : Type 0 where
  pub p : ℕ
  pub q : ℕ
  pub words : encoded (entry_with w a b double).line double ≡ w ∷ p ∷ q ∷ []
  pub entry : entry_with w p q double ≡ entry_with w a b double
  pub first : first_words (w ∷ p ∷ q ∷ []) (entry_with w a b double).words ≡ cut_with w a b double
  pub again : cut_with w p q double ≡ cut_with w a b double
  pub back : line_read (entry_with w a b double).line.row (text_of (entry_with w a b double).line) ≡ (entry_with w a b double).line
