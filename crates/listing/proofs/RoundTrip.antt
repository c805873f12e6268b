-- The laws that join listing and assembling: (a), (c), (d) and (f) of `specs/Laws`.
use Prim.Native.Nat.{ℕ, zero, suc, ◌%◌, ◌<◌}
use mathlib.Core.Path.{◌≡◌, refl, sym, ap, ◌∙◌, subst}
use mathlib.Core.Bool.{Bool, true, false}
use mathlib.Core.List.{List, [], ◌∷◌}
use native.Mathlib.Omega.{arith}
use lib.Dec.{eqb, lit<}
use lib.ListN.{get_or}
use borrow.Author.Tests.{eqb-true, eq-eqb}
use Rattle.refusal.specs.Report.{answered}
use Rattle.word.specs.Word.{wrap_add}
use Rattle.word.proofs.Choice.{cond_both}
use Rattle.memory.specs.Bus.{bus_of, read_of}
use Rattle.decode.specs.declared.Instr.TheVariants.{Jump, Read}
use Rattle.decode.specs.Fields.{opcode_of}
use Rattle.decode.specs.Decode.{control_instruction, low_instruction, instruction_of}
use Rattle.decode.specs.Rows.{interruptible_entry, read_words, read_entry}
use Rattle.listing.specs.Cut.{cut_words, cut_at}
use Rattle.listing.specs.Assemble.{assemble_of}
use Rattle.listing.specs.Laws.{ListedComesBack, AcceptsListedLines, SameLineSameWords, AssembledIsCut}
use Rattle.listing.specs.Inner.Entry.{row_entry_for}
use Rattle.listing.specs.Inner.Encode.{first_words}
use Rattle.listing.proofs.EntryWith.{entry_with, cut_with, cut-with}
use Rattle.listing.proofs.Spelling.{text_is}
use Rattle.listing.proofs.Accept.{same-cut, found, comes_back}

pub listed-comes-back : ListedComesBack
listed-comes-back b at double words = comes_back (read_of b) at double (words (wrap_add at 1)) (words (wrap_add at 2))

pub accepts-listed-lines : AcceptsListedLines
accepts-listed-lines =
    record {
      only = λ text double ws e. found text double ws e;
      every = λ text double b at words e.
          let ws = cut_at (read_of b) at double in
          (ws, subst (λ (t : List ℕ). assemble_of t double ≡ answered ws) e (listed-comes-back b at double words));
    }

pub same-line-same-words : SameLineSameWords
same-line-same-words b c at to double wb wc e =
    same-cut (read_of b) at (read_of c) to double (wb (wrap_add at 1)) (wc (wrap_add to 1))
    (text_is (read_of b) at double ∙ e ∙ sym (text_is (read_of c) to double))

-- of three words the first is kept, and a bound of all
first-kept : (w a b n : ℕ) → get_or (first_words (w ∷ a ∷ b ∷ []) n) 0 0 ≡ w
first-kept w a b n =
    let P : List ℕ → Type 0 = λ ws. get_or ws 0 0 ≡ w in
    cond_both P (eqb n 1) refl (cond_both P (eqb n 2) refl refl)

three-low : (w a b n : ℕ) → w < 1024 → a < 1024 → b < 1024 → (i : ℕ) → get_or (first_words (w ∷ a ∷ b ∷ []) n) i 0 < 1024
three-low w a b n h k l =
    let P : List ℕ → Type 0 = λ ws. (i : ℕ) → get_or ws i 0 < 1024 in
    cond_both P (eqb n 1) one (cond_both P (eqb n 2) two three)
  where
    one : (i : ℕ) → get_or (w ∷ []) i 0 < 1024
    one zero = h
    one (suc i) = lit< tt

    two : (i : ℕ) → get_or (w ∷ a ∷ []) i 0 < 1024
    two zero = h
    two (suc zero) = k
    two (suc (suc i)) = lit< tt

    three : (i : ℕ) → get_or (w ∷ a ∷ b ∷ []) i 0 < 1024
    three zero = h
    three (suc zero) = k
    three (suc (suc zero)) = l
    three (suc (suc (suc i))) = lit< tt

module _ (w a b : ℕ) (double : Bool) (h : w < 1024) where
  pub cut-first : get_or (cut_with w a b double) 0 0 ≡ w
  unfolding cut_with cut_words
  cut-first =
      let n = (entry_with w a b double).words in
      let P : List ℕ → Type 0 = λ ws. get_or (first_words ws n) 0 0 ≡ w in
      cond_both P (eqb w 4) (first-kept w (a % 1024) (b % 1024) n)
      (cond_both P (eqb n 3) (first-kept w (a % 256) (b % 256) n) (first-kept w a b n))

  cut-jump : w ≡ 4 → (i : ℕ) → get_or (cut_with w a b double) i 0 < 1024
  unfolding cut_with cut_words
  cut-jump e i =
      rw (eq-eqb w 4 e)
      (three-low w (a % 1024) (b % 1024) (entry_with w a b double).words h (omega arith) (omega arith) i)

  module _ (row d : ℕ) (set : double ≡ true) (is : instruction_of w ≡ Read row 7 d) where
    no-4 : eqb w 4 ≡ false
    unfolding instruction_of low_instruction control_instruction
    no-4 = go (eqb w 4) refl
      where
        go : (c : Bool) → eqb w 4 ≡ c → eqb w 4 ≡ false
        go true e =
            let j : Jump ≡ Read row 7 d = sym (ap instruction_of (eqb-true w 4 e)) ∙ is in
            let z : ◌≡◌ {A = ℕ} 0 1 = cc in
            absurd (omega arith)
        go false e = e

    counted : (entry_with w a b double).words ≡ 3
    unfolding entry_with row_entry_for read_entry interruptible_entry read_words
    counted = rw (no-4, is, set)

    cut-immediate : cut_with w a b double ≡ w ∷ a % 256 ∷ b % 256 ∷ []
    unfolding cut_with cut_words
    cut-immediate = rw (counted, no-4)

pub assembled-is-cut : AssembledIsCut
assembled-is-cut text double ws e =
    let f = found text double ws e in
    let r = read_of (bus_of f.memory) in
    let w = opcode_of (r 0) in
    let a = r (wrap_add 0 1) in
    let b = r (wrap_add 0 2) in
    let c : ws ≡ cut_with w a b double = sym f.cut ∙ cut-with r 0 double in
    let first : get_or ws 0 0 ≡ w = ap (λ (l : List ℕ). get_or l 0 0) c ∙ cut-first w a b double (omega arith) in
    record {
      opcode = rw first (omega arith);
      jump_words_low = λ j i. rw c (cut-jump w a b double (omega arith) (sym first ∙ j) i);
      immediate = λ row d set is.
          rw (c ∙ cut-immediate w a b double (omega arith) row d set (rw first at is)) (refl, (omega arith, omega arith));
    }
