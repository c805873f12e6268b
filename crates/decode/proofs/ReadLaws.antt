use mathlib.Core.Path.{refl}
-- The words that decoding reads are the first of the instruction's own.
use Prim.Native.Nat.{ℕ}
use mathlib.Core.Path.{◌≡◌, refl, subst, ◌∙◌}
use mathlib.Core.Bool.{Bool, true, false, cond}
use mathlib.Core.List.{List, [], ◌∷◌}
use native.Mathlib.Omega.{arith}
use lib.Dec.{eqb, leb}
use borrow.Author.Tests.{ne_eqb}
use Rattle.word.specs.Word.{wrap_add}
use Rattle.decode.specs.declared.Instr.{Instr}
use Rattle.decode.specs.Fields.{opcode_of}
use Rattle.decode.specs.Decode.{instruction_of, opcode_for, is_unspecified, decode_at}
use Rattle.decode.specs.Rows.{interruptible_entry, jump_entry, row_of}
use Rattle.decode.specs.Reads.{decoding_reads, own_words}
use Rattle.decode.specs.Laws.{Begins, DecodingReadsOwnWords}
use Rattle.decode.proofs.OpcodeLaws.{OfEach, by-opcode-at}
use Rattle.decode.proofs.DecodeLaws.{known_is}

-- what decoding reads where the opcode is w
abbrev reads_by : ℕ → ℕ → List ℕ
reads_by at w = at ∷ cond (eqb w 0x004) (wrap_add at 1 ∷ []) []

module _ (at : ℕ) (double : Bool) where
  abbrev Own : ℕ → Instr → Type 0
  Own w i = Begins (reads_by at w) (own_words at (row_of i double).words)

  -- an opcode that is no jump's is read alone
  one_word : (w n : ℕ) → (w ≡ 0x004 → ⊥) → Begins (reads_by at w) (own_words at n)
  unfolding own_words
  one_word w n h =
      rw (ne_eqb w 0x004 h)
      (record { rest = cond (leb 2 n) (wrap_add at 1 ∷ cond (leb 3 n) (wrap_add at 2 ∷ []) []) []; whole = refl })

  jump_words_low : (t : Bool) → Begins (at ∷ cond t (wrap_add at 1 ∷ []) []) (own_words at jump_entry.words)
  unfolding own_words jump_entry interruptible_entry
  jump_words_low true = record { rest = wrap_add at 2 ∷ []; whole = refl }
  jump_words_low false = record { rest = wrap_add at 1 ∷ wrap_add at 2 ∷ []; whole = refl }

  each-own : (w : ℕ) → OfEach (λ i. opcode_for i ≡ w → Own w i)
  each-own w =
      record {
        hlt = λ e. one_word w _ (λ z. omega arith);
        control = λ d a b c e. one_word w _ (λ z. c (e ∙ z));
        jump = λ e. jump_words_low (eqb w 0x004);
        single = λ s d a b c k e. one_word w _ (λ z. omega arith);
        gswd = λ d a e. one_word w _ (λ z. omega arith);
        nop = λ n a e. one_word w _ (λ z. omega arith);
        sin = λ n a e. one_word w _ (λ z. omega arith);
        shift = λ s d a b e. one_word w _ (λ z. omega arith);
        register = λ row s d a b c k e. one_word w _ (λ z. omega arith);
        branch = λ b a e. one_word w _ (λ z. omega arith);
        store = λ s d a b e. one_word w _ (λ z. omega arith);
        read = λ row s d a b c k e. one_word w _ (λ z. omega arith);
      }

pub decoding-reads-own-words : DecodingReadsOwnWords
unfolding decode_at decoding_reads
decoding-reads-own-words read at double i e =
    let w : ℕ = opcode_of (read at) in
    subst (λ (k : Instr). Begins (reads_by at w) (own_words at (row_of k double).words))
    (known_is (is_unspecified read at w double) i (instruction_of w) e)
    (by-opcode-at (Own at double) (each-own at double) w (omega arith))
