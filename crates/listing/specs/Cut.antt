-- Document 01, "Listing lines": the words that the assembler gives. "Cut so, a listed instruction's words come back equal".
use Rattle.std.specs.Prelude.{ℕ, ◌%◌, Bool, cond, List, [], ◌∷◌, eqb, take}
use Rattle.word.specs.Word.{wrap_add}
use Rattle.decode.specs.Fields.{opcode_of}
use Rattle.listing.specs.Disassemble.{entry_at}

-- "gives opcode and jump words below 1024, and under D the two words of a read row's immediate below 256": opcode w of n words and the two
-- words after it. 004 is the jumps'; of all else only such an immediate has three words.
unfoldable pub cut_words : ℕ → ℕ → ℕ → ℕ → List ℕ
cut_words n w a b =
    cond (eqb w 0x004) (w ∷ a % 1024 ∷ b % 1024 ∷ []) (cond (eqb n 3) (w ∷ a % 256 ∷ b % 256 ∷ []) (w ∷ a ∷ b ∷ []))

-- the words of the instruction at an address, so cut
unfoldable pub cut_at : (ℕ → ℕ) → ℕ → Bool → List ℕ
cut_at read at double =
    let n : ℕ = (entry_at read at double).words in
    take n (cut_words n (opcode_of (read at)) (read (wrap_add at 1)) (read (wrap_add at 2)))
