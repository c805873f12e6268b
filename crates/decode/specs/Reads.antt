-- Which words of memory an instruction stands in: those that decoding reads, and its own words. What its execution reads is the processor's.
use Rattle.std.specs.Prelude.{ℕ, cond, List, [], ◌∷◌, eqb, leb}
use Rattle.word.specs.Word.{wrap_add}
use Rattle.decode.specs.Fields.{opcode_of}

-- "each instruction's opcode word and a jump's second word"
unfoldable pub decoding_reads : (ℕ → ℕ) → ℕ → List ℕ
decoding_reads read at = at ∷ cond (eqb (opcode_of (read at)) 0x004) (wrap_add at 1 ∷ []) []

-- an instruction's own words, of which it has one to three
unfoldable pub own_words : ℕ → ℕ → List ℕ
own_words at words = at ∷ cond (leb 2 words) (wrap_add at 1 ∷ cond (leb 3 words) (wrap_add at 2 ∷ []) []) []
