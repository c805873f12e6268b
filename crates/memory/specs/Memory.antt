-- Document 01, "The board the step sees": "Memory is a lent run of 0 to 65,536 16-bit words."
use Rattle.std.specs.Prelude.{ℕ, Bool, List, ltb, length, get_or, set}

-- "A read past its end gives $FFFF"
unfoldable pub peek_of : List ℕ → ℕ → ℕ
peek_of m a = get_or m a 0xFFFF

-- "a write there does nothing"
unfoldable pub poke_of : List ℕ → ℕ → ℕ → List ℕ
poke_of m a w = set m a w

-- refusal 1: "memory above 65,536 words"
abbrev pub too_long : List ℕ → Bool
too_long m = ltb 65536 (length m)
