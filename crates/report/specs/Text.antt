-- The bytes of a text: its lines, and the numbers in them.
use Rattle.std.specs.Prelude.{ℕ, ◌+◌, ◌/◌, ◌%◌, cond, List, [], ◌∷◌, ◌++◌, ltb}
use Prim.Native.Char.{code}
use Rattle.text.specs.Text.{line_feed}

abbrev pub space : ℕ
space = code " "

-- "n decimal": a refusal's number has one digit or two
unfoldable pub decimal_text : ℕ → List ℕ
decimal_text n = cond (ltb n 10) ((code "0" + n) ∷ []) ((code "0" + n / 10) ∷ (code "0" + n % 10) ∷ [])

-- every line ends in a line feed, the last one too
abbrev pub line_text : List ℕ → List ℕ
line_text line = line ++ (line_feed ∷ [])

abbrev pub lines_text : List (List ℕ) → List ℕ
lines_text [] = []
lines_text (line ∷ lines) = line_text line ++ lines_text lines
